use Rattle.std.proofs.Common.{◌≡◌, ◌-◌, refl, rules, arith}
use Rattle.passes.specs.Nights.{passes_of}
use Rattle.planner.specs.Ruled.{fits_by}
use Rattle.sensitivity.proofs.Bounds.{small_worth}
use Rattle.sensitivity.proofs.Searched.{needed_if_let_go, never_followed}
use Rattle.sensitivity.proofs.OnePass.{steady_by, long_by}
use Rattle.sensitivity.proofs.asking.RuledPlan.needed_if_let_go.Goals as goal

pub overflow_cast-self : goal.overflow_cast-self
overflow_cast-self g c =
    let n = c.args.self.now.night.now in
    omega (arith, c.requires.can_ask.best.worth, small_worth n.station (passes_of n) c.args.self.now.plan.now n.ok)

pub overflow_cast-needed : goal.overflow_cast-needed
overflow_cast-needed g c =
    let n = c.args.self.now.night.now in
    omega (arith, c.requires.can_ask.best.worth, small_worth n.station (passes_of n) c.args.self.now.plan.now n.ok, c.saturating_sub.ensures)

pub returns-in-Some : goal.returns-in-Some
returns-in-Some g c =
    let n = c.args.self.now.night.now in
    let r = g.R.Rule.automaton c.args.self.now.rule in
    let ps = passes_of n in
    let found = rw c.in-Some.is at c.best_at-found.ensures in
    let is : c.saturating_sub.result ≡ c.args.self.now.worth - (c.in-Some.worth - c.saturating_add-raised.result) = search rules in
    record { told = rw is (needed_if_let_go (fits_by n.station r) ps c.args.place c.requires.can_ask.within (steady_by n.station r ps c.args.place) (long_by n.station r ps) c.args.self.now.plan.now c.args.self.now.worth c.requires.can_ask.best c.args.room.now c.best_at-found.new.room _ c.in-Some.worth c.requires.let_go found); left = rw c.copy_from_slice.ensures.after found.0 }

pub returns-in-None : goal.returns-in-None
returns-in-None g c =
    let n = c.args.self.now.night.now in
    let r = g.R.Rule.automaton c.args.self.now.rule in
    let ps = passes_of n in
    record { told = never_followed (fits_by n.station r) ps c.args.place c.requires.can_ask.within (steady_by n.station r ps c.args.place) (long_by n.station r ps) c.args.self.now.plan.now c.args.self.now.worth c.requires.can_ask.best _ c.best_at-found.new.room 0 (rw c.in-None.is at c.best_at-found.ensures); left = refl {a = c.args.room.now} }
