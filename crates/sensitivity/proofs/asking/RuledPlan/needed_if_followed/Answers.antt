use Rattle.std.proofs.Common.{◌≡◌, ◌-◌, true, false, sym, ◌∙◌, rules, arith}
use Rattle.passes.specs.Nights.{passes_of}
use Rattle.passes.specs.Rule.{nth}
use Rattle.planner.specs.Ruled.{fits_by}
use Rattle.sensitivity.specs.Needing.{BestAsked}
use Rattle.sensitivity.proofs.Bounds.{small_worth}
use Rattle.sensitivity.proofs.Needs.{split_own, best_as_it_does}
use Rattle.sensitivity.proofs.Searched.{needed_if_followed, needed_always}
use Rattle.sensitivity.proofs.OnePass.{steady_by, long_by}
use Rattle.sensitivity.proofs.asking.RuledPlan.needed_if_followed.Given.{Over}
use Rattle.sensitivity.proofs.asking.RuledPlan.needed_if_followed.Goals as goal
use Rattle.sensitivity.proofs.asking.RuledPlan.needed_if_followed.Goals.{After-copy_from_slice}

pub copy_from_slice-requires : goal.copy_from_slice-requires
copy_from_slice-requires g c =
    let n = c.args.self.now.night.now in
    c.requires.can_ask.one_each ∙ sym (long_by n.station (g.R.Rule.automaton c.args.self.now.rule) (passes_of n) c.args.self.now.plan.now c.requires.can_ask.best.is_good)

-- the plan is a best one of those that follow the pass
left : (g : Over) (c : After-copy_from_slice g) → let n = c.args.self.now.night.now in BestAsked (fits_by n.station (g.R.Rule.automaton c.args.self.now.rule)) true (passes_of n) c.args.place c.copy_from_slice.new.self
left g c =
    let n = c.args.self.now.night.now in
    let r = g.R.Rule.automaton c.args.self.now.rule in
    let ps = passes_of n in
    rw c.copy_from_slice.ensures.after (best_as_it_does (fits_by n.station r) ps c.args.place c.requires.can_ask.within (steady_by n.station r ps c.args.place) (long_by n.station r ps) true c.args.self.now.plan.now c.args.self.now.worth c.requires.can_ask.best c.requires.followed)

pub overflow_cast-needed : goal.overflow_cast-needed
overflow_cast-needed g c =
    let n = c.args.self.now.night.now in
    let r = g.R.Rule.automaton c.args.self.now.rule in
    let ps = passes_of n in
    let found = rw c.in-Some.is at c.best_at-found.ensures in
    let own = split_own (fits_by n.station r) ps c.args.place c.requires.can_ask.within (steady_by n.station r ps c.args.place) (long_by n.station r ps) false c.best_at-found.new.room found.0.is_good found.0.asked in
    omega (arith, found.1, small_worth n.station ps c.best_at-found.new.room n.ok, c.saturating_sub.ensures)

pub returns-in-Some : goal.returns-in-Some
returns-in-Some g c =
    let n = c.args.self.now.night.now in
    let r = g.R.Rule.automaton c.args.self.now.rule in
    let ps = passes_of n in
    let found = rw c.in-Some.is at c.best_at-found.ensures in
    let is : c.saturating_sub.result ≡ c.in-Some.worth - (c.args.self.now.worth - (nth ps c.args.place).worth) = search rules in
    record { told = rw is (needed_if_followed (fits_by n.station r) ps c.args.place c.requires.can_ask.within (steady_by n.station r ps c.args.place) (long_by n.station r ps) c.args.self.now.plan.now c.args.self.now.worth c.requires.can_ask.best c.args.room.now c.best_at-found.new.room c.in-Some.worth c.requires.followed found); left = left g (goal.at.returns-in-Some g c).After-copy_from_slice }

pub returns-in-None : goal.returns-in-None
returns-in-None g c =
    let n = c.args.self.now.night.now in
    let r = g.R.Rule.automaton c.args.self.now.rule in
    let ps = passes_of n in
    record { told = needed_always (fits_by n.station r) ps c.args.place c.requires.can_ask.within (steady_by n.station r ps c.args.place) (long_by n.station r ps) c.args.self.now.plan.now c.args.self.now.worth c.requires.can_ask.best _ c.best_at-found.new.room c.requires.followed (rw c.in-None.is at c.best_at-found.ensures); left = left g (goal.at.returns-in-None g c).After-copy_from_slice }
