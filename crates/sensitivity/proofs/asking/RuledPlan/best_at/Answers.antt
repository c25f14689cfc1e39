use Rattle.std.proofs.Common.{ap, arith}
use Rattle.engine.specs.Rules.{together}
use Rattle.passes.specs.Nights.{passes_of}
use Rattle.passes.proofs.Checking.{few_dishes_from_checked}
use Rattle.capacity.proofs.Timing.{in_time_from_checked}
use Rattle.planner.specs.Ruled.{fits_by, PlannedBy}
use Rattle.sensitivity.specs.Needing.{with_worth}
use Rattle.sensitivity.specs.PassRules.{ruled_pass, pass_automaton}
use Rattle.sensitivity.proofs.OnePass.{asked_answered}
use Rattle.sensitivity.proofs.Worths.{in_time_same}
use Rattle.sensitivity.proofs.asking.RuledPlan.best_at.Goals as goal

pub best_of_station-requires-clause-few_dishes : goal.best_of_station-requires-clause-few_dishes
best_of_station-requires-clause-few_dishes g c =
    let n = c.args.self.now.night.now in
    omega (arith, few_dishes_from_checked n.station (passes_of n) n.ok, ap (λ s. s.dishes) c.station.ensures)

pub best_of_station-requires-clause-in_time : goal.best_of_station-requires-clause-in_time
best_of_station-requires-clause-in_time g c =
    let n = c.args.self.now.night.now in
    rw (c.copy_from_slice.ensures.after, c.passes.ensures, c.pass.ensures) (in_time_same (passes_of n) (ruled_pass c.args.asked) c.args.worth (in_time_from_checked n.station (passes_of n) n.ok))

pub returns : goal.returns
returns g c =
    let a = c.args in
    let n = a.self.now.night.now in
    let r = g.R.Rule.automaton a.self.now.rule in
    let planned : PlannedBy (fits_by n.station (together r (pass_automaton a.asked))) (with_worth (passes_of n) (ruled_pass a.asked) a.worth) a.room.now c.best_of_station.result.most c.best_of_station.new.room = rw (c.copy_from_slice.ensures.after, c.passes.ensures, c.pass.ensures, c.station.ensures) at c.best_of_station.ensures in
    asked_answered n.station r (passes_of n) a.asked c.requires.within a.worth a.room.now c.best_of_station.new.room c.best_of_station.result.most planned
