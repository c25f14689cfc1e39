use Rattle.std.proofs.Common.{◌≡◌, ◌≤◌, length, sym, ap, ◌∙◌, arith}
use Rattle.std.proofs.lemmas.List.{length-take-le}
use Rattle.passes.specs.Nights.{passes_of}
use Rattle.passes.proofs.Checking.{checked_says, few_dishes_from_checked}
use Rattle.capacity.proofs.Timing.{in_time_from_checked}
use Rattle.planner.specs.Ruled.{fits_by, PlannedBy}
use Rattle.slewing.specs.Directions.{legs}
use Rattle.slewing.specs.Following.{slew_automaton}
use Rattle.slewing.specs.Slewings.{sweeps_of}
use Rattle.slewing.proofs.Planned.{some_plan, best_slewed}
use Rattle.slewing.proofs.answering.best_of_slewing.Goals as goal
use Rattle.slewing.proofs.answering.best_of_slewing.Goals.{After-best_of_station-gained}

pub best_of_station-gained-requires-clause-few_dishes : goal.best_of_station-gained-requires-clause-few_dishes
best_of_station-gained-requires-clause-few_dishes c = omega (arith, few_dishes_from_checked _ _ c.args.night.now.ok, ap (λ s. s.dishes) c.station.ensures)

-- planning by the rule is planning by the automaton of the night and its directions
answered :
    (c : After-best_of_station-gained) →
    let n = c.args.night.now in
    let w = c.args.slewing.now in
    PlannedBy (fits_by n.station (slew_automaton n.station.turn w.step (legs (passes_of n) (sweeps_of w)))) (passes_of n) c.args.room.now c.best_of_station-gained.result.most c.best_of_station-gained.new.room
answered c =
    let rule = c.new-rule.ensures in
    rw (rule.same_turn, rule.same_step, rule.same_passes, rule.same_sweeps, c.station.ensures, c.passes.ensures) at c.best_of_station-gained.ensures

pub unwrap-requires : goal.unwrap-requires
unwrap-requires c =
    let n = c.args.night.now in
    let w = c.args.slewing.now in
    let after = (goal.at.unwrap-requires c).After-best_of_station-gained in
    some_plan n.station w.step (sweeps_of w) (passes_of n) (few_dishes_from_checked _ _ n.ok) (in_time_from_checked _ _ n.ok) c.requires.directed _ _ c.best_of_station-gained.result.most (answered after)

pub returns : goal.returns
returns c =
    let n = c.args.night.now in
    let w = c.args.slewing.now in
    let after = (goal.at.returns c).After-best_of_station-gained in
    best_slewed n.station w.step (sweeps_of w) (passes_of n) (few_dishes_from_checked _ _ n.ok) (in_time_from_checked _ _ n.ok) c.requires.directed _ c.unwrap.result (rw c.unwrap.ensures at (answered after))
