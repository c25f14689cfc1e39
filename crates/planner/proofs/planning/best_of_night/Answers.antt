use Rattle.std.proofs.Common.{◌≤◌, length, replicate, sym, ap, ◌∙◌, arith}
use Rattle.std.proofs.lemmas.List.{length-take-le, take-replicate}
use Rattle.engine.specs.Rules.{anything}
use Rattle.passes.specs.Nights.{passes_of}
use Rattle.passes.proofs.Checking.{checked_says, few_dishes_from_checked}
use Rattle.capacity.proofs.Timing.{in_time_from_checked}
use Rattle.planner.specs.Dishes.{turns_of}
use Rattle.planner.specs.Ruled.{good_by, PlannedBy}
use Rattle.planner.proofs.ByRule.{some_plan, planned_by_none}
use Rattle.planner.proofs.planning.best_of_night.Goals as goal
use Rattle.planner.proofs.planning.best_of_night.Goals.{After-station-station, After-plan_each-gained}

four_dishes : (c : After-station-station) → c.station-station.result.dishes ≤ 4
four_dishes c = omega (arith, few_dishes_from_checked _ _ c.args.night.now.ok, ap (λ s. s.dishes) c.station-station.ensures)

pub slice_bounds-turns-end : goal.slice_bounds-turns-end
slice_bounds-turns-end c = four_dishes (goal.at.slice_bounds-turns-end c).After-station-station

pub slice_bounds-turns-end-2 : goal.slice_bounds-turns-end-2
slice_bounds-turns-end-2 c = sym (length-take-le c.station-station.result.dishes _ (four_dishes (goal.at.slice_bounds-turns-end-2 c).After-station-station))

pub invariant_of-wide : goal.invariant_of-wide
invariant_of-wide c =
    let n = c.args.night.now in
    let few = four_dishes (goal.at.invariant_of-wide c).After-station-station in
    record {
      few_dishes = omega (arith, few, length-take-le c.station-station.result.dishes (replicate 4 c.station-station.result.turn) few);
      few_passes = omega (arith, (checked_says n.station (passes_of n) n.ok).few, ap length c.passes.ensures);
      in_time = rw c.passes.ensures (in_time_from_checked n.station (passes_of n) n.ok);
    }

-- what is answered of the night's dishes, each with its own time to turn, is so of the station
answered : (c : After-plan_each-gained) → c.station-station.result.dishes ≤ 4 → let n = c.args.night.now in PlannedBy (good_by (turns_of n.station) anything) (passes_of n) c.args.room.now c.plan_each-gained.result.most c.plan_each-gained.new.room
answered c few =
    let s = c.station-station.result in
    let same_turns = take-replicate s.dishes 4 s.turn few ∙ ap turns_of c.station-station.ensures in
    rw (same_turns, c.passes.ensures) at c.plan_each-gained.ensures

pub unwrap-requires : goal.unwrap-requires
unwrap-requires c =
    let n = c.args.night.now in
    let few = four_dishes (goal.at.unwrap-requires c).After-station-station in
    some_plan n.station (passes_of n) c.args.room.now c.plan_each-gained.new.room c.plan_each-gained.result.most (answered (goal.at.unwrap-requires c).After-plan_each-gained few)

pub returns : goal.returns
returns c =
    let n = c.args.night.now in
    let few = four_dishes (goal.at.returns c).After-station-station in
    planned_by_none n.station (passes_of n) c.args.room.now c.plan_each-gained.new.room c.unwrap.result (rw c.unwrap.ensures at (answered (goal.at.returns c).After-plan_each-gained few))
