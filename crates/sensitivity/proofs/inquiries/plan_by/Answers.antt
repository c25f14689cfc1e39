use Rattle.std.proofs.Common.{ap, arith}
use Rattle.passes.specs.Nights.{passes_of}
use Rattle.passes.proofs.Checking.{few_dishes_from_checked}
use Rattle.capacity.proofs.Timing.{in_time_from_checked}
use Rattle.sensitivity.proofs.inquiries.plan_by.Goals as goal

pub best_of_station-requires-clause-few_dishes : goal.best_of_station-requires-clause-few_dishes
best_of_station-requires-clause-few_dishes g c =
    let n = c.args.night.now in
    omega (arith, few_dishes_from_checked n.station (passes_of n) n.ok, ap (λ s. s.dishes) c.station.ensures)

pub best_of_station-requires-clause-in_time : goal.best_of_station-requires-clause-in_time
best_of_station-requires-clause-in_time g c =
    let n = c.args.night.now in
    rw c.passes.ensures (in_time_from_checked n.station (passes_of n) n.ok)
