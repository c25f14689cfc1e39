use Rattle.std.proofs.Common.{length, refl, ap, ◌∙◌, arith}
use Rattle.std.proofs.lemmas.List.{length-take-le}
use Rattle.passes.proofs.Checking.{checked_says}
use Rattle.capacity.proofs.Singles.{planned_alone, worth_each, worths_fit}
use Rattle.capacity.proofs.Tables.{one_most}
use Rattle.capacity.proofs.Timing.{in_time_from_checked}
use Rattle.capacity.proofs.alone.plan_alone.Goals as goal

pub invariant_of-alone : goal.invariant_of-alone
invariant_of-alone c = record { in_time = rw c.passes-passes.ensures (in_time_from_checked _ _ c.args.night.now.ok) }

pub fill_table-requires : goal.fill_table-requires
fill_table-requires c =
    let few = (checked_says _ _ c.args.night.now.ok).few in
    let long = ap length c.passes-passes.ensures in
    record {
      a_gain_each = worth_each _ _ c.worths_of-worths.ensures;
      sum_fits = rw (c.worths_of-worths.ensures, c.passes-passes.ensures) (worths_fit _ _ c.args.night.now.ok);
      one_more = length-take-le _ c.args.table.now (omega arith);
      successors = c.find_successors.ensures;
    }

pub returns : goal.returns
returns c =
    let passes = c.passes-passes.result.now in
    let gains = c.worths_of-worths.ensures in
    let filled = c.fill_table.ensures in
    let best = c.follow_table.ensures _ (worth_each passes _ gains) filled in
    let entry = one_most c.station.result 0 passes _ _ _ (c.follow_table.new.room, best, refl) (filled 0 (omega arith) (omega arith)) in
    rw (← c.station.ensures, ← c.passes-passes.ensures)
    (planned_alone c.station.result (ap (λ s. s.dishes) c.station.ensures ∙ c.requires.one_dish) passes c.follow_table.new.room _ (rw gains at best) (rw gains at entry))
