use Rattle.std.proofs.Common.{◌≡◌, length, take, replicate, sym, ap, ◌∙◌, arith, rules}
use lib.ListN.{length-replicate}
use Rattle.std.proofs.lemmas.List.{take-replicate}
use Rattle.std.proofs.lemmas.Result.{MatchResult-at_ok}
use Rattle.passes.specs.Plans.{Plan}
use Rattle.passes.specs.Rule.{says}
use Rattle.passes.proofs.Checking.{checked_says, few_dishes_from_checked}
use Rattle.passes.proofs.Goodness.{fits_says}
use Rattle.passes.proofs.Taking.{room_ok}
use Rattle.capacity.specs.Assignments.{FollowsAll}
use Rattle.capacity.proofs.Greedy.{all_zero}
use Rattle.capacity.proofs.Timing.{in_time_from_checked}
use Rattle.capacity.proofs.assigning.assign_all.Goals as goal

pub give_dishes-requires : goal.give_dishes-requires
give_dishes-requires c =
    let same = c.passes-passes.ensures in
    let few = (checked_says _ _ c.args.night.now.ok).few in
    let n = length c.passes-passes.result.now in
    let zeros : ◌≡◌ {A = Plan} (take n (replicate 48 0)) (replicate n 0) = take-replicate n 48 0 (omega (arith, ap length same)) in
    record {
      in_time = rw same (in_time_from_checked _ _ c.args.night.now.ok);
      «open» = c.in_default.ensures;
      few_dishes = rw c.station-station.ensures (few_dishes_from_checked _ _ c.args.night.now.ok);
      empty = λ i. ap (λ ds. says ds i) zeros ∙ all_zero n i;
      one_each = ap length zeros ∙ length-replicate n 0;
    }

pub copy_from_slice-requires : goal.copy_from_slice-requires
copy_from_slice-requires c =
    let room = room_ok _ _ (sym c.in_ok-check_room.ensures) in
    let followed : FollowsAll c.station-station.result c.passes-passes.result.now c.give_dishes.new.plan = search (rules, MatchResult-at_ok) in
    let plan = (fits_says _ _ _ followed.good).one_each in
    omega (arith, ap length c.passes-passes.ensures)
