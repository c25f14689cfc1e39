use Rattle.std.proofs.Common.{arith, ◌∙◌}
use Rattle.effort.proofs.Fronts.{ok_if_not_refused, room_taken}
use Rattle.effort.proofs.Plainly.{best_worth}
use Rattle.effort.proofs.searching.plan_by_planner.Goals as goal

pub unwrap-requires : goal.unwrap-requires
unwrap-requires c =
    let case = c.args.case.now in
    let told = rw c.as_slice-numbers.ensures.value at c.plan_counted.ensures.refusal in
    ok_if_not_refused _ (told ∙ room_taken case.turn case.numbers.items case.taken _ (omega (arith, c.as_mut_slice.ensures.len, c.in_ok-room.ensures.len, c.as_slice-numbers.ensures.len)))

pub returns : goal.returns
returns c =
    best_worth _ _ c.plan_counted.new.room _ (rw (c.unwrap.ensures, c.as_slice-numbers.ensures.value) at c.plan_counted.ensures.planned)
