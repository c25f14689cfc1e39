use Rattle.std.proofs.Common.{◌∙◌, arith}
use Rattle.effort.proofs.Fronts.{ok_if_not_refused, alone_taken, rooms_taken}
use Rattle.effort.proofs.times.Way.visit.Goals as goal

pub unwrap-requires : goal.unwrap-requires
unwrap-requires c =
    let case = c.args.case.now in
    let told = rw c.as_slice-numbers.ensures.value at c.plan_one_dish.ensures.refusal in
    ok_if_not_refused _ (told ∙ alone_taken case.turn case.numbers.items case.taken _ (omega (arith, c.as_mut_slice.ensures.len, c.in_ok-room-in-OneDish.ensures.len, c.as_slice-numbers.ensures.len)))

pub unwrap-requires-in-Why : goal.unwrap-requires-in-Why
unwrap-requires-in-Why c =
    let case = c.args.case.now in
    let numbers = c.as_slice-numbers-in-Why.ensures in
    let told = rw numbers.value at c.try_why-counted.ensures.refusal in
    ok_if_not_refused _ (told ∙ rooms_taken case.turn case.numbers.items case.taken _ _ (omega (arith, c.deref_mut.ensures.len, c.in_ok-room-in-Why.ensures.len, numbers.len)) (omega (arith, c.deref_mut-in-Why.ensures.len, c.in_ok-needed-in-Why.ensures.len, numbers.len)))
