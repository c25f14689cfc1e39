use Rattle.std.proofs.Common.{arith}
use Rattle.effort.proofs.Crossing.{no_refusal}
use Rattle.effort.proofs.directions.plan_with.Goals as goal

pub unwrap-requires : goal.unwrap-requires
unwrap-requires c =
    let case = c.args.case.now in
    let told = rw c.as_slice-numbers.ensures.value at c.try_plan_slewing.ensures.refusal in
    no_refusal case.turn case.numbers.items case.taken c.args.step _ _ _ c.requires.crossings (omega (arith, c.requires.quick))
    (omega (arith, c.as_mut_slice-room.ensures.len, c.in_ok-room.ensures.len, c.as_slice-numbers.ensures.len)) told
