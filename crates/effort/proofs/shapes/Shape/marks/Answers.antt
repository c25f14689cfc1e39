use Rattle.std.proofs.Common.{◌*◌, ◌^◌, ◌≤◌, arith, pow_mono}
use Rattle.std.proofs.Math.Nat.{mod-le}
use Rattle.effort.proofs.shapes.Shape.marks.Goals as goal

pub returns-in-FewMarks-2-clause-small : goal.returns-in-FewMarks-2-clause-small
returns-in-FewMarks-2-clause-small g c =
    let d = c.random_range-in-FewMarks-2.result in
    let small : 2 ^ d ≤ 8 = pow_mono {j = 3} (omega (arith, c.random_range-in-FewMarks-2.ensures.within.1)) in
    omega (arith, small, mod-le (1 * 2 ^ d) 256)
