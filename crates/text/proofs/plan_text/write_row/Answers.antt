use Rattle.std.proofs.Common.{arith}
use Rattle.std.proofs.lemmas.Bool.Decides.{nat_tests}
use Rattle.std.proofs.lemmas.Grind.{common_steps}
use Rattle.std.proofs.lemmas.Slice.Zip.{either_empty_from_Zip}
use Rattle.text.specs.PlanText.{row}
use Rattle.text.proofs.Ends.{no_row}
use Rattle.text.proofs.plan_text.write_row.Goals as goal

pub loop-label-preserved-in-Continue-1 : goal.loop-label-preserved-in-Continue-1
unfolding row
loop-label-preserved-in-Continue-1 c =
    let turn = c.in-Some.ensures.steps in
    let left = rw (turn.0, turn.1) at c.loop-label.invariant in
    grind (arith, nat_tests, common_steps, left)

pub loop-label-preserved : goal.loop-label-preserved
unfolding row
loop-label-preserved c =
    let turn = c.in-Some.ensures.steps in
    let left = rw (turn.0, turn.1) at c.loop-label.invariant in
    grind (arith, nat_tests, common_steps, left)

pub returns : goal.returns
returns c =
    let none = no_row c.args.what _ _ (either_empty_from_Zip _ c.next.new.self _ c.in-None.is c.next.ensures.steps) in
    let made = rw none at c.loop-label.invariant in
    grind (arith, common_steps, made)
