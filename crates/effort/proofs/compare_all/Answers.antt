use Rattle.std.proofs.Common.{sym, arith}
use Rattle.std.proofs.lemmas.List.Elements.{All-push}
use Rattle.effort.specs.Comparisons.{ComparedIn}
use Rattle.effort.proofs.compare_all.Goals as goal

pub loop-case-preserved : goal.loop-case-preserved
loop-case-preserved c =
    let pushed = c.in_ok-push.ensures in
    let cases = c.args.cases.now in
    let this : ComparedIn cases c.in_ok-compare.field-0 = (c.loop-case.case-index, c.case-item.result, omega (arith, c.loop-case-test.true), sym (c.case-item.is), c.in_ok-compare.ensures) in (
      omega (arith, pushed.len, c.loop-case.invariant.0),
      rw pushed.items (All-push (ComparedIn cases) c.loop-case.comparisons.items c.in_ok-compare.field-0 c.loop-case.invariant.1 this),
    )
