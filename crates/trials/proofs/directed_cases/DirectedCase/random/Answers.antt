use Rattle.std.proofs.Common.{arith}
use Rattle.trials.proofs.Headed.{none_refused}
use Rattle.trials.proofs.Varied.{in_fours}
use Rattle.trials.proofs.directed_cases.DirectedCase.random.Goals as goal

pub returns-clause-directed : goal.returns-clause-directed
returns-clause-directed g c =
    let fours = in_fours _ _ _ c.in_ok-case.ensures.taken in
    none_refused c.args.way c.random_range-drawn.result _ _ _
    (omega (arith, fours, c.len-end.ensures, c.loop.invariant.0, c.loop-test.false, c.loop.auto.counter-end)) c.loop.invariant.1 (omega (arith, c.step-step.ensures.small))
