use Rattle.std.proofs.Common.{arith}
use Rattle.trials.proofs.Numbering.{written, all_written}
use Rattle.trials.proofs.all_plans.write_plan.Goals as goal

pub loop-named-preserved : goal.loop-named-preserved
loop-named-preserved c = written _ _ _ _ c.loop-named.room _ (omega (arith, c.loop-named.auto.room)) c.loop-named.invariant (omega arith)

pub returns : goal.returns
returns c = all_written _ _ _ _ c.loop-named.room _ (omega (arith, c.loop-named.auto.room)) c.loop-named.invariant (omega arith)
