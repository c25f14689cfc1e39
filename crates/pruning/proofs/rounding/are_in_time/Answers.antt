use Rattle.std.proofs.Common.{arith}
use Rattle.capacity.proofs.Timing.{in_time_from_neighbours}
use Rattle.pruning.proofs.rounding.are_in_time.Goals as goal

pub returns : goal.returns
returns c = let looked = c.loop-i.invariant in in_time_from_neighbours c.args.passes.now (λ i l. looked.0 i (omega arith)) (λ k l. looked.1 k (omega arith))
