use Rattle.std.proofs.Common.{arith}
use Rattle.capacity.proofs.Greedy.{all_zero}
use Rattle.pruning.proofs.auction.Auction.run.Goals as goal

pub loop-number-init : goal.loop-number-init
loop-number-init c = (λ i l. omega (arith, all_zero 128 i), omega arith)
