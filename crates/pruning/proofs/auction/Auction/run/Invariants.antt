use Rattle.std.proofs.Common.{◌≤◌}
use Rattle.pruning.specs.Prices.{NoneAbove}
use Rattle.pruning.proofs.auction.Auction.run.Given as goal

-- no price is above what its pass is worth, and steps do not grow
abbrev pub invariant-loop-number : goal.invariant-loop-number
invariant-loop-number l = NoneAbove 1024 l.self.prepared.night.passes.now l.bids.prices × (l.step ≤ 32768)
