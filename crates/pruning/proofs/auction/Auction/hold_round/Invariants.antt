use Rattle.pruning.specs.Prices.{NoneAbove}
use Rattle.pruning.proofs.auction.Auction.hold_round.Given as goal

-- no price is above what its pass is worth
abbrev pub invariant-loop-asking : goal.invariant-loop-asking
invariant-loop-asking l = NoneAbove 1024 l.self.prepared.night.passes.now l.bids.prices
