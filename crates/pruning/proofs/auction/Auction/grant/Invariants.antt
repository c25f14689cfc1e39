use Rattle.std.proofs.Common.{◌≡◌, length}
use Rattle.pruning.specs.Prices.{NoneAbove}
use Rattle.pruning.proofs.auction.Auction.grant.Given as goal

-- no price is above what its pass is worth, moved or not
abbrev pub invariant-loop-i : goal.invariant-loop-i
invariant-loop-i l = (length l.bids.prices ≡ 128) × (length l.bids.given ≡ 128) × NoneAbove 1024 l.self.prepared.night.passes.now l.bids.prices
