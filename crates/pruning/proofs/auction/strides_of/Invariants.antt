use Rattle.std.proofs.Common.{◌≡◌, ℕ, ◌^◌, ◌<◌, length, get_or}
use Rattle.pruning.proofs.auction.strides_of.Given as goal

-- no stride so far is too large
abbrev pub invariant-loop-i : goal.invariant-loop-i
invariant-loop-i l = (length l.strides ≡ 128) × ((k : ℕ) → k < l.i → get_or l.strides k 0 < 2 ^ 50)
