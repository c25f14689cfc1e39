use Rattle.std.proofs.Common.{◌≡◌, ℕ, ◌*◌, ◌-◌, ◌^◌, ◌<◌, length, get_or}
use Rattle.passes.specs.Rule.{nth}
use Rattle.pruning.proofs.prices.less_prices.Given as goal

-- the gains so far are right, and none is above what prices can be
abbrev pub invariant-loop-i : goal.invariant-loop-i
invariant-loop-i l = (length l.gains ≡ 128) × ((k : ℕ) → k < l.i → get_or l.gains k 0 ≡ 1024 * (nth l.passes k).worth - get_or l.prices k 0) × ((k : ℕ) → k < l.i → get_or l.gains k 0 < 2 ^ 42)
