use Rattle.std.proofs.Common.{◌≡◌, ℕ, ◌*◌, ◌^◌, ◌<◌, ◌≤◌, length, get_or}
use Rattle.passes.specs.Rule.{nth}
use Rattle.pruning.proofs.prices.fair_prices.Given as goal

-- no price so far is above what its pass is worth, which 32 bits hold
abbrev pub invariant-loop-i : goal.invariant-loop-i
invariant-loop-i l = (length l.fair ≡ 128) × ((k : ℕ) → k < l.i → get_or l.fair k 0 ≤ 1024 * (nth l.passes k).worth) × ((k : ℕ) → k < l.i → (nth l.passes k).worth < 2 ^ 32)
