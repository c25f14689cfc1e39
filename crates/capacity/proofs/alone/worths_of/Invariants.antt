use Rattle.std.proofs.Common.{◌≡◌, ℕ, ◌<◌, length, get_or}
use Rattle.passes.specs.Rule.{nth}
use Rattle.capacity.proofs.alone.worths_of.Given as goal

abbrev pub invariant-loop-i : goal.invariant-loop-i
invariant-loop-i l = (length l.gains ≡ 48) × ((k : ℕ) → k < l.i → get_or l.gains k 0 ≡ (nth l.passes k).worth)
