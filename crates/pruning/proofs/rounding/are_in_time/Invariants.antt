use Rattle.std.proofs.Common.{ℕ, ◌+◌, ◌<◌, ◌≤◌}
use Rattle.passes.specs.Rule.{nth}
use Rattle.pruning.proofs.rounding.are_in_time.Given as goal

-- the passes looked at so far are
abbrev pub invariant-loop-i : goal.invariant-loop-i
invariant-loop-i l = ((k : ℕ) → k < l.i → (nth l.passes k).from < (nth l.passes k).to) × ((k : ℕ) → k + 1 < l.i → (nth l.passes k).from ≤ (nth l.passes (k + 1)).from)
