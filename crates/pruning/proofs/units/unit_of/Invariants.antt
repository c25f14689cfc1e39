use Rattle.std.proofs.Common.{ℕ, ◌<◌}
use Prim.Native.Nat.{◌∣◌}
use Rattle.passes.specs.Rule.{nth}
use Rattle.pruning.proofs.units.unit_of.Given as goal

-- what the passes looked at so far are worth are multiples, and whatever divides all these divides the unit
abbrev pub invariant-loop-pass : goal.invariant-loop-pass
invariant-loop-pass l = ((k : ℕ) → k < l.pass-index → l.unit ∣ (nth l.passes k).worth) × ((g : ℕ) → ((k : ℕ) → k < l.pass-index → g ∣ (nth l.passes k).worth) → g ∣ l.unit)
