use Rattle.std.proofs.Common.{ℕ}
use Rattle.std.specs.Int.{IsGcd}
use Rattle.pruning.proofs.units.greatest_common_divisor.Given as goal

-- the second number falls
abbrev pub decreases-loop-b : goal.decreases-loop-b
decreases-loop-b l = l.b

-- what divides both best divides best both that came
abbrev pub invariant-loop-b : goal.invariant-loop-b
invariant-loop-b l = (g : ℕ) → IsGcd l.a l.b g → IsGcd l.initial.a l.initial.b g
