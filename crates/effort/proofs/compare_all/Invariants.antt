use Rattle.std.proofs.Common.{◌≡◌, All, vec_len}
use Rattle.effort.specs.Comparisons.{ComparedIn}
use Rattle.effort.proofs.compare_all.Given as goal

-- a comparison for each list so far, and each of one of the lists
abbrev pub invariant-loop-case : goal.invariant-loop-case
invariant-loop-case l = (vec_len l.comparisons ≡ l.case-index) × All (ComparedIn l.cases) l.comparisons.items
