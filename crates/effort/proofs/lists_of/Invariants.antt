use Rattle.std.proofs.Common.{◌≡◌, All, vec_len}
use Rattle.effort.specs.Comparisons.{CaseOf}
use Rattle.effort.proofs.lists_of.Given as goal

-- as many lists as turns, each of the shape
abbrev pub invariant-loop-number : goal.invariant-loop-number
invariant-loop-number l = (vec_len l.cases ≡ l.number) × All (CaseOf l.shape) l.cases.items
