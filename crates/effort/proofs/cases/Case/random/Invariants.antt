use Rattle.effort.proofs.Growing.{Growing}
use Rattle.effort.proofs.cases.Case.random.Given as goal

-- there is a good pass for each begin so far
abbrev pub invariant-loop-place : goal.invariant-loop-place
invariant-loop-place l = Growing l.shape l.from-items l.numbers.items l.place
