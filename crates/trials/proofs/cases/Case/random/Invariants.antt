use Rattle.std.proofs.Common.{◌≤◌}
use Rattle.trials.proofs.Growing.{Growing}
use Rattle.trials.proofs.cases.Case.random.Given as goal

-- the passes so far are sound and of the kind, and the last begins in the second `from`
abbrev pub invariant-loop-place : goal.invariant-loop-place
invariant-loop-place g l = Growing l.kind l.dishes l.numbers.items l.place l.from × (l.place-end ≤ 6)
