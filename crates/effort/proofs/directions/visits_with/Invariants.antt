use Rattle.std.proofs.Common.{◌≡◌, vec_len}
use Rattle.effort.proofs.directions.visits_with.Given as goal

-- a number for each list so far
abbrev pub invariant-loop-number : goal.invariant-loop-number
invariant-loop-number l = vec_len l.visits ≡ l.number
