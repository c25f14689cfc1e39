use Rattle.std.proofs.Common.{◌≡◌, vec_len}
use Rattle.effort.proofs.visits.Given as goal

-- a number for each list so far
abbrev pub invariant-loop-case : goal.invariant-loop-case
invariant-loop-case l = vec_len l.visits ≡ l.case-index
