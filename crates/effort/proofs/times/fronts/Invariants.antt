use Rattle.std.proofs.Common.{◌≡◌, vec_len}
use Rattle.effort.proofs.times.fronts.Given as goal

abbrev pub invariant-loop-case : goal.invariant-loop-case
invariant-loop-case l = vec_len l.fronts ≡ l.case-index
