use Rattle.std.proofs.Common.{◌≡◌, vec_len}
use Rattle.effort.proofs.times.Effort.of.Given as goal

abbrev pub invariant-loop-case : goal.invariant-loop-case
invariant-loop-case l = vec_len l.each ≡ l.case-index
