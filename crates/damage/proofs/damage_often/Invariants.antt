use Rattle.std.proofs.Common.{◌≡◌, vec_len}
use Rattle.damage.proofs.damage_often.Given as goal

-- one outcome for each text so far
abbrev pub invariant-loop : goal.invariant-loop
invariant-loop l = vec_len l.outcomes ≡ l.counter
