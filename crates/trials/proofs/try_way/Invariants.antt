use Rattle.std.proofs.Common.{◌≡◌, All, vec_len}
use Rattle.trials.specs.Ways.{TriedWithOf}
use Rattle.trials.proofs.try_way.Given as goal

-- as many trials as turns, each of a list of the kind
abbrev pub invariant-loop : goal.invariant-loop
invariant-loop l = (vec_len l.trials ≡ l.counter) × All (TriedWithOf l.way) l.trials.items
