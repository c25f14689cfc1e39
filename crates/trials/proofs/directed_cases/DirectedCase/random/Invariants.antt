use Rattle.std.proofs.Common.{◌≡◌, All, vec_len}
use Rattle.trials.specs.Headings.{Drawn}
use Rattle.trials.proofs.directed_cases.DirectedCase.random.Given as goal

-- as many directions as turns, each of the kind
abbrev pub invariant-loop : goal.invariant-loop
invariant-loop g l = (vec_len l.directions ≡ l.counter) × All (Drawn l.way l.drawn) l.directions.items
