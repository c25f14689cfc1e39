use Rattle.effort.specs.Crossings.{CrossingsOf}
use Rattle.effort.proofs.directions.random_crossings.Given as goal

-- the passes so far cross the sky
abbrev pub invariant-loop : goal.invariant-loop
invariant-loop l = CrossingsOf l.counter l.directions.items
