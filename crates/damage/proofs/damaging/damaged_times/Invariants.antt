use Rattle.damage.specs.Damages.{DamagedTimes}
use Rattle.damage.proofs.damaging.damaged_times.Given as goal

-- the damages so far
abbrev pub invariant-loop : goal.invariant-loop
invariant-loop g l = DamagedTimes l.counter l.text l.damaged.items
