use Rattle.trials.specs.Needs.{AskedOfLists}
use Rattle.trials.proofs.ask_kind.Given as goal

-- something is said of as many lists as turns
abbrev pub invariant-loop : goal.invariant-loop
invariant-loop l = AskedOfLists l.kind l.counter l.all.items
