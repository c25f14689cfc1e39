use Rattle.pruning.specs.Suiting.{NoneSuited}
use Rattle.pruning.proofs.rounding.WideNight.next_pass.Given as goal

-- no pass looked at so far suits the dish
abbrev pub invariant-loop-next : goal.invariant-loop-next
invariant-loop-next l = NoneSuited l.self.turns.now l.self.passes.now l.dish l.second l.place l.next
