use Rattle.std.proofs.Common.{sym, arith, rules}
use Rattle.pruning.specs.Suiting.{next_is}
use Rattle.pruning.proofs.rounding.WideNight.next_pass.Goals as goal

pub returns-then-suits : goal.returns-then-suits
returns-then-suits c =
    let a = c.args in
    let r = a.self.now in
    sym (next_is r.turns.now r.passes.now a.dish a.second a.place c.requires.within c.loop-next.next (omega arith) (omega arith) c.loop-next.invariant (λ l. search rules))

pub returns : goal.returns
returns c =
    let a = c.args in
    let r = a.self.now in
    sym (next_is r.turns.now r.passes.now a.dish a.second a.place c.requires.within _ c.requires.within (omega arith) (λ j low high. c.loop-next.invariant j low (omega arith)) (λ l. absurd (omega arith)))
