use Rattle.std.proofs.Common.{◌≡◌, true, Some, ap, arith, rules}
use Rattle.std.proofs.lemmas.List.FromFn.{fill_by_all}
use Rattle.pruning.specs.Rounding.{allowed, next_then}
use Rattle.pruning.proofs.rounding.WideNight.step.Goals as goal

pub returns : goal.returns
returns c =
    let a = c.args in
    let r = a.self.now in
    let may : allowed r.turns.now a.stage a.choice a.state ≡ true = search rules in
    let same = fill_by_all (next_then r.turns.now r.passes.now a.stage a.choice a.state) c.loop-dish.next 8 0 c.loop-dish.invariant.0 (λ d l. c.loop-dish.invariant.1 d (omega arith)) in
    rw may (ap (λ xs. Some (record { next = xs })) same)
