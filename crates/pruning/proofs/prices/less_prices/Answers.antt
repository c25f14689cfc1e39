use Rattle.std.proofs.Common.{◌≡◌, ◌*◌, ◌-◌, ◌<◌, length, take, get_or, ◌∙◌, arith}
use Rattle.std.proofs.lemmas.List.{get_or-take, length-take-le}
use Rattle.std.proofs.lemmas.List.FromFn.{fill_by_all}
use Rattle.passes.specs.Rule.{nth}
use Rattle.pruning.proofs.prices.less_prices.Goals as goal
use Rattle.pruning.proofs.prices.less_prices.Goals.{After-loop-i}

front : (c : After-loop-i) → length (take (length c.args.passes.now) c.loop-i.gains) ≡ length c.args.passes.now
front c = length-take-le (length c.args.passes.now) c.loop-i.gains (omega (arith, c.loop-i.invariant.0, c.requires.few_passes))

pub returns-clause-less : goal.returns-clause-less
returns-clause-less c =
    let ps = c.args.passes.now in
    let l = c.loop-i in
    fill_by_all (λ i. 1024 * (nth ps i).worth - get_or c.args.prices.now i 0) (take (length ps) l.gains) (length ps) 0 (front (goal.at.returns-clause-less c).After-loop-i)
    (λ k h. get_or-take (length ps) l.gains k 0 h ∙ l.invariant.1 k (omega arith))

pub returns-clause-moderate : goal.returns-clause-moderate
returns-clause-moderate c k h =
    let ps = c.args.passes.now in
    let long = front (goal.at.returns-clause-moderate c).After-loop-i in
    let within : k < length ps = omega arith in
    rw (get_or-take (length ps) c.loop-i.gains k 0 within) (c.loop-i.invariant.2 k (omega arith))
