use Rattle.std.proofs.Common.{◌≡◌, ◌+◌, ◌*◌, ◌^◌, ◌<◌, get_or}
use Rattle.pruning.specs.Prices.{together, entry}
use Rattle.pruning.proofs.prices.PricedGains.bound.Given as goal

-- what the dishes looked at so far can gain is added
abbrev pub invariant-loop-dish : goal.invariant-loop-dish
invariant-loop-dish l =
    let p = l.self in
    (l.bound ≡ get_or p.left l.stage 0 + together l.dish (λ d. entry p.tables d (get_or l.state.next d 0))) × (l.bound < (l.dish + 1) * 2 ^ 50)
