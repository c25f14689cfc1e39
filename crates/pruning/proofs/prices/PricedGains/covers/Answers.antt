use Rattle.std.proofs.Common.{rules}
use Rattle.pruning.specs.Rounding.{NoLater}
use Rattle.pruning.proofs.Covering.{keeps_up}
use Rattle.pruning.proofs.prices.PricedGains.covers.Goals as goal

pub returns : goal.returns
returns c sure cs e w =
    let a = c.args in
    let night = a.self.now.night in
    let sooner : NoLater a.seen a.state = search rules in
    keeps_up night.turns.now night.passes.now night.few_dishes cs a._stage a.seen a.state e c.requires.seen_fine c.requires.fine sooner w
