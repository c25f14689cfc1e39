use Rattle.std.proofs.Common.{◌≡◌, length, take, arith, rules}
use Rattle.pruning.proofs.TableBounds.{moderate_fits}
use Rattle.pruning.proofs.auction.Auction.ask.Goals as goal

pub table_of-table-requires-clause-sum_fits : goal.table_of-table-requires-clause-sum_fits
table_of-table-requires-clause-sum_fits c =
    let night = c.args.self.now.prepared.night in
    let gains = take (length night.passes.now) c.less_prices-gains.result in
    let long : length gains ≡ length night.passes.now = search rules in
    omega (arith, moderate_fits gains (omega (arith, long, night.few_passes)) c.less_prices-gains.ensures.moderate)
