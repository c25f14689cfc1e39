use Rattle.std.proofs.Common.{◌≡◌, ℕ, ◌≤◌, List, length, take, arith, rules}
use Rattle.std.proofs.lemmas.List.{get_or-take, length-take-le}
use Rattle.passes.specs.declared.model.Pass.{Pass}
use Rattle.pruning.specs.Prices.{Fair, NoneAbove}
use Rattle.pruning.proofs.TableBounds.{moderate_fits, left_low, tables_low, left_falls, tables_fall, falls_pay}
use Rattle.pruning.proofs.prices.Priced.prepared.Goals as goal

-- the front of an array of prices
fair_front : (ps : List Pass) (prices : List ℕ) → length prices ≡ 128 → length ps ≤ 128 → NoneAbove 1024 ps prices → Fair 1024 ps (take (length ps) prices)
fair_front ps prices long few none = record {
  one_each = length-take-le (length ps) prices (omega arith);
  at_most = λ i l. rw (get_or-take (length ps) prices i 0 l) (none i l);
}

pub tables_of-requires-clause-sum_fits : goal.tables_of-requires-clause-sum_fits
tables_of-requires-clause-sum_fits c =
    let gains = take (length c.args.prepared.night.passes.now) c.less_prices-gains.result in
    let long : length gains ≡ length c.args.prepared.night.passes.now = search rules in
    omega (arith, moderate_fits gains (omega (arith, long, c.args.prepared.night.few_passes)) c.less_prices-gains.ensures.moderate)

pub invariant_of-result : goal.invariant_of-result
invariant_of-result c =
    let turns = c.args.prepared.night.turns.now in
    let ps = c.args.prepared.night.passes.now in
    let few = c.args.prepared.night.few_passes in
    let time = c.args.prepared.night.in_time in
    let small = c.fair_prices-fair.ensures.small in
    let prices = take (length ps) c.fair_prices-fair.result in
    let fair = fair_front ps c.fair_prices-fair.result (search rules) few c.fair_prices-fair.ensures.none_above in
    let left = c.add_up.result in
    let sums = c.add_up.ensures in
    let tables = c.tables_of.result in
    let right = rw c.less_prices-gains.ensures.less at c.tables_of.ensures in
    record {
      some_unit = c.args.prepared.some_unit;
      whole = c.args.prepared.whole;
      small = small;
      left_low = left_low ps small prices left few fair sums;
      tables_low = tables_low ps small turns prices tables few right;
      left_falls = left_falls turns ps 1024 prices time fair left sums tables right;
      tables_fall = tables_fall turns ps 1024 prices time fair left sums tables right;
      falls_pay = falls_pay turns ps 1024 prices time fair left sums tables right;
    }
