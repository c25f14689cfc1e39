-- Why the tables of single dishes, once prices are paid, bound what they gain together. Assumes nothing.
use Rattle.std.proofs.Common.{◌≡◌, ℕ, ◌+◌, ◌-◌, ◌*◌, ◌^◌, ◌<◌, ◌≤◌, Bool, true, not, List, length, drop, get_or, sum, ⊎_elim, arith}
use Rattle.std.specs.Prelude.{slice_index, nat_le}
use Rattle.std.specs.List.{position_or_len}
use Rattle.std.proofs.lemmas.Bool.{cases_lt}
use Rattle.std.proofs.lemmas.Bool.Decides.{nat_tests}
use Rattle.std.proofs.lemmas.List.FromFn.{get_or-map-range_with_len, length-map-range_with_len}
use Rattle.std.proofs.lemmas.List.Sums.{sum_by-drop_more, fails_before_first, passes_at_first, prefix_len-le-length, sum_by-le, sum_by-take-drop}
use Rattle.std.proofs.lemmas.List.Elements.{All-from_get_or}
use Rattle.passes.specs.declared.model.Pass.{Pass}
use Rattle.passes.specs.Rule.{no_pass, nth}
use Rattle.capacity.specs.Alone.{GainsMost, RightFrom}
use Rattle.capacity.specs.Order.{InTime, FirstFrom}
use Rattle.capacity.proofs.Chains.{gain_le_sum}
use Rattle.capacity.proofs.Tables.{one_most, entry_falls, entry_able}
use Rattle.pruning.specs.declared.rounding.TheConstants.{WIDE_PASSES}
use Rattle.pruning.specs.Prices.{station_of_dish, Moderate, Fair, less_prices, entry, TablesAt, LeftFalls, TablesFall, FallsPay, LeftLow, TablesLow}
use Rattle.pruning.specs.Rounding.{suits, next_pass, free_after, Small}
use Rattle.pruning.specs.Suiting.{next_within, next_suits}
use Rattle.pruning.specs.Sums.{AddsUp}
use Rattle.pruning.specs.Statements.{PricesBound}
use Rattle.pruning.proofs.Bounding.{Bounds, falls_to, bounded}

-- the first pass that begins in the second x or later
first_from : (ps : List Pass) (x : ℕ) → InTime ps → (m : ℕ) × FirstFrom ps x m
first_from ps x time =
    let late : Pass → Bool = λ p. nat_le x p.from in
    let m = position_or_len late ps in
    let within : m ≤ length ps = prefix_len-le-length (λ p. not (late p)) ps in (
      m,
      record {
        within = within;
        before = λ k l. let early = fails_before_first late ps k no_pass l in grind (arith, nat_tests);
        after = λ k l h. let at = passes_at_first late ps no_pass (omega arith) in let order = time.order m k l h in grind (arith, nat_tests);
      },
    )

module _ (ps : List Pass) (n : ℕ) (prices : List ℕ) where
  -- what is gained by following a pass
  gain_at : (k : ℕ) → k < length ps → get_or (less_prices n ps prices) k 0 ≡ n * (nth ps k).worth - slice_index prices k
  gain_at k l = get_or-map-range_with_len (λ i. n * (nth ps i).worth - slice_index prices i) 0 (length ps) k k 0 l (omega arith)

  one_gain_each : length (less_prices n ps prices) ≡ length ps
  one_gain_each = length-map-range_with_len (λ i. n * (nth ps i).worth - slice_index prices i) 0 (length ps)

module _ (turns : List ℕ) (ps : List Pass) (n : ℕ) (prices : List ℕ) (time : InTime ps) (fair : Fair n ps prices) where
  -- a dish's table
  module _ (d : ℕ) (l : d < length turns) (table : List ℕ) (right : RightFrom 0 (station_of_dish turns d) d ps (less_prices n ps prices) table) where
    entry_of : (k : ℕ) → k ≤ length ps → GainsMost (station_of_dish turns d) d (drop k ps) (drop k (less_prices n ps prices)) (slice_index table k)
    entry_of k h = right k (omega arith) h

    pub table_falls : (k : ℕ) → k < length ps → slice_index table (k + 1) ≤ slice_index table k
    table_falls k h = entry_falls (station_of_dish turns d) d ps (less_prices n ps prices) (one_gain_each ps n prices) k h _ _ (entry_of k (omega arith)) (entry_of (k + 1) (omega arith))

    pub table_takes : (k : ℕ) → k < length ps → suits turns d 0 (nth ps k) ≡ true → n * (nth ps k).worth + slice_index table (next_pass turns ps d (k + 1) (free_after turns (nth ps k) d)) ≤ slice_index prices k + slice_index table k
    table_takes k h suited =
        let s = station_of_dish turns d in
        let x = free_after turns (nth ps k) d in
        let first = first_from ps x time in
        let next = next_pass turns ps d (k + 1) x in
        let within = next_within turns ps d x (k + 1) (omega arith) in
        let later : first.0 ≤ next =
        ⊎_elim
        (λ before. let suits_it = next_suits turns ps d x (k + 1) (omega arith) (omega (arith, first.1.within)) in let early = first.1.before next before in absurd (grind (arith, nat_tests)))
        (λ not. not)
        (cases_lt next first.0) in
        let low = falls_to (length ps) (λ j. slice_index table j) table_falls first.0 next later within in
        let most = entry_able s ps time k first.0 h first.1 d (less_prices n ps prices) (one_gain_each ps n prices) (grind (arith, nat_tests)) _ _ (entry_of (k + 1) (omega arith)) (entry_of first.0 first.1.within) in
        let same = one_most s d _ _ _ _ (entry_of k (omega arith)) most in
        omega (arith, same, low, gain_at ps n prices k h, fair.at_most k h)

  pub table_bounds : (tables : List (List ℕ)) → TablesAt n turns ps prices tables → Bounds turns ps n (λ k. sum (drop k prices)) (entry tables)
  table_bounds tables right = record {
    left_falls = λ k l. omega (arith, left_at k l);
    falls = λ d k l h. table_falls d l _ (right d l) k h;
    takes = λ d k l h suited. omega (arith, left_at k h, table_takes d l _ (right d l) k h suited);
  }
    where
      left_at : (k : ℕ) → k < length ps → sum (drop k prices) ≡ slice_index prices k + sum (drop (k + 1) prices)
      left_at k l = sum_by-drop_more (λ x. x) prices k 0 (omega (arith, fair.one_each))

-- some few numbers that are not above what prices can be, together
pub moderate_fits : (xs : List ℕ) → length xs ≤ WIDE_PASSES → Moderate xs → sum xs < 2 ^ 50
moderate_fits xs few each = omega (arith, sum_by-le (λ x. x) (2 ^ 42) xs (All-from_get_or (λ x. x ≤ 2 ^ 42) xs 0 (λ i l. omega (arith, each i l))))

-- prices that are not above worths are moderate, and so is all that is gained together
module _ (ps : List Pass) (small : Small ps) where
  pub fair_moderate : (prices : List ℕ) → Fair 1024 ps prices → Moderate prices
  fair_moderate prices fair i l = omega (arith, fair.one_each, fair.at_most i (omega (arith, fair.one_each)), small i (omega (arith, fair.one_each)))

  pub gains_moderate : (prices : List ℕ) → Moderate (less_prices 1024 ps prices)
  gains_moderate prices i l =
      let within : i < length ps = omega (arith, one_gain_each ps 1024 prices) in
      omega (arith, gain_at ps 1024 prices i within, small i within)

  -- so no entry is too large
  pub tables_low : (turns : List ℕ) (prices : List ℕ) (tables : List (List ℕ)) → length ps ≤ WIDE_PASSES → TablesAt 1024 turns ps prices tables → TablesLow turns ps tables
  tables_low turns prices tables few right d k l h =
      let gains = less_prices 1024 ps prices in
      let most = right d l k (omega arith) h in
      omega (arith, most.2, gain_le_sum d (drop k gains) most.0, sum_by-take-drop (λ x. x) gains k, moderate_fits gains (omega (arith, one_gain_each ps 1024 prices)) (gains_moderate prices))

  pub left_low : (prices left : List ℕ) → length ps ≤ WIDE_PASSES → Fair 1024 ps prices → AddsUp (λ x. x) prices 0 left → LeftLow ps left
  left_low prices left few fair sums k h =
      omega (arith, sums k (omega arith) (omega (arith, fair.one_each)), sum_by-take-drop (λ x. x) prices k, moderate_fits prices (omega (arith, fair.one_each)) (fair_moderate prices fair))

-- what a night at prices holds, from how it was made
module _ (turns : List ℕ) (ps : List Pass) (n : ℕ) (prices : List ℕ) (time : InTime ps) (fair : Fair n ps prices) (left : List ℕ) (sums : AddsUp (λ x. x) prices 0 left) (tables : List (List ℕ)) (right : TablesAt n turns ps prices tables) where
  bounds : Bounds turns ps n (λ k. sum (drop k prices)) (entry tables)
  bounds = table_bounds turns ps n prices time fair tables right

  pub left_falls : LeftFalls ps left
  left_falls k l = omega (arith, bounds.left_falls k l, sums k (omega arith) (omega (arith, fair.one_each)), sums (k + 1) (omega arith) (omega (arith, fair.one_each)))

  pub falls_pay : FallsPay n turns ps left tables
  falls_pay d k l h suited = omega (arith, bounds.takes d k l h suited, sums k (omega arith) (omega (arith, fair.one_each)), sums (k + 1) (omega arith) (omega (arith, fair.one_each)))

  pub tables_fall : TablesFall turns ps tables
  tables_fall d k l h = bounds.falls d k l h

pub prices_bound : PricesBound
prices_bound turns ps n prices tables few time fair right i s cs e up w =
    bounded turns ps few n (λ k. sum (drop k prices)) (entry tables) (table_bounds turns ps n prices time fair tables right) cs i s e up w
