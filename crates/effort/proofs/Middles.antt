-- The middle and the last of a list in order. Assumes nothing.
use Rattle.std.proofs.Common.{◌≡◌, ℕ, zero, suc, ◌+◌, ◌-◌, ◌/◌, ◌<◌, ◌≤◌, Bool, true, List, [], ◌∷◌, length, cond, get_or, ap, ◌∙◌, arith, slice_index}
use Rattle.std.specs.Prelude.{Contains, count_by, nat_le}
use Rattle.std.specs.List.Sorted.{IsNonDecreasing, IsPermutation}
use Rattle.std.proofs.lemmas.Bool.{le-leb}
use Rattle.std.proofs.lemmas.List.{get_or_default}
use Rattle.std.proofs.lemmas.List.Elements.{All-get_or, All-from_get_or, All-contains_itself}
use Rattle.std.proofs.lemmas.List.Sums.{sum_by-cons}
use Rattle.std.proofs.lemmas.List.Sorted.{IsPermutation-sym, All-permutation, Contains-permutation, length_permutation, sum_by-IsPermutation}
use Rattle.effort.specs.Spreads.{SpreadOf}

-- where the numbers from place a up to b pass a test, so many do at least
count_between : (p : ℕ → Bool) (xs : List ℕ) (a b : ℕ) → b ≤ length xs → ((i : ℕ) → a ≤ i → i < b → p (slice_index xs i) ≡ true) → b - a ≤ count_by p xs
count_between p [] a b l h = omega arith
count_between p (x ∷ xs) a zero l h = omega arith
count_between p (x ∷ xs) zero (suc b) l h =
    let rest = count_between p xs zero b (omega arith) (λ i low high. h (suc i) (omega arith) (omega arith)) in
    let this : p x ≡ true = h zero (omega arith) (omega arith) in
    let one = ap {B = ℕ} (λ b. cond b 1 0) this in
    omega (arith, rest, sum_by-cons (λ y. cond (p y) 1 0) x xs, one)
count_between p (x ∷ xs) (suc a) (suc b) l h =
    let rest = count_between p xs a b (omega arith) (λ i low high. h (suc i) (omega arith) (omega arith)) in
    omega (arith, rest, sum_by-cons (λ y. cond (p y) 1 0) x xs)

module _ (xs ys : List ℕ) (moved : IsPermutation xs ys) (order : IsNonDecreasing ys) where
  contains : (i : ℕ) → i < length ys → Contains xs (slice_index ys i)
  contains i l = Contains-permutation ys xs _ (IsPermutation-sym xs ys moved) (All-get_or (Contains ys) ys i 0 l (All-contains_itself ys))

  spread_at : (m k : ℕ) → m ≡ (length ys - 1) / 2 → k ≡ length ys - 1 → 0 < length ys → SpreadOf xs (record { median = slice_index ys m; largest = slice_index ys k })
  spread_at m k middle last some =
      let mid = slice_index ys m in
      let below = count_between (λ x. nat_le x mid) ys 0 (m + 1) (omega arith) (λ i low high. le-leb _ _ (order i m 0 (omega arith) (omega arith))) in
      let above = count_between (λ x. nat_le mid x) ys m (length ys) (omega arith) (λ i low high. le-leb _ _ (order m i 0 low high)) in
      let long = length_permutation xs ys moved in
      record {
        median = contains m (omega arith);
        half_below = omega (arith, below, long, sum_by-IsPermutation (λ x. cond (nat_le x mid) 1 0) xs ys moved);
        half_above = omega (arith, above, long, sum_by-IsPermutation (λ x. cond (nat_le mid x) 1 0) xs ys moved);
        largest = contains k (omega arith);
        none_above = All-permutation (λ x. x ≤ slice_index ys k) ys xs (IsPermutation-sym xs ys moved) (All-from_get_or (λ x. x ≤ slice_index ys k) ys 0 (λ i l. order i k 0 (omega arith) (omega arith)));
      }

  -- the two numbers at these places are the median and the largest
  pub spread : (median largest m k d e : ℕ) → median ≡ get_or ys m d → largest ≡ get_or ys k e → m ≡ (length ys - 1) / 2 → k ≡ length ys - 1 → 0 < length ys → SpreadOf xs (record { median = median; largest = largest })
  spread median largest m k d e is_median is_largest middle last some =
      let middle_is = is_median ∙ get_or_default ys m d 0 (omega arith) in
      let last_is = is_largest ∙ get_or_default ys k e 0 (omega arith) in
      rw (middle_is, last_is) (spread_at m k middle last some)
