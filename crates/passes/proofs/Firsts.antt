-- The first of some numbers that fails a test. Assumes nothing.
use Rattle.std.proofs.Common.{◌≡◌, ℕ, zero, suc, ◌+◌, ◌<◌, ◌≤◌, Bool, true, false, Some, None, Option, refl, ap, ⊎_elim, arith}
use Rattle.std.proofs.lemmas.Bool.{both_ways, cases_lt, cases_order, cond_both}
use Rattle.passes.specs.Numbers.{first_failing}

-- it is the first of the n numbers from i on that fails, or none where all pass
abbrev pub IsFirst : (ok : ℕ → Bool) → ℕ → ℕ → Option ℕ → Type 0
IsFirst ok i n None = (k : ℕ) → i ≤ k → k < i + n → ok k ≡ true
IsFirst ok i n (Some j) = (i ≤ j) × (j < i + n) × (ok j ≡ false) × ((k : ℕ) → i ≤ k → k < j → ok k ≡ true)

module _ (ok : ℕ → Bool) where
  -- a number that passes can be put in front
  in_front : (i : ℕ) → ok i ≡ true → (j : ℕ) → ((k : ℕ) → suc i ≤ k → k < j → ok k ≡ true) → (k : ℕ) → i ≤ k → k < j → ok k ≡ true
  in_front i passes j rest k low high =
      ⊎_elim (λ later. rest k later high) (λ here. let same : i ≡ k = omega arith in rw same at passes) (cases_lt i k)

  first_in_front : (i n : ℕ) → ok i ≡ true → (o : Option ℕ) → IsFirst ok (suc i) n o → IsFirst ok i (suc n) o
  first_in_front i n passes None h = in_front i passes (i + suc n) (λ k low high. h k low (omega arith))
  first_in_front i n passes (Some j) h = (omega (arith, h.0), omega (arith, h.1), h.2, in_front i passes j h.3)

  pub first_says : (i n : ℕ) → IsFirst ok i n (first_failing ok i n)
  unfolding first_failing
  first_says i zero = λ k low high. absurd (omega arith)
  first_says i (suc n) =
      let rest = first_says (suc i) n in
      cond_both (ok i) _ _ (IsFirst ok i (suc n)) (λ e. first_in_front i n e _ rest) (λ e. (omega arith, omega arith, e, λ k low high. absurd (omega arith)))

  -- there is one such
  pub one_first : (i n : ℕ) (o u : Option ℕ) → IsFirst ok i n o → IsFirst ok i n u → o ≡ u
  one_first i n None None h g = refl
  one_first i n None (Some j) h g = absurd (both_ways (ok j) g.2 (h j g.0 g.1))
  one_first i n (Some j) None h g = absurd (both_ways (ok j) h.2 (g j h.0 h.1))
  one_first i n (Some j) (Some k) h g =
      ⊎_elim
      (λ same. ap Some same)
      (λ other. ⊎_elim (λ before. absurd (both_ways (ok j) h.2 (g.3 j h.0 before))) (λ after. absurd (both_ways (ok k) g.2 (h.3 k g.0 after))) other)
      (cases_order j k)
