-- Why it is enough to look at begins for the second in which most passes hold a dish. Assumes nothing.
use Rattle.std.proofs.Common.{◌≡◌, ℕ, suc, ◌<◌, ◌≤◌, true, false, cond, ◌⊎◌, List, [], ◌∷◌, length, count_by, sym, refl, inl, inr, ⊎_elim, arith}
use Rattle.std.proofs.lemmas.List.Sums.{sum_by-cons}
use Rattle.std.proofs.lemmas.Bool.{cases_Bool, cases_lt}
use Rattle.std.proofs.lemmas.Bool.Decides.{nat_tests}
use Rattle.passes.specs.declared.model.Pass.{Pass}
use Rattle.passes.specs.Busy.{holds, busy}
use Rattle.passes.specs.Rule.{nth}
use Rattle.capacity.specs.Peaks.{Busiest}

-- the number of passes that hold a dish, as a count
pub busy-count_by : (t : ℕ) (ps : List Pass) (x : ℕ) → busy t ps x ≡ count_by (λ p. holds t p x) ps
unfolding busy
busy-count_by t [] x = refl
busy-count_by t (p ∷ ps) x = rw (busy-count_by t ps x) (sym (sum_by-cons (λ q. cond (holds t q x) 1 0) p ps))

module _ (t : ℕ) where
  -- pass j begins by y, and from then until y no fewer passes hold a dish than in y
  pub record Since (ps : List Pass) (y j : ℕ) : Type 0 where
    pub within : j < length ps
    pub begun : (nth ps j).from ≤ y
    pub no_fewer : (x : ℕ) → (nth ps j).from ≤ x → x ≤ y → busy t ps y ≤ busy t ps x

  module _ (p : Pass) (ps : List Pass) (y : ℕ) where
    -- one pass more, that doesn't hold a dish in y
    since_idle : holds t p y ≡ false → (j : ℕ) → Since ps y j → Since (p ∷ ps) y (suc j)
    unfolding busy
    since_idle idle j h = record { within = omega (arith, h.within); begun = h.begun; no_fewer = λ x l m. let rest = h.no_fewer x l m in grind (arith, nat_tests) }

    -- one pass more that does, and began earlier than another one
    since_later : holds t p y ≡ true → (j : ℕ) → p.from ≤ (nth ps j).from → Since ps y j → Since (p ∷ ps) y (suc j)
    unfolding busy
    since_later held j e h = record { within = omega (arith, h.within); begun = h.begun; no_fewer = λ x l m. let rest = h.no_fewer x l m in grind (arith, nat_tests) }

    -- one pass more that does, and began last
    since_last : holds t p y ≡ true → ((x : ℕ) → p.from ≤ x → x ≤ y → busy t ps y ≤ busy t ps x) → Since (p ∷ ps) y 0
    unfolding busy
    since_last held h = record { within = omega arith; begun = grind (arith, nat_tests); no_fewer = λ x l m. let rest = h x l m in grind (arith, nat_tests) }

  -- either no pass holds a dish in y, or this is so since one of them began: the last of those that do
  pub since_a_begin : (ps : List Pass) (y : ℕ) → (busy t ps y ≡ 0) ⊎ ((j : ℕ) × Since ps y j)
  unfolding busy
  since_a_begin [] y = inl refl
  since_a_begin (p ∷ ps) y = one_more (since_a_begin ps y) (cases_Bool (holds t p y))
    where
      one_more : (busy t ps y ≡ 0) ⊎ ((j : ℕ) × Since ps y j) → (holds t p y ≡ true) ⊎ (holds t p y ≡ false) → (busy t (p ∷ ps) y ≡ 0) ⊎ ((j : ℕ) × Since (p ∷ ps) y j)
      one_more (inl none) (inr idle) = inl (grind (arith, nat_tests))
      one_more (inr s) (inr idle) = inr (suc s.0, since_idle p ps y idle s.0 s.1)
      one_more (inl none) (inl held) = inr (0, since_last p ps y held (λ x l m. omega arith))
      one_more (inr s) (inl held) =
          ⊎_elim
          (λ earlier. inr (suc s.0, since_later p ps y held s.0 (omega arith) s.1))
          (λ last. inr (0, since_last p ps y held (λ x l m. s.1.no_fewer x (omega arith) m)))
          (cases_lt p.from (nth ps s.0).from)

  -- the second y is no busier than x, in which n passes hold a dish, and not as busy and earlier
  abbrev pub Behind : List Pass → ℕ → ℕ → ℕ → Type 0
  Behind ps x n y = (busy t ps y ≤ n) × (busy t ps y ≡ n → x ≤ y)

  -- if the second 0 and all begins are behind x, every second is
  pub busiest_from : (ps : List Pass) (x n : ℕ) → busy t ps x ≡ n → Behind ps x n 0 → ((k : ℕ) → k < length ps → Behind ps x n (nth ps k).from) → Busiest t ps x n
  busiest_from ps x n here start begins = record {
    count = here;
    most = λ y. ⊎_elim (λ none. omega arith) (λ s. let b = begins s.0 s.1.within in let up = s.1.no_fewer (nth ps s.0).from (omega arith) s.1.begun in omega arith) (since_a_begin ps y);
    first = λ y l.
        ⊎_elim
        (λ none. ⊎_elim (λ some. omega arith) (λ zero. absurd (omega (arith, start.1 (omega arith)))) (cases_lt 0 n))
        (λ s.
        let b = begins s.0 s.1.within in
        let up = s.1.no_fewer (nth ps s.0).from (omega arith) s.1.begun in
        ⊎_elim (λ fewer. fewer) (λ same. absurd (omega (arith, s.1.begun, b.1 (omega arith)))) (cases_lt (busy t ps y) n))
        (since_a_begin ps y);
  }
