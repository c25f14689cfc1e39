-- Plans of one dish: what a front that it leaves out, and a pass that it follows first, come to. Assumes nothing.
use Rattle.std.proofs.Common.{◌≡◌, ℕ, zero, suc, ◌+◌, ◌-◌, ◌<◌, ◌≤◌, Bool, true, false, ◌&&◌, ltb, ◌≢◌, List, [], ◌∷◌, ◌++◌, length, drop, replicate, sum, sym, refl, ap, ◌∙◌, ⊎_elim, arith}
use Rattle.std.proofs.lemmas.List.{length-append, length-drop, length-replicate, get_or_append_left, get_or-replicate}
use Rattle.std.proofs.lemmas.List.Sums.{sum_by-cons}
use Rattle.std.proofs.lemmas.Bool.{and_from, and_parts, both_ways, cases_lt, eq-eqb, ne_eqb, ltb-true, or_right}
use Rattle.std.proofs.lemmas.Bool.Decides.{nat_tests}
use Rattle.passes.specs.declared.model.Pass.{Pass}
use Rattle.passes.specs.declared.model.Station.{Station}
use Rattle.passes.specs.Follow.{may, one_after}
use Rattle.passes.specs.Plans.{Plan, fits_one, fits}
use Rattle.passes.specs.Rule.{nth, says}
use Rattle.passes.proofs.Goodness.{free_from, free_says, fits_one_says, fits_one_from, fits_says}
use Rattle.capacity.specs.Alone.{gain_of, only}

-- what is left of a good plan is good for what is left of the list
pub fits_drop : (s : Station) (k : ℕ) (ps : List Pass) (ds : Plan) → fits s ps ds ≡ true → fits s (drop k ps) (drop k ds) ≡ true
unfolding fits
fits_drop s zero ps ds h = h
fits_drop s (suc k) [] [] h = refl
fits_drop s (suc k) [] (d ∷ ds) h = absurd (both_ways false refl h)
fits_drop s (suc k) (p ∷ ps) [] h = absurd (both_ways false refl h)
fits_drop s (suc k) (p ∷ ps) (d ∷ ds) h = fits_drop s k ps ds (and_parts (fits_one s p d ps ds) (fits s ps ds) h).1

-- k passes that nobody follows may stand in front
pub fits_idle : (s : Station) (k : ℕ) (ps : List Pass) (ds : Plan) → k ≤ length ps → fits s (drop k ps) ds ≡ true → fits s ps (replicate k 0 ++ ds) ≡ true
unfolding fits fits_one
fits_idle s zero ps ds l h = h
fits_idle s (suc k) [] ds l h = absurd (omega arith)
fits_idle s (suc k) (p ∷ ps) ds l h = fits_idle s k ps ds (omega arith) h

module _ (d : ℕ) where
  pub gain_none : (gs : List ℕ) → gain_of d gs [] ≡ 0
  unfolding gain_of
  gain_none [] = refl
  gain_none (g ∷ gs) = refl

  -- a front of which the dish follows nothing gains nothing
  pub gain_skip : (k : ℕ) (gs : List ℕ) (ds : Plan) → ((j : ℕ) → j < k → says ds j ≢ suc d) → gain_of d gs ds ≡ gain_of d (drop k gs) (drop k ds)
  unfolding gain_of
  gain_skip zero gs ds h = refl
  gain_skip (suc k) [] ds h = refl
  gain_skip (suc k) (g ∷ gs) [] h = sym (gain_none (drop k gs))
  gain_skip (suc k) (g ∷ gs) (e ∷ ds) h =
      let other = ne_eqb e (suc d) (h 0 (omega arith)) in
      let rest = gain_skip k gs ds (λ j l. h (suc j) (omega arith)) in
      rw other (omega arith)

  pub gain_idle : (k : ℕ) (gs : List ℕ) (ds : Plan) → gain_of d gs (replicate k 0 ++ ds) ≡ gain_of d (drop k gs) ds
  unfolding gain_of
  gain_idle zero gs ds = refl
  gain_idle (suc k) [] ds = refl
  gain_idle (suc k) (g ∷ gs) ds =
      let other = ne_eqb 0 (suc d) (λ e. omega arith) in
      let rest = gain_idle k gs ds in
      rw other (omega arith)

  pub only_idle : (k : ℕ) (ds : Plan) → only d (replicate k 0 ++ ds) ≡ only d ds
  unfolding only
  only_idle zero ds = refl
  only_idle (suc k) ds = only_idle k ds

  pub gain_followed : (g : ℕ) (gs : List ℕ) (ds : Plan) → gain_of d (g ∷ gs) (suc d ∷ ds) ≡ g + gain_of d gs ds
  unfolding gain_of
  gain_followed g gs ds = rw (eq-eqb (suc d) (suc d) refl) refl

  pub gain_other : (g : ℕ) (gs : List ℕ) (e : ℕ) (ds : Plan) → e ≢ suc d → gain_of d (g ∷ gs) (e ∷ ds) ≡ gain_of d gs ds
  unfolding gain_of
  gain_other g gs e ds h = rw (ne_eqb e (suc d) h) (omega arith)

  pub only_followed : (ds : Plan) → only d ds ≡ true → only d (suc d ∷ ds) ≡ true
  unfolding only
  only_followed ds h = and_from _ _ (or_right _ _ (eq-eqb (suc d) (suc d) refl)) h

  -- no plan gains more than all passes together
  pub gain_le_sum : (gs : List ℕ) (ds : Plan) → gain_of d gs ds ≤ sum gs
  unfolding gain_of
  gain_le_sum [] ds = omega arith
  gain_le_sum (g ∷ gs) [] = omega arith
  gain_le_sum (g ∷ gs) (e ∷ ds) =
      let all = sum_by-cons (λ (x : ℕ). x) g gs in
      let rest = gain_le_sum gs ds in
      grind (arith, nat_tests)

module _ (s : Station) (d : ℕ) where
  -- a good plan of dish d alone
  pub record Alone (ps : List Pass) (ds : Plan) : Type 0 where
    pub good : fits s ps ds ≡ true
    pub alone : only d ds ≡ true

  -- the dish is there and may follow the pass
  abbrev pub able : Pass → Bool
  able p = ltb d s.dishes && may p d

  -- a pass may be left out in front of a plan
  pub alone_skip : (p : Pass) (ps : List Pass) (ds : Plan) → Alone ps ds → Alone (p ∷ ps) (0 ∷ ds)
  unfolding fits fits_one only
  alone_skip p ps ds h = record { good = h.good; alone = h.alone }

  module _ (p : Pass) (ps : List Pass) (m : ℕ) (within : m ≤ length ps) where
    -- after a pass that it is able to follow, the dish can go on with any plan of the passes from m on, if these begin late enough
    pub alone_follow : able p ≡ true → ((j : ℕ) → m ≤ j → j < length ps → p.to + s.turn ≤ (nth ps j).from) → (ds : Plan) → Alone (drop m ps) ds → Alone (p ∷ ps) (suc d ∷ (replicate m 0 ++ ds))
    unfolding fits
    alone_follow can later ds h = record {
      good = and_from _ _ (fits_one_from s p (suc d) ps rest (record { there = omega (arith, ltb-true _ _ (and_parts (ltb d s.dishes) (may p d) can).0); hears = λ _. heard; free = λ _. free_from s p (suc d) ps rest long far })) (fits_idle s m ps ds within h.good);
      alone = only_followed d rest (only_idle d m ds ∙ h.alone);
    }
      where
        rest : Plan
        rest = replicate m 0 ++ ds

        heard : may p (suc d - 1) ≡ true
        heard = let e : suc d - 1 ≡ d = omega arith in rw e (and_parts (ltb d s.dishes) (may p d) can).1

        long : length rest ≡ length ps
        long = let e = (fits_says s (drop m ps) ds h.good).one_each in simp (length-append, length-replicate) (omega (arith, length-drop m ps))

        far : (j : ℕ) → j < length ps → suc d ≡ says rest j → one_after s.turn p (nth ps j) ≡ true
        far j l same =
            ⊎_elim
            (λ (early : j < m).
            let zeros : says rest j ≡ 0 = get_or_append_left (replicate m 0) ds 0 j (simp length-replicate early) ∙ get_or-replicate m j 0 0 early in
            absurd (omega arith))
            (λ (late : m ≤ j). let h = later j late l in grind (arith, nat_tests))
            (cases_lt j m)

    -- whoever follows p gains by it, and by what comes from m on, if no earlier pass can be followed after it
    pub gain_bound : ((j : ℕ) → j < m → one_after s.turn p (nth ps j) ≡ false) → (g : ℕ) (gs : List ℕ) (es : Plan) → fits_one s p (suc d) ps es ≡ true → fits s ps es ≡ true → gain_of d (g ∷ gs) (suc d ∷ es) ≡ g + gain_of d (drop m gs) (drop m es)
    gain_bound near g gs es here rest =
        let long = (fits_says s ps es rest).one_each in
        let free = (fits_one_says s p (suc d) ps es here).free (omega arith) in
        let none : (j : ℕ) → j < m → says es j ≢ suc d = λ j l same. both_ways _ (near j l) (free_says s p (suc d) ps es long free j (omega arith) (sym same)) in
        gain_followed d g gs es ∙ ap (λ n. g + n) (gain_skip d m gs es none)
