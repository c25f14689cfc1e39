-- Why the test for good plans and the rule for them, pass by pass, say the same. Assumes nothing.
use Rattle.std.proofs.Common.{◌≡◌, ℕ, zero, suc, ◌-◌, ◌<◌, ◌≤◌, true, false, not, ◌||◌, eqb, List, [], ◌∷◌, length, sym, refl, ap, ◌∙◌, ⊎_elim, arith}
use Rattle.std.proofs.lemmas.Bool.{and_parts, and_from, both_ways, cases_Bool, cases_eq, cases_lt, eq-eqb, le-leb, ne_eqb, not_from_false, or_left, or_right}
use Rattle.std.proofs.lemmas.Bool.Decides.{nat_tests}
use Rattle.passes.specs.declared.model.Pass.{Pass}
use Rattle.passes.specs.declared.model.Station.{Station}
use Rattle.passes.specs.Follow.{may, one_after}
use Rattle.passes.specs.Plans.{Plan, free_for, fits_one, fits}
use Rattle.passes.specs.Rule.{nth, says, Clash, SoundAt, GoodPlan}
use Rattle.passes.specs.Statements.{TestIsRule}

-- it does not matter which of two passes is named first
pub one_after_sym : (t : ℕ) (p q : Pass) → one_after t p q ≡ one_after t q p
one_after_sym t p q = grind (arith, nat_tests)

module _ (s : Station) (p : Pass) (d : ℕ) where
  -- whoever is free for p has time to turn between it and each of the others that it follows
  pub free_says : (qs : List Pass) (ds : Plan) → length ds ≡ length qs → free_for s p d qs ds ≡ true → (j : ℕ) → j < length qs → d ≡ says ds j → one_after s.turn p (nth qs j) ≡ true
  unfolding free_for
  free_says [] ds e h j l same = absurd (omega arith)
  free_says (q ∷ qs) [] e h j l same = absurd (omega arith)
  free_says (q ∷ qs) (x ∷ ds) e h zero l same =
      let here = (and_parts _ (free_for s p d qs ds) h).0 in
      let is = eq-eqb d x same in
      grind (arith, nat_tests, here, is)
  free_says (q ∷ qs) (x ∷ ds) e h (suc j) l same =
      free_says qs ds (omega arith) (and_parts (not (eqb d x) || one_after s.turn p q) _ h).1 j (omega arith) same

  pub free_from : (qs : List Pass) (ds : Plan) → length ds ≡ length qs → ((j : ℕ) → j < length qs → d ≡ says ds j → one_after s.turn p (nth qs j) ≡ true) → free_for s p d qs ds ≡ true
  unfolding free_for
  free_from [] ds e h = refl
  free_from (q ∷ qs) [] e h = refl
  free_from (q ∷ qs) (x ∷ ds) e h =
      and_from _ _
      (⊎_elim (λ same. or_right _ _ (h 0 (omega arith) same)) (λ other. or_left _ _ (not_from_false _ (ne_eqb d x other))) (cases_eq d x))
      (free_from qs ds (omega arith) (λ j l same. h (suc j) (omega arith) same))

-- what the test of one pass says
pub record FitsOne (s : Station) (p : Pass) (d : ℕ) (qs : List Pass) (ds : Plan) : Type 0 where
  pub there : d ≤ s.dishes
  pub hears : 0 < d → may p (d - 1) ≡ true
  pub free : 0 < d → free_for s p d qs ds ≡ true

pub fits_one_says : (s : Station) (p : Pass) (d : ℕ) (qs : List Pass) (ds : Plan) → fits_one s p d qs ds ≡ true → FitsOne s p d qs ds
unfolding fits_one
fits_one_says s p d qs ds h = record { there = grind (arith, nat_tests); hears = λ more. grind (arith, nat_tests); free = λ more. grind (arith, nat_tests) }

pub fits_one_from : (s : Station) (p : Pass) (d : ℕ) (qs : List Pass) (ds : Plan) → FitsOne s p d qs ds → fits_one s p d qs ds ≡ true
unfolding fits_one
fits_one_from s p d qs ds h =
    ⊎_elim
    (λ more. or_right _ _ (and_from _ _ (le-leb _ _ h.there) (and_from _ _ (h.hears more) (h.free more))))
    (λ none. or_left _ _ (eq-eqb d 0 (omega arith)))
    (cases_lt 0 d)

module _ (s : Station) (p : Pass) (ps : List Pass) (d : ℕ) (ds : Plan) where
  -- two passes clash as they do in a list with one more in front
  clash_more : (i j : ℕ) → Clash s ps ds i j → Clash s (p ∷ ps) (d ∷ ds) (suc i) (suc j)
  clash_more i j c = record { two = omega (arith, c.two); within = omega (arith, c.within); followed = c.followed; same_dish = c.same_dish; too_near = c.too_near }

  clash_less : (i j : ℕ) → Clash s (p ∷ ps) (d ∷ ds) (suc i) (suc j) → Clash s ps ds i j
  clash_less i j c = record { two = λ e. c.two (ap suc e); within = omega (arith, c.within); followed = c.followed; same_dish = c.same_dish; too_near = c.too_near }

  module _ (here : FitsOne s p d ps ds) (rest : GoodPlan s ps ds) where
    -- the pass in front clashes with none
    front_clear : (j : ℕ) → Clash s (p ∷ ps) (d ∷ ds) 0 j → ⊥
    front_clear zero c = c.two refl
    front_clear (suc j) c =
        both_ways _ c.too_near (free_says s p d ps ds rest.one_each (here.free c.followed) j (omega (arith, c.within)) c.same_dish)

    later_clear : (i : ℕ) → i < length ps → (j : ℕ) → Clash s (p ∷ ps) (d ∷ ds) (suc i) j → ⊥
    later_clear i l zero c =
        let same = sym c.same_dish in
        both_ways _ (one_after_sym s.turn p (nth ps i) ∙ c.too_near) (free_says s p d ps ds rest.one_each (here.free (omega (arith, c.followed))) i l same)
    later_clear i l (suc j) c = (rest.each i l).no_clash j (clash_less i j c)

    -- nothing is wrong with a list whose first pass and whose others are sound
    all_sound : (i : ℕ) → i < length (p ∷ ps) → SoundAt s (p ∷ ps) (d ∷ ds) i
    all_sound zero l = record { there = here.there; hears = here.hears; no_clash = front_clear }
    all_sound (suc i) l =
        let r = rest.each i (omega arith) in
        record { there = r.there; hears = r.hears; no_clash = later_clear i (omega arith) }

  module _ (good : GoodPlan s (p ∷ ps) (d ∷ ds)) where
    front_fits : FitsOne s p d ps ds
    front_fits =
        let r = good.each 0 (omega arith) in
        record {
          there = r.there;
          hears = r.hears;
          free = λ more. free_from s p d ps ds (omega (arith, good.one_each)) (λ j l same.
              ⊎_elim
              (λ after. after)
              (λ near. absurd (r.no_clash (suc j) (record { two = omega arith; within = omega arith; followed = more; same_dish = same; too_near = near })))
              (cases_Bool _));
        }

    rest_good : GoodPlan s ps ds
    rest_good = record {
      one_each = omega (arith, good.one_each);
      each = λ i l.
          let r = good.each (suc i) (omega arith) in
          record { there = r.there; hears = r.hears; no_clash = λ j c. r.no_clash (suc j) (clash_more i j c) };
    }

-- a plan that passes the test is good
pub fits_says : (s : Station) (ps : List Pass) (ds : Plan) → fits s ps ds ≡ true → GoodPlan s ps ds
unfolding fits
fits_says s [] [] h = record { one_each = refl; each = λ i l. absurd (omega arith) }
fits_says s [] (d ∷ ds) h = absurd (both_ways false refl h)
fits_says s (p ∷ ps) [] h = absurd (both_ways false refl h)
fits_says s (p ∷ ps) (d ∷ ds) h =
    let parts = and_parts (fits_one s p d ps ds) (fits s ps ds) h in
    let rest = fits_says s ps ds parts.1 in
    record { one_each = ap suc rest.one_each; each = all_sound s p ps d ds (fits_one_says s p d ps ds parts.0) rest }

-- and a good plan passes it
pub fits_from : (s : Station) (ps : List Pass) (ds : Plan) → GoodPlan s ps ds → fits s ps ds ≡ true
unfolding fits
fits_from s [] [] h = refl
fits_from s [] (d ∷ ds) h = absurd (omega (arith, h.one_each))
fits_from s (p ∷ ps) [] h = absurd (omega (arith, h.one_each))
fits_from s (p ∷ ps) (d ∷ ds) h =
    and_from _ _ (fits_one_from s p d ps ds (front_fits s p ps d ds h)) (fits_from s ps ds (rest_good s p ps d ds h))

pub test_is_rule : TestIsRule
test_is_rule s ps ds = (fits_says s ps ds, fits_from s ps ds)
