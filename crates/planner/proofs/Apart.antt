-- Why lists apart in time are planned each for itself. Assumes nothing.
use Rattle.std.proofs.Common.{◌≡◌, ℕ, suc, ◌+◌, ◌≤◌, true, false, not, ◌||◌, eqb, List, [], ◌∷◌, ◌++◌, length, take, drop, refl, arith, length-append}
use Rattle.std.proofs.lemmas.List.{take-append-drop, length-take-le}
use Rattle.std.proofs.lemmas.Bool.{and_from, and_parts, both_ways}
use Rattle.std.proofs.lemmas.Bool.Decides.{nat_tests}
use Rattle.passes.specs.declared.model.Pass.{Pass}
use Rattle.passes.specs.declared.model.Station.{Station}
use Rattle.passes.specs.Follow.{one_after}
use Rattle.passes.specs.Plans.{Plan, free_for, fits_one, fits, worth_of, Best}
use Rattle.passes.proofs.Goodness.{free_from, fits_says, fits_one_says, fits_one_from}
use Rattle.planner.specs.Statements.{EndsBefore, BeginsAfter, SideBySide}

module _ (s : Station) (qs : List Pass) (es : Plan) where
  -- what a plan of two lists says of the first, and of both
  free_front : (p : Pass) (d : ℕ) (ps : List Pass) (ds : Plan) → length ds ≡ length ps → free_for s p d (ps ++ qs) (ds ++ es) ≡ true → free_for s p d ps ds ≡ true
  unfolding free_for
  free_front p d [] [] long h = refl
  free_front p d [] (e ∷ ds) long h = absurd (omega arith)
  free_front p d (q ∷ ps) [] long h = refl
  free_front p d (q ∷ ps) (e ∷ ds) long h =
      let parts = and_parts (not (eqb d e) || one_after s.turn p q) _ h in
      and_from _ _ parts.0 (free_front p d ps ds (omega arith) parts.1)

  free_both : (p : Pass) (d : ℕ) (ps : List Pass) (ds : Plan) → length ds ≡ length ps → free_for s p d ps ds ≡ true → free_for s p d qs es ≡ true → free_for s p d (ps ++ qs) (ds ++ es) ≡ true
  unfolding free_for
  free_both p d [] [] long h k = k
  free_both p d [] (e ∷ ds) long h k = absurd (omega arith)
  free_both p d (q ∷ ps) [] long h k = absurd (omega arith)
  free_both p d (q ∷ ps) (e ∷ ds) long h k =
      let parts = and_parts (not (eqb d e) || one_after s.turn p q) _ h in
      and_from _ _ parts.0 (free_both p d ps ds (omega arith) parts.1 k)

  -- a good plan of both lists is a good one of each
  fits_parts : (ps : List Pass) (ds : Plan) → length ds ≡ length ps → fits s (ps ++ qs) (ds ++ es) ≡ true → (fits s ps ds ≡ true) × (fits s qs es ≡ true)
  unfolding fits
  fits_parts [] [] long h = (refl, h)
  fits_parts [] (d ∷ ds) long h = absurd (omega arith)
  fits_parts (p ∷ ps) [] long h = absurd (omega arith)
  fits_parts (p ∷ ps) (d ∷ ds) long h =
      let parts = and_parts (fits_one s p d (ps ++ qs) (ds ++ es)) _ h in
      let here = fits_one_says s p d (ps ++ qs) (ds ++ es) parts.0 in
      let rest = fits_parts ps ds (omega arith) parts.1 in
      (and_from _ _ (fits_one_from s p d ps ds (record { there = here.there; hears = here.hears; free = λ some. free_front p d ps ds (omega arith) (here.free some) })) rest.0, rest.1)

  worth_both : (ps : List Pass) (ds : Plan) → length ds ≡ length ps → worth_of (ps ++ qs) (ds ++ es) ≡ worth_of ps ds + worth_of qs es
  unfolding worth_of
  worth_both [] [] long = omega arith
  worth_both [] (d ∷ ds) long = absurd (omega arith)
  worth_both (p ∷ ps) [] long = absurd (omega arith)
  worth_both (p ∷ ps) (d ∷ ds) long = let rest = worth_both ps ds (omega arith) in omega arith

  -- good plans of lists apart in time are a good one of both
  module _ (x : ℕ) (later : BeginsAfter x qs) (good : fits s qs es ≡ true) where
    free_later : (p : Pass) (d : ℕ) → p.to + s.turn ≤ x → free_for s p d qs es ≡ true
    free_later p d early = free_from s p d qs es (fits_says s qs es good).one_each (λ j l same. let begins = later j l in grind (arith, nat_tests))

    fits_both : (ps : List Pass) (ds : Plan) → EndsBefore s.turn x ps → fits s ps ds ≡ true → fits s (ps ++ qs) (ds ++ es) ≡ true
    unfolding fits
    fits_both [] [] early h = good
    fits_both [] (d ∷ ds) early h = absurd (both_ways false refl h)
    fits_both (p ∷ ps) [] early h = absurd (both_ways false refl h)
    fits_both (p ∷ ps) (d ∷ ds) early h =
        let parts = and_parts (fits_one s p d ps ds) (fits s ps ds) h in
        let here = fits_one_says s p d ps ds parts.0 in
        let long = (fits_says s ps ds parts.1).one_each in
        and_from _ _
        (fits_one_from s p d (ps ++ qs) (ds ++ es) (record { there = here.there; hears = here.hears; free = λ some. free_both p d ps ds long (here.free some) (free_later p d (early 0 (omega arith))) }))
        (fits_both ps ds (λ i l. early (suc i) (omega arith)) parts.1)

-- no plan of both lists is worth more than best ones of each
at_most_both : (s : Station) (ps qs : List Pass) (ds es fs : Plan) → Best s ps ds → Best s qs es → fits s (ps ++ qs) fs ≡ true → worth_of (ps ++ qs) fs ≤ worth_of ps ds + worth_of qs es
unfolding Best
at_most_both s ps qs ds es fs best best₁ good =
    let n = length ps in
    let all = (fits_says s (ps ++ qs) fs good).one_each in
    let long : length (take n fs) ≡ n = length-take-le n fs (omega (arith, length-append ps qs)) in
    let split = take-append-drop n fs in
    let parts = fits_parts s qs (drop n fs) ps (take n fs) long (rw split good) in
    let worth = worth_both s qs (drop n fs) ps (take n fs) long in
    omega (arith, rw split at worth, best.1 (take n fs) parts.0, best₁.1 (drop n fs) parts.1)

pub side_by_side : SideBySide
unfolding Best
side_by_side s ps qs x ds es early later best best₁ =
    let worth = worth_both s qs es ps ds (fits_says s ps ds best.0).one_each in
    (fits_both s qs es x later best₁.0 ps ds early best.0, λ fs good. omega (arith, at_most_both s ps qs ds es fs best best₁ good))
