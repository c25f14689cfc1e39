-- Why more dishes, less turning, or a pass more never cost worth. Assumes nothing.
use Rattle.std.proofs.Common.{◌≡◌, ℕ, ◌+◌, ◌<◌, ◌≤◌, true, false, not, ◌||◌, eqb, List, [], ◌∷◌, ◌++◌, length, refl, arith, length-append}
use Rattle.std.proofs.lemmas.Bool.{and_from, and_parts, both_ways}
use Rattle.std.proofs.lemmas.Bool.Decides.{nat_tests}
use Rattle.std.specs.List.{insert, remove}
use Rattle.passes.specs.declared.model.Pass.{Pass}
use Rattle.passes.specs.declared.model.Station.{Station}
use Rattle.passes.specs.Follow.{one_after}
use Rattle.passes.specs.Plans.{Plan, free_for, fits_one, fits, worth_of, Best}
use Rattle.passes.specs.Rule.{nth}
use Rattle.passes.proofs.Goodness.{fits_says, fits_from, fits_one_says, fits_one_from}
use Rattle.planner.specs.Statements.{MoreDishes, OneMore}

-- passes that are too near to each other for less turning are too near for more
nearer : (t u : ℕ) (p q : Pass) → u ≤ t → one_after u p q ≡ false → one_after t p q ≡ false
nearer t u p q less near = grind (arith, nat_tests)

-- a plan that is good stays good with more dishes, or less time to turn
pub fits_wider : (s u : Station) (ps : List Pass) (ds : Plan) → s.dishes ≤ u.dishes → u.turn ≤ s.turn → fits s ps ds ≡ true → fits u ps ds ≡ true
fits_wider s u ps ds more less good =
    let plan = fits_says s ps ds good in
    fits_from u ps ds (record {
      one_each = plan.one_each;
      each = λ i l. record {
        there = omega (arith, (plan.each i l).there);
        hears = (plan.each i l).hears;
        no_clash = λ j c. (plan.each i l).no_clash j (record { two = c.two; within = c.within; followed = c.followed; same_dish = c.same_dish; too_near = nearer s.turn u.turn (nth ps i) (nth ps j) less c.too_near });
      };
    })

pub more_dishes : MoreDishes
unfolding Best
more_dishes s u ps ds es more less best best₁ = best₁.1 ds (fits_wider s u ps ds more less best.0)

module _ (s : Station) (p : Pass) where
  -- whoever is free for a pass among others is free for it among fewer
  free_without : (q : Pass) (d : ℕ) (ps qs : List Pass) (es : Plan) → free_for s q d (ps ++ p ∷ qs) es ≡ true → free_for s q d (ps ++ qs) (remove es (length ps)) ≡ true
  unfolding free_for
  free_without q d [] [] [] h = refl
  free_without q d [] (r ∷ qs) [] h = refl
  free_without q d [] qs (e ∷ es) h = (and_parts (not (eqb d e) || one_after s.turn q p) _ h).1
  free_without q d (r ∷ ps) qs [] h = refl
  free_without q d (r ∷ ps) qs (e ∷ es) h =
      let parts = and_parts (not (eqb d e) || one_after s.turn q r) _ h in
      and_from _ _ parts.0 (free_without q d ps qs es parts.1)

  -- a plan with a pass left out is good for the list without it
  fits_without : (ps qs : List Pass) (es : Plan) → fits s (ps ++ p ∷ qs) es ≡ true → fits s (ps ++ qs) (remove es (length ps)) ≡ true
  unfolding fits
  fits_without [] qs [] h = absurd (both_ways false refl h)
  fits_without [] qs (e ∷ es) h = (and_parts (fits_one s p e qs es) _ h).1
  fits_without (q ∷ ps) qs [] h = absurd (both_ways false refl h)
  fits_without (q ∷ ps) qs (e ∷ es) h =
      let parts = and_parts (fits_one s q e (ps ++ p ∷ qs) es) (fits s (ps ++ p ∷ qs) es) h in
      let here = fits_one_says s q e (ps ++ p ∷ qs) es parts.0 in
      and_from _ _
      (fits_one_from s q e (ps ++ qs) (remove es (length ps)) (record { there = here.there; hears = here.hears; free = λ some. free_without q e ps qs es (here.free some) }))
      (fits_without ps qs es parts.1)

  -- and worth less by no more than that pass
  worth_without : (ps qs : List Pass) (es : Plan) → worth_of (ps ++ p ∷ qs) es ≤ worth_of (ps ++ qs) (remove es (length ps)) + p.worth
  unfolding worth_of
  worth_without [] qs [] = omega arith
  worth_without [] qs (e ∷ es) = grind (arith, nat_tests)
  worth_without (q ∷ ps) qs [] = omega arith
  worth_without (q ∷ ps) qs (e ∷ es) = let rest = worth_without ps qs es in omega arith

  -- whoever follows something is free for it beside one more that nobody follows
  free_with : (q : Pass) (d : ℕ) (ps qs : List Pass) (ds : Plan) → 0 < d → length ps ≤ length ds → free_for s q d (ps ++ qs) ds ≡ true → free_for s q d (ps ++ p ∷ qs) (insert ds (length ps) 0) ≡ true
  unfolding free_for
  free_with q d [] qs ds some l h = grind (arith, nat_tests)
  free_with q d (r ∷ ps) qs [] some l h = absurd (omega arith)
  free_with q d (r ∷ ps) qs (e ∷ ds) some l h =
      let parts = and_parts (not (eqb d e) || one_after s.turn q r) _ h in
      and_from _ _ parts.0 (free_with q d ps qs ds some (omega arith) parts.1)

  fits_with : (ps qs : List Pass) (ds : Plan) → length ps ≤ length ds → fits s (ps ++ qs) ds ≡ true → fits s (ps ++ p ∷ qs) (insert ds (length ps) 0) ≡ true
  unfolding fits fits_one
  fits_with [] qs ds l h = h
  fits_with (q ∷ ps) qs [] l h = absurd (omega arith)
  fits_with (q ∷ ps) qs (e ∷ ds) l h =
      let parts = and_parts (fits_one s q e (ps ++ qs) ds) (fits s (ps ++ qs) ds) h in
      let here = fits_one_says s q e (ps ++ qs) ds parts.0 in
      and_from _ _
      (fits_one_from s q e (ps ++ p ∷ qs) (insert ds (length ps) 0) (record { there = here.there; hears = here.hears; free = λ some. free_with q e ps qs ds some (omega arith) (here.free some) }))
      (fits_with ps qs ds (omega arith) parts.1)

  worth_with : (ps qs : List Pass) (ds : Plan) → length ps ≤ length ds → worth_of (ps ++ p ∷ qs) (insert ds (length ps) 0) ≡ worth_of (ps ++ qs) ds
  unfolding worth_of
  worth_with [] qs ds l = omega arith
  worth_with (q ∷ ps) qs [] l = absurd (omega arith)
  worth_with (q ∷ ps) qs (e ∷ ds) l = let rest = worth_with ps qs ds (omega arith) in omega arith

-- a plan has a number for each pass of the front
front_long : (s : Station) (ps qs : List Pass) (ds : Plan) → fits s (ps ++ qs) ds ≡ true → length ps ≤ length ds
front_long s ps qs ds good = omega (arith, (fits_says s (ps ++ qs) ds good).one_each, length-append ps qs)

pub one_more : OneMore
unfolding Best
one_more s ps qs p ds es best best₁ =
    let long = front_long s ps qs ds best.0 in
    let up = best₁.1 (insert ds (length ps) 0) (fits_with s p ps qs ds long best.0) in
    let down = best.1 (remove es (length ps)) (fits_without s p ps qs es best₁.0) in
    (omega (arith, worth_with s p ps qs ds long), omega (arith, worth_without s p ps qs es))
