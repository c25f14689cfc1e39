-- What a list that passes the checks is like. Assumes nothing.
use Rattle.std.proofs.Common.{◌≡◌, ℕ, zero, suc, ◌+◌, ◌<◌, ◌≤◌, true, leb, List, [], ◌∷◌, length, refl, arith}
use Rattle.std.proofs.lemmas.Bool.{and_from, and_parts, le-leb, leb-true}
use Rattle.std.proofs.lemmas.Bool.Decides.{nat_tests}
use Rattle.passes.specs.declared.model.Pass.{Pass}
use Rattle.passes.specs.declared.model.Station.{Station}
use Rattle.passes.specs.Checks.{dishes_ok, turning_ok, in_range, all_in_range, sorted, checked}
use Rattle.passes.specs.Rule.{nth}

pub ranges_from : (ps : List Pass) → ((i : ℕ) → i < length ps → in_range (nth ps i) ≡ true) → all_in_range ps ≡ true
unfolding all_in_range
ranges_from [] h = refl
ranges_from (p ∷ ps) h = and_from _ _ (h 0 (omega arith)) (ranges_from ps (λ i l. h (suc i) (omega arith)))

pub sorted_from : (ps : List Pass) → ((i : ℕ) → i + 1 < length ps → (nth ps i).from ≤ (nth ps (i + 1)).from) → sorted ps ≡ true
unfolding sorted
sorted_from [] h = refl
sorted_from (p ∷ []) h = refl
sorted_from (p ∷ (q ∷ ps)) h = and_from _ _ (le-leb _ _ (h 0 (omega arith))) (sorted_from (q ∷ ps) (λ i l. let e : suc i + 1 ≡ suc (i + 1) = omega arith in rw e at (h (suc i) (omega arith))))

pub ranges_say : (ps : List Pass) → all_in_range ps ≡ true → (i : ℕ) → i < length ps → in_range (nth ps i) ≡ true
unfolding all_in_range
ranges_say [] h i l = absurd (omega arith)
ranges_say (p ∷ ps) h zero l = (and_parts _ (all_in_range ps) h).0
ranges_say (p ∷ ps) h (suc i) l = ranges_say ps (and_parts (in_range p) _ h).1 i (omega arith)

pub sorted_says : (ps : List Pass) → sorted ps ≡ true → (i : ℕ) → i + 1 < length ps → (nth ps i).from ≤ (nth ps (i + 1)).from
unfolding sorted
sorted_says [] h i l = absurd (omega arith)
sorted_says (p ∷ []) h i l = absurd (omega arith)
sorted_says (p ∷ (q ∷ ps)) h zero l = leb-true _ _ (and_parts _ (sorted (q ∷ ps)) h).0
sorted_says (p ∷ (q ∷ ps)) h (suc i) l =
    let e : suc i + 1 ≡ suc (i + 1) = omega arith in
    rw e (sorted_says (q ∷ ps) (and_parts (leb p.from q.from) _ h).1 i (omega arith))

-- all that the checks say
pub record Checked (s : Station) (ps : List Pass) : Type 0 where
  pub dishes : dishes_ok s.dishes ≡ true
  pub turning : turning_ok s.turn ≡ true
  pub few : length ps ≤ 48
  pub ranges : (i : ℕ) → i < length ps → in_range (nth ps i) ≡ true
  pub order : (i : ℕ) → i + 1 < length ps → (nth ps i).from ≤ (nth ps (i + 1)).from

pub checked_says : (s : Station) (ps : List Pass) → checked s ps ≡ true → Checked s ps
unfolding checked
checked_says s ps h =
    let listed : all_in_range ps ≡ true = grind (arith, nat_tests) in
    let in_time : sorted ps ≡ true = grind (arith, nat_tests) in
    record { dishes = grind (arith, nat_tests); turning = grind (arith, nat_tests); few = grind (arith, nat_tests); ranges = ranges_say ps listed; order = sorted_says ps in_time }

pub checked_from : (s : Station) (ps : List Pass) → Checked s ps → checked s ps ≡ true
unfolding checked
checked_from s ps h =
    and_from _ _ h.dishes (and_from _ _ h.turning (and_from _ _ (le-leb _ _ h.few) (and_from _ _ (ranges_from ps h.ranges) (sorted_from ps h.order))))

-- a station that passes the checks has at most four dishes
pub few_dishes_from_checked : (s : Station) (ps : List Pass) → checked s ps ≡ true → s.dishes ≤ 4
unfolding dishes_ok
few_dishes_from_checked s ps h = let dishes = (checked_says s ps h).dishes in grind (arith, nat_tests, dishes)
