-- A list with another worth of one of its passes. Assumes nothing.
use Rattle.std.proofs.Common.{◌≡◌, ℕ, zero, suc, ◌+◌, ◌*◌, ◌^◌, ◌<◌, ◌≤◌, ◌≢◌, true, List, [], ◌∷◌, length, set, None, sym, refl, ap, ◌∙◌, ⊎_elim, arith}
use Rattle.std.proofs.lemmas.Bool.{cases_eq}
use Rattle.std.proofs.lemmas.Bool.Decides.{nat_tests}
use Rattle.std.proofs.lemmas.List.{length-set, get_or-set_same, get_or-set_other}
use Rattle.std.proofs.Math.Nat.{pow-le-pow_left, pow-le-pow_right}
use Rattle.passes.specs.declared.model.Pass.{Pass}
use Rattle.passes.specs.declared.model.Station.{Station}
use Rattle.passes.specs.Checks.{checked, in_range}
use Rattle.passes.specs.Nights.{station_of}
use Rattle.passes.specs.Numbers.{passes_in}
use Rattle.passes.specs.Refusals.{refused}
use Rattle.passes.specs.Rule.{no_pass, nth}
use Rattle.passes.proofs.Checking.{checked_says, checked_from, few_dishes_from_checked}
use Rattle.passes.proofs.Taking.{taken_if_checked}
use Rattle.sensitivity.specs.Needing.{worth_instead, with_worth}
use Rattle.sensitivity.proofs.Worths.{length_same}
use Rattle.trials.specs.Needs.{CanBeTried}

-- where another worth is written among the numbers, the passes are those with that worth
pub varied_passes : (xs : List ℕ) (i v : ℕ) → i < length (passes_in xs) → passes_in (set xs (4 * i + 2) v) ≡ with_worth (passes_in xs) i v
unfolding passes_in
varied_passes [] i v l = absurd (omega arith)
varied_passes (a ∷ []) i v l = absurd (omega arith)
varied_passes (a ∷ (b ∷ [])) i v l = absurd (omega arith)
varied_passes (a ∷ (b ∷ (c ∷ []))) i v l = absurd (omega arith)
varied_passes (a ∷ (b ∷ (c ∷ (m ∷ xs)))) zero v l = refl
varied_passes (a ∷ (b ∷ (c ∷ (m ∷ xs)))) (suc i) v l =
    let e : 4 * suc i + 2 ≡ suc (suc (suc (suc (4 * i + 2)))) = omega arith in
    rw e (ap (λ ps. record { from = a; to = b; worth = c; marks = m } ∷ ps) (varied_passes xs i v (omega arith)))

-- a pass that is in range stays so where it is worth what a pass may be
in_range_instead : (p : Pass) (v : ℕ) → v ≤ 1000000 → in_range p ≡ true → in_range (worth_instead p v) ≡ true
unfolding in_range
in_range_instead p v small h = grind (arith, nat_tests)

module _ (ps : List Pass) (i v : ℕ) (within : i < length ps) where
  -- pass i is worth v
  own : nth (with_worth ps i v) i ≡ worth_instead (nth ps i) v
  own = get_or-set_same ps i (worth_instead (nth ps i) v) no_pass within

  -- each other pass is as it was
  others : (j : ℕ) → j ≢ i → nth (with_worth ps i v) j ≡ nth ps j
  others j other = get_or-set_other ps i j (worth_instead (nth ps i) v) no_pass other

  -- each pass begins when it did
  same_from : (j : ℕ) → (nth (with_worth ps i v) j).from ≡ (nth ps j).from
  same_from j = ⊎_elim (λ (same : j ≡ i). rw (same, own) refl) (λ other. ap (λ p. p.from) (others j other)) (cases_eq j i)

  -- each pass that is in range stays so where v is what a pass may be worth
  still_in_range :
      (j : ℕ) → v ≤ 1000000 → in_range (nth ps i) ≡ true → in_range (nth ps j) ≡ true → in_range (nth (with_worth ps i v) j) ≡ true
  still_in_range j small at_i at_j =
      ⊎_elim
      (λ (same : j ≡ i). rw (same, own) (in_range_instead (nth ps i) v small at_i))
      (λ other. ap in_range (others j other) ∙ at_j)
      (cases_eq j i)

  -- a list that passes the checks still does
  checked_varied : (s : Station) → v ≤ 1000000 → checked s ps ≡ true → checked s (with_worth ps i v) ≡ true
  checked_varied s small h =
      let ok = checked_says s ps h in
      let long = length_same ps i v in
      checked_from s (with_worth ps i v) (record {
        dishes = ok.dishes;
        turning = ok.turning;
        few = omega (arith, ok.few);
        ranges = λ j l. still_in_range j small (ok.ranges i within) (ok.ranges j (omega arith));
        order = λ j l. omega (arith, ok.order j (omega arith), same_from j, same_from (j + 1));
      })

-- the numbers of a list to which no refusal applies come in fours
pub in_fours : (k t : ℕ) (xs : List ℕ) → refused k t xs ≡ None → length xs ≡ 4 * length (passes_in xs)
in_fours k t xs taken = ((taken_if_checked k t xs).0 taken).0

-- a list that can be tried still can where a pass is worth something else
pub varied_can_be_tried :
    (k t : ℕ) (xs : List ℕ) (i v : ℕ) → CanBeTried k t xs → i < length (passes_in xs) → v ≤ 1000000 → CanBeTried k t (set xs (4 * i + 2) v)
varied_can_be_tried k t xs i v h within small =
    let same = varied_passes xs i v within in
    let long = length_same (passes_in xs) i v in
    let count : length (passes_in (set xs (4 * i + 2) v)) ≡ length (passes_in xs) = ap length same ∙ long in
    let ok = ((taken_if_checked k t xs).0 h.taken).1 in
    record {
      taken = (taken_if_checked k t _).1
          (length-set xs (4 * i + 2) v ∙ in_fours k t xs h.taken ∙ ap (λ n. 4 * n) (sym count))
          (rw same (checked_varied (passes_in xs) i v within (station_of k t) small ok));
      few = rw count h.few;
    }

-- a list of no more than six passes can be tried
pub short_can_be_tried : (k t : ℕ) (xs : List ℕ) → refused k t xs ≡ None → length xs ≤ 24 → CanBeTried k t xs
short_can_be_tried k t xs taken short =
    let dishes = few_dishes_from_checked (station_of k t) (passes_in xs) ((taken_if_checked k t xs).0 taken).1 in
    let small : k + 1 ≤ 5 = omega (arith, dishes) in
    let count : length (passes_in xs) ≤ 6 = omega (arith, in_fours k t xs taken, short) in
    let below : (k + 1) ^ length (passes_in xs) ≤ 5 ^ length (passes_in xs) = pow-le-pow_left small _ in
    let below₁ : 5 ^ length (passes_in xs) ≤ 5 ^ 6 = pow-le-pow_right (omega arith) count in
    record { taken = taken; few = omega (arith, below, below₁) }
