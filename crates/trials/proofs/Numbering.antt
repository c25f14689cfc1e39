-- Why going through the numbers goes through all plans. Assumes nothing.
use Rattle.std.proofs.Common.{◌≡◌, ℕ, zero, suc, ◌+◌, ◌-◌, ◌*◌, ◌^◌, ◌<◌, ◌≤◌, ◌/◌, ◌%◌, Bool, true, false, cond, List, [], ◌∷◌, ◌++◌, length, take, set, max, sym, refl, ap, ◌∙◌, arith, below_more}
use Rattle.std.proofs.Math.Nat.{le-max_left, le-max_right, max-le, pow-succ', pow-zero}
use Rattle.std.proofs.lemmas.Bool.Decides.{nat_tests}
use Rattle.std.specs.Ordering.{ord_max, nat_cmp}
use Rattle.std.proofs.lemmas.Bool.{both_ways}
use Rattle.std.proofs.lemmas.List.{append-nil, append_assoc, nil_from_length, take_all, take_more_set}
use Rattle.std.proofs.lemmas.Nat.{div-mul-add, mod-mul-add, mul-add-lt}
use Rattle.passes.specs.declared.model.Pass.{Pass}
use Rattle.passes.specs.declared.model.Station.{Station}
use Rattle.passes.specs.Plans.{Plan, worth_of}
use Rattle.planner.proofs.Finite.{Numbers, gone_through}
use Rattle.sensitivity.specs.Needing.{BestOf}
use Rattle.trials.specs.Numbered.{plan_numbered, BestWorthBy}

module _ (base rest n i : ℕ) (room ds : Plan) (long : length room ≡ n) (h : ds ≡ take i room ++ plan_numbered base rest (n - i)) where
  -- one number more of the plan is written
  pub written : i < n → ds ≡ take (i + 1) (set room i (rest % base)) ++ plan_numbered base (rest / base) (n - (i + 1))
  unfolding plan_numbered
  written l =
      let left : n - i ≡ suc (n - (i + 1)) = omega arith in
      rw left at h
      ∙ sym (append_assoc (take i room) (rest % base ∷ []) _)
      ∙ ap (λ x. x ++ plan_numbered base (rest / base) (n - (i + 1))) (sym (take_more_set room i (rest % base) (omega arith)))

  -- all of it is written
  pub all_written : n ≤ i → room ≡ ds
  unfolding plan_numbered
  all_written l =
      let none : n - i ≡ 0 = omega arith in
      sym (rw none at h ∙ append-nil (take i room) ∙ take_all i room (omega arith))

-- every plan of n passes that names no dish above k has a number
pub numbered : (k base n : ℕ) (ds : Plan) → k < base → Numbers k n ds → (m : ℕ) × (m < base ^ n) × (plan_numbered base m n ≡ ds)
unfolding plan_numbered
numbered k base zero ds more h = (0, omega (arith, pow-zero base), sym (nil_from_length ds h.count))
numbered k base (suc n) [] more h = absurd (omega (arith, h.count))
numbered k base (suc n) (d ∷ ds) more h =
    let rest = numbered k base n ds more (record { count = omega (arith, h.count); each = λ i l. h.each (suc i) (omega arith) }) in
    let small : d < base = omega (arith, h.each 0 (omega arith)) in
    let m = rest.0 in (
      m * base + d,
      rw (pow-succ' base n) (mul-add-lt m base d (base ^ n) rest.1 small),
      rw (mod-mul-add m base d small, div-mul-add m base d small, rest.2) refl,
    )

module _ (s : Station) (ps : List Pass) (good : List Pass → Plan → Bool) where
  -- some plan is good, and each good one names, for each pass, a dish that is there or no dish
  pub record Choosable : Type 0 where
    pub some : (ds : Plan) × (good ps ds ≡ true)
    pub numbers : (ds : Plan) → good ps ds ≡ true → Numbers s.dishes (length ps) ds

  -- so there is a best one
  pub has_best : Choosable → (ds : Plan) × BestOf good ps ds
  has_best h =
      let best = gone_through (good ps) (worth_of ps) s.dishes (length ps) (λ es. es) h.some.0 h.some.1 in
      (best.0, (best.1.passes, λ es fine. best.1.most es (es, h.numbers es fine, refl) fine))

  -- the plan of a number
  abbrev pub nth_plan : ℕ → Plan
  nth_plan m = plan_numbered (s.dishes + 1) m (length ps)

  -- none of the plans with numbers below n is worth more than w, and no best plan is worth less
  pub record MostBelow (n w : ℕ) : Type 0 where
    pub most : (m : ℕ) → m < n → good ps (nth_plan m) ≡ true → worth_of ps (nth_plan m) ≤ w
    pub no_more : (es : Plan) → BestOf good ps es → w ≤ worth_of ps es

  -- whoever is no less than w, and than what the plan of n is worth if it is good, is no less than any up to it
  most_more : (n w v : ℕ) → MostBelow n w → w ≤ v → (good ps (nth_plan n) ≡ true → worth_of ps (nth_plan n) ≤ v) →
      (m : ℕ) → m < n + 1 → good ps (nth_plan m) ≡ true → worth_of ps (nth_plan m) ≤ v
  most_more n w v h more this =
      below_more (λ m. good ps (nth_plan m) ≡ true → worth_of ps (nth_plan m) ≤ v) n (λ m l fine. omega (arith, h.most m l fine, more)) this

  -- one plan more
  pub one_more : (n w : ℕ) → MostBelow n w → MostBelow (n + 1) (max w (cond (good ps (nth_plan n)) (worth_of ps (nth_plan n)) 0))
  one_more n w h = by_cases (good ps (nth_plan n)) refl
    where
      by_cases : (b : Bool) → good ps (nth_plan n) ≡ b → MostBelow (n + 1) (max w (cond b (worth_of ps (nth_plan n)) 0))
      by_cases true fine = record {
        most = most_more n w (max w (worth_of ps (nth_plan n))) h (le-max_left _ _) (λ _. le-max_right _ _);
        no_more = λ es best. max-le (h.no_more es best) (best.1 (nth_plan n) fine);
      }
      by_cases false bad = record {
        most = most_more n w (max w 0) h (le-max_left _ _) (λ fine. absurd (both_ways _ bad fine));
        no_more = λ es best. max-le (h.no_more es best) (omega arith);
      }

  -- once all have been gone through, that is what a best plan is worth
  pub best_of_all : Choosable → (n w : ℕ) → (s.dishes + 1) ^ length ps ≤ n → MostBelow n w → BestWorthBy good ps w
  best_of_all some n w all h =
      let (ds, best) = has_best some in
      let number = numbered s.dishes (s.dishes + 1) (length ps) ds (omega arith) (some.numbers ds best.0) in
      let most = rw number.2 at (h.most number.0 (omega (arith, all, number.1))) in
      let same : w ≡ worth_of ps ds = omega (arith, most best.0, h.no_more ds best) in
      (ds, record { is_good = best.0; worth = same; most = λ es fine. rw same (best.1 es fine) })

-- the greater of two numbers
pub max_is : (a b : ℕ) → ord_max nat_cmp a b ≡ max a b
max_is a b = grind (arith, nat_tests)
