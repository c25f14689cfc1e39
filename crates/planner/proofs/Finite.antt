-- Why every list of passes has a best plan: there are finitely many to choose from. Assumes nothing.
use Rattle.std.proofs.Common.{◌≡◌, ℕ, zero, suc, ◌<◌, ◌≤◌, Bool, true, List, [], ◌∷◌, ◌++◌, length, replicate, refl, ap, ◌∙◌, ⊎_elim, arith}
use Rattle.std.proofs.lemmas.List.{drop_all, nil_from_length}
use Rattle.std.proofs.lemmas.Bool.{both_ways, cases_Bool, cases_eq, cases_lt}
use Rattle.passes.specs.declared.model.Pass.{Pass}
use Rattle.passes.specs.declared.model.Station.{Station}
use Rattle.passes.specs.Plans.{Plan, fits, worth_of, Best}
use Rattle.passes.specs.Rule.{says}
use Rattle.passes.proofs.Goodness.{fits_says}
use Rattle.capacity.proofs.Chains.{fits_idle}
use Rattle.planner.specs.Statements.{HasBest}

-- n numbers, none above k
pub record Numbers (k n : ℕ) (ds : Plan) : Type 0 where
  pub count : length ds ≡ n
  pub each : (i : ℕ) → i < n → says ds i ≤ k

module _ (test : Plan → Bool) (worth : Plan → ℕ) where
  -- a plan that passes the test, worth no less than ds and than each of some others that pass it
  pub record NoLess (others : Plan → Type 0) (ds fs : Plan) : Type 0 where
    pub passes : test fs ≡ true
    pub old : worth ds ≤ worth fs
    pub most : (es : Plan) → others es → test es ≡ true → worth es ≤ worth fs

  -- one plan more
  no_less_one : (ds es : Plan) → test ds ≡ true → (fs : Plan) × NoLess (λ gs. gs ≡ es) ds fs
  no_less_one ds es h =
      ⊎_elim
      (λ good.
      ⊎_elim
      (λ (more : worth ds < worth es). (es, record { passes = good; old = omega arith; most = λ gs same _. rw same (omega arith) }))
      (λ less. (ds, record { passes = h; old = omega arith; most = λ gs same _. rw same less }))
      (cases_lt (worth ds) (worth es)))
      (λ bad. (ds, record { passes = h; old = omega arith; most = λ gs same good. absurd (both_ways (test es) bad (rw same at good)) }))
      (cases_Bool (test es))

  -- fewer others
  no_less_among : (others fewer : Plan → Type 0) → ((gs : Plan) → fewer gs → others gs) → (ds : Plan) → ((fs : Plan) × NoLess others ds fs) → (fs : Plan) × NoLess fewer ds fs
  no_less_among others fewer part ds better = (better.0, record { passes = better.1.passes; old = better.1.old; most = λ gs one. better.1.most gs (part gs one) })

  -- those that come of filling n numbers up to k in
  abbrev pub Filled : (k n : ℕ) → (Plan → Plan) → Plan → Type 0
  Filled k n fill gs = (es : Plan) × Numbers k n es × (gs ≡ fill es)

  -- and those of which the first is at most j
  abbrev pub FilledTo : (j k n : ℕ) → (Plan → Plan) → Plan → Type 0
  FilledTo j k n fill gs = (e : ℕ) × (e ≤ j) × Filled k n (λ es. fill (e ∷ es)) gs

  -- all of n numbers can be gone through, from whatever plan one begins with
  abbrev pub GoneThrough : (k n : ℕ) → Type 0
  GoneThrough k n = (fill : Plan → Plan) (ds : Plan) → test ds ≡ true → (fs : Plan) × NoLess (Filled k n fill) ds fs

  module _ (k : ℕ) where
    first_number : (n e : ℕ) (fill : Plan → Plan) (gs : Plan) → Filled k n (λ es. fill (e ∷ es)) gs → (d : ℕ) → e ≡ d → Filled k n (λ es. fill (d ∷ es)) gs
    first_number n e fill gs (es, numbers, is) d same = (es, numbers, is ∙ ap (λ x. fill (x ∷ es)) same)

    up_to : (n : ℕ) → GoneThrough k n → (j : ℕ) (fill : Plan → Plan) (ds : Plan) → test ds ≡ true → (fs : Plan) × NoLess (FilledTo j k n fill) ds fs
    up_to n rest zero fill ds h =
        no_less_among (Filled k n (λ es. fill (0 ∷ es))) (FilledTo 0 k n fill)
        (λ gs one. first_number n one.0 fill gs one.2 0 (omega (arith, one.1))) ds (rest (λ es. fill (0 ∷ es)) ds h)
    up_to n rest (suc j) fill ds h =
        let before = up_to n rest j fill ds h in
        let better = rest (λ es. fill (suc j ∷ es)) before.0 before.1.passes in (
          better.0,
          record {
            passes = better.1.passes;
            old = omega (arith, before.1.old, better.1.old);
            most = λ gs one good.
                ⊎_elim
                (λ here. better.1.most gs (first_number n one.0 fill gs one.2 (suc j) here) good)
                (λ other. omega (arith, before.1.most gs (one.0, omega (arith, one.1), one.2) good, better.1.old))
                (cases_eq one.0 (suc j));
          },
        )

    first_of : (n : ℕ) (fill : Plan → Plan) (gs es : Plan) → Numbers k (suc n) es → gs ≡ fill es → FilledTo k k n fill gs
    first_of n fill gs [] numbers is = absurd (omega (arith, numbers.count))
    first_of n fill gs (e ∷ es) numbers is =
        (e, numbers.each 0 (omega arith), (es, record { count = omega (arith, numbers.count); each = λ i l. numbers.each (suc i) (omega arith) }, is))

    pub gone_through : (n : ℕ) → GoneThrough k n
    gone_through zero fill ds h =
        no_less_among (λ gs. gs ≡ fill []) (Filled k 0 fill)
        (λ gs one. one.2 ∙ ap fill (nil_from_length one.0 one.1.count)) ds (no_less_one ds (fill []) h)
    gone_through (suc n) fill ds h =
        no_less_among (FilledTo k k n fill) (Filled k (suc n) fill)
        (λ gs one. first_of n fill gs one.0 one.1 one.2) ds (up_to n (gone_through n) k fill ds h)

-- following nothing is good
pub idle_fits : (s : Station) (ps : List Pass) → fits s ps (replicate (length ps) 0 ++ []) ≡ true
unfolding fits
idle_fits s ps = fits_idle s (length ps) ps [] (omega arith) (rw (drop_all (length ps) ps (omega arith)) refl)

pub has_best : HasBest
unfolding Best
has_best s ps =
    let best = gone_through (fits s ps) (worth_of ps) s.dishes (length ps) (λ es. es) _ (idle_fits s ps) in (
      best.0,
      (
        best.1.passes,
        λ es good.
            let plan = fits_says s ps es good in
            best.1.most es (es, record { count = plan.one_each; each = λ i l. (plan.each i l).there }, refl) good,
      ),
    )
