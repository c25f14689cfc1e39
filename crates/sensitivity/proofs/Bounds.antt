-- How much a plan can be worth. Assumes nothing.
use Rattle.std.proofs.Common.{◌≡◌, ℕ, ◌+◌, ◌*◌, ◌<◌, ◌≤◌, Bool, true, false, cond, List, [], ◌∷◌, length, sym, ◌∙◌, ⊎_elim, arith}
use Rattle.std.proofs.lemmas.Bool.{and_parts, cases_Bool, cases_lt}
use Rattle.std.proofs.lemmas.Bool.Decides.{nat_tests}
use Rattle.passes.specs.declared.model.Pass.{Pass}
use Rattle.passes.specs.declared.model.Station.{Station}
use Rattle.passes.specs.Checks.{checked, in_range, all_in_range}
use Rattle.passes.specs.Plans.{Plan, fits, worth_of, Best}
use Rattle.passes.proofs.Checking.{checked_says}
use Rattle.planner.specs.Ruled.{follows}
use Rattle.sensitivity.specs.Needing.{BestOf, NeededWorth, SomeBestFollows, with_worth}
use Rattle.sensitivity.specs.Statements.{BelowNever}
use Rattle.sensitivity.proofs.Needs.{split, split_own}
use Rattle.sensitivity.proofs.Stations.{fits_long, needed_in_general}
use Rattle.sensitivity.proofs.Worths.{fits_same}

-- no plan of passes in range is worth more than so much for each pass
in_range_worth : (ps : List Pass) (ds : Plan) → all_in_range ps ≡ true → worth_of ps ds ≤ 1000000 * length ps
unfolding worth_of all_in_range in_range
in_range_worth [] ds h = omega arith
in_range_worth (p ∷ ps) [] h = omega arith
in_range_worth (p ∷ ps) (d ∷ ds) h =
    let parts = and_parts (in_range p) _ h in
    let own = parts.0 in
    let small : p.worth ≤ 1000000 = grind (arith, nat_tests) in
    let rest = in_range_worth ps ds parts.1 in
    grind (arith, nat_tests)

-- no plan for a list that passes the checks is worth more than so much
pub small_worth : (s : Station) (ps : List Pass) (ds : Plan) → checked s ps ≡ true → worth_of ps ds ≤ 48000000
unfolding checked
small_worth s ps ds ok =
    let ranges : all_in_range ps ≡ true = grind (arith, nat_tests) in
    omega (arith, (checked_says s ps ok).few, in_range_worth ps ds ranges)

-- so no pass needs more, whichever plans are good
pub low_needed :
    (s : Station) (good : List Pass → Plan → Bool) (ps : List Pass) (i v : ℕ) → i < length ps →
    ((w : ℕ) (ds : Plan) → good (with_worth ps i w) ds ≡ good ps ds) → ((ds : Plan) → good ps ds ≡ true → length ds ≡ length ps) →
    checked s ps ≡ true → NeededWorth (BestOf good) ps i v → v ≤ 48000000
low_needed s good ps i v within steady one_each ok needs =
    ⊎_elim
    (λ (big : 48000000 < v). absurd (needs.none_below 48000000 big enough))
    (λ (small : v ≤ 48000000). small)
    (cases_lt 48000000 v)
  where
    earns : (b : Bool) (w : ℕ) (ds : Plan) → good ps ds ≡ true → follows ds i ≡ b → worth_of (with_worth ps i w) ds ≡ worth_of (with_worth ps i 0) ds + cond b w 0
    earns = split good ps i within steady one_each

    enough : SomeBestFollows (BestOf good) (with_worth ps i 48000000) i
    enough =
        let (es, best, asked) = needs.from_there v (omega arith) in
        let is_good = sym (steady v es) ∙ best.0 in (
          es,
          (
            steady 48000000 es ∙ is_good,
            λ fs fits_it.
                let h = sym (steady 48000000 fs) ∙ fits_it in
                let here = earns true 48000000 es is_good asked in
                ⊎_elim
                (λ does. let more = best.1 fs (steady v fs ∙ h) in omega (arith, here, earns true 48000000 fs h does, earns true v fs h does, earns true v es is_good asked))
                (λ leaves.
                let own = split_own good ps i within steady one_each false fs h leaves in
                omega (arith, here, earns false 48000000 fs h leaves, small_worth s ps fs ok))
                (cases_Bool (follows fs i)),
          ),
          asked,
        )

-- nor does one of a station's night
pub below_never : BelowNever
below_never s ps i v ok within needs =
    low_needed s (fits s) ps i v within (fits_same s ps i) (fits_long s ps) ok (needed_in_general s ps i v needs)

-- no number that a pass of a list that passes the checks needs is that of never
pub not_never : (s : Station) (ps : List Pass) (i v : ℕ) → checked s ps ≡ true → i < length ps → NeededWorth (Best s) ps i v → v ≡ 4294967295 → ⊥
not_never s ps i v ok within needs same = let low = below_never s ps i v ok within needs in omega arith
