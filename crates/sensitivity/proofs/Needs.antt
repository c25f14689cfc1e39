-- What a pass needs, by the best among the plans that follow it and the best among those that don't, whichever plans are good. Assumes nothing.
use Rattle.std.proofs.Common.{◌≡◌, ℕ, ◌+◌, ◌-◌, ◌<◌, ◌≤◌, Bool, true, false, cond, List, length, refl, sym, ap, ◌∙◌, ⊎_elim, arith}
use Rattle.std.proofs.lemmas.Bool.{both_ways, cases_Bool, cases_lt, false_from_ne_true}
use Rattle.passes.specs.declared.model.Pass.{Pass}
use Rattle.passes.specs.Plans.{Plan, worth_of}
use Rattle.passes.specs.Rule.{nth}
use Rattle.planner.specs.Ruled.{follows, BestBy}
use Rattle.sensitivity.specs.declared.needed.Needed.{Needed}
use Rattle.sensitivity.specs.declared.needed.Needed.TheVariants.{Worth, Never}
use Rattle.sensitivity.specs.Needing.{with_worth, BestOf, SomeBestFollows, SomeBestLeavesOf, NeededWorth, NoneFollows, TrueOf, BestAsked}
use Rattle.sensitivity.proofs.Worths.{own_worth, worth_split}

-- a pass has at most one needed worth
pub one_needed :
    (best : List Pass → Plan → Type 0) (ps : List Pass) (i v w : ℕ) → NeededWorth best ps i v → NeededWorth best ps i w → v ≡ w
one_needed best ps i v w needs needs₁ =
    ⊎_elim
    (λ (less : v < w). absurd (needs₁.none_below v less (needs.from_there v (omega arith))))
    (λ (no_less : w ≤ v).
    ⊎_elim
    (λ (less : w < v). absurd (needs.none_below w less (needs₁.from_there w (omega arith))))
    (λ (no_more : v ≤ w). omega arith)
    (cases_lt w v))
    (cases_lt v w)

-- what a pass needs is at most its worth exactly if some best plan follows it
pub enough_exactly :
    (best : List Pass → Plan → Type 0) (ps : List Pass) (i v : ℕ) → NeededWorth best ps i v →
    (v ≤ (nth ps i).worth → SomeBestFollows best ps i) × (SomeBestFollows best ps i → v ≤ (nth ps i).worth)
enough_exactly best ps i v needs = (
  λ l. rw (own_worth ps i) at (needs.from_there (nth ps i).worth l),
  λ some.
      ⊎_elim
      (λ (less : (nth ps i).worth < v). absurd (needs.none_below (nth ps i).worth less (rw (own_worth ps i) some)))
      (λ (enough : v ≤ (nth ps i).worth). enough)
      (cases_lt (nth ps i).worth v),
)

-- a true word on a pass is never exactly if no good plan follows it, whatever it is worth
pub never_if_none :
    (good : List Pass → Plan → Bool) (ps : List Pass) (i : ℕ) (n : Needed) → TrueOf good (BestOf good) ps i n →
    (n ≡ Never → NoneFollows good ps i) × (NoneFollows good ps i → n ≡ Never)
never_if_none good ps i Never told = (λ same. told, λ none. refl)
never_if_none good ps i (Worth v) told = (
  λ same. absurd (grind arith),
  λ none. let (ds, best, asked) = told.from_there v (omega arith) in absurd (both_ways _ (none v ds best.0) asked),
)

module _
    (good : List Pass → Plan → Bool) (ps : List Pass) (i : ℕ) (within : i < length ps)
    (steady : (v : ℕ) (ds : Plan) → good (with_worth ps i v) ds ≡ good ps ds)
    (one_each : (ds : Plan) → good ps ds ≡ true → length ds ≡ length ps) where
  -- a good plan is worth what the others of its passes are worth, and what pass i is if it follows that
  pub split :
      (b : Bool) (v : ℕ) (ds : Plan) → good ps ds ≡ true → follows ds i ≡ b →
      worth_of (with_worth ps i v) ds ≡ worth_of (with_worth ps i 0) ds + cond b v 0
  split b v ds h asked = worth_split ps i v ds within (one_each ds h) ∙ ap (λ a. worth_of (with_worth ps i 0) ds + cond a v 0) asked

  -- at the worth that pass i has, a good plan is worth what the others are worth, and what that pass is if it follows it
  pub split_own :
      (b : Bool) (ds : Plan) → good ps ds ≡ true → follows ds i ≡ b →
      worth_of ps ds ≡ worth_of (with_worth ps i 0) ds + cond b (nth ps i).worth 0
  split_own b ds h asked = ap (λ qs. worth_of qs ds) (sym (own_worth ps i)) ∙ split b (nth ps i).worth ds h asked

  -- among the plans asked for, a best one earns the most with the other passes
  pub most_of_others :
      (b : Bool) (ds : Plan) → BestAsked good b ps i ds →
      (es : Plan) → good ps es ≡ true → follows es i ≡ b → worth_of (with_worth ps i 0) es ≤ worth_of (with_worth ps i 0) ds
  most_of_others b ds best es h asked =
      let more = best.most es h asked in
      omega (arith, split_own b es h asked, split_own b ds best.is_good best.asked)

  -- a best one among the plans asked for, at some worth of the pass, is one at the worth that it has
  pub asked_at : (b : Bool) (v : ℕ) (ds : Plan) → BestAsked good b (with_worth ps i v) i ds → BestAsked good b ps i ds
  asked_at b v ds best =
      let h = sym (steady v ds) ∙ best.is_good in
      record {
        is_good = h;
        asked = best.asked;
        most = λ es good_es asked.
            let more = best.most es (steady v es ∙ good_es) asked in
            omega (arith, split b v es good_es asked, split b v ds h best.asked, split_own b es good_es asked, split_own b ds h best.asked);
      }

  -- at a worth w of the pass, no plan that follows it is worth more than w and what the best of them earns with the others
  most_with :
      (w : ℕ) (es : Plan) → BestAsked good true ps i es →
      (fs : Plan) → good ps fs ≡ true → follows fs i ≡ true → worth_of (with_worth ps i w) fs ≤ worth_of (with_worth ps i 0) es + w
  most_with w es best fs h asked = omega (arith, most_of_others true es best fs h asked, split true w fs h asked)

  -- where the pass is worth enough to make up for what is lost with the others, some best plan follows it
  enough :
      (w : ℕ) (es : Plan) → BestAsked good true ps i es →
      ((fs : Plan) → good ps fs ≡ true → follows fs i ≡ false → worth_of ps fs ≤ worth_of (with_worth ps i 0) es + w) →
      SomeBestFollows (BestOf good) (with_worth ps i w) i
  enough w es best makes_up = (
    es,
    (
      steady w es ∙ best.is_good,
      λ fs good_fs.
          let h = sym (steady w fs) ∙ good_fs in
          ⊎_elim
          (λ asked. omega (arith, most_with w es best fs h asked, split true w es best.is_good best.asked))
          (λ out. omega (arith, makes_up fs h out, split true w es best.is_good best.asked, split false w fs h out, split_own false fs h out))
          (cases_Bool (follows fs i)),
    ),
    best.asked,
  )

  -- a pass needs what the best plan without it is worth, less what the best one with it earns with the others
  pub needed_of_both :
      (ds es : Plan) → BestAsked good false ps i ds → BestAsked good true ps i es →
      NeededWorth (BestOf good) ps i (worth_of ps ds - worth_of (with_worth ps i 0) es)
  needed_of_both ds es without best = record {
    from_there = λ w l. enough w es best (λ fs h out. let more = without.most fs h out in omega arith);
    none_below = λ w l some.
        let (fs, best_fs, asked) = some in
        let h = sym (steady w fs) ∙ best_fs.0 in
        let more = best_fs.1 ds (steady w ds ∙ without.is_good) in
        let out = split false w ds without.is_good without.asked in
        let own = split_own false ds without.is_good without.asked in
        omega (arith, most_with w es best fs h asked);
  }

  -- a pass that no good plan leaves out needs nothing
  pub needed_by_all :
      (es : Plan) → ((ds : Plan) → good ps ds ≡ true → follows ds i ≡ true) → BestAsked good true ps i es → NeededWorth (BestOf good) ps i 0
  needed_by_all es all best = record {
    from_there = λ w l. enough w es best (λ fs h out. absurd (both_ways _ out (all fs h)));
    none_below = λ w l some. absurd (omega arith);
  }

  -- a pass that no good plan follows is followed by none at whatever worth
  pub none_follows : ((ds : Plan) → good ps ds ≡ true → follows ds i ≡ true → ⊥) → NoneFollows good ps i
  none_follows none v ds h = false_from_ne_true (follows ds i) (none ds (sym (steady v ds) ∙ h))

  -- a best plan is a best one among those that follow the pass if it does, and among those that don't if it doesn't
  pub best_as_it_does : (b : Bool) (ds : Plan) (w : ℕ) → BestBy good ps ds w → follows ds i ≡ b → BestAsked good b ps i ds
  best_as_it_does b ds w best asked = record { is_good = best.is_good; asked = asked; most = λ es h _. rw best.worth at (best.most es h) }

  -- where a pass needs just what it is worth, and is worth something, some best plan doesn't follow it, if there is a best plan at each worth of it
  pub some_best_leaves :
      ((w : ℕ) → (ds : Plan) × BestOf good (with_worth ps i w) ds) → 0 < (nth ps i).worth → NeededWorth (BestOf good) ps i (nth ps i).worth →
      SomeBestLeavesOf (BestOf good) ps i
  some_best_leaves has some needs =
      let w = (nth ps i).worth - 1 in
      let (es, best) = has w in
      let is_good = sym (steady w es) ∙ best.0 in
      let none : SomeBestFollows (BestOf good) (with_worth ps i w) i → ⊥ = needs.none_below w (omega arith) in
      let leaves = false_from_ne_true (follows es i) (λ does. none (es, best, does)) in
      let here = split false w es is_good leaves in
      let now = split_own false es is_good leaves in (
        es,
        (
          is_good,
          λ fs h.
              let at_w = best.1 fs (steady w fs ∙ h) in
              ⊎_elim
              (λ does.
              let there = split true w fs h does in
              ⊎_elim
              (λ (less : worth_of (with_worth ps i w) fs < worth_of (with_worth ps i w) es). omega (arith, there, here, now, split_own true fs h does))
              (λ (as_much : worth_of (with_worth ps i w) es ≤ worth_of (with_worth ps i w) fs).
              absurd (none (fs, (steady w fs ∙ h, λ gs fits_it. omega (arith, best.1 gs fits_it)), does)))
              (cases_lt (worth_of (with_worth ps i w) fs) (worth_of (with_worth ps i w) es)))
              (λ out. omega (arith, split false w fs h out, here, now, split_own false fs h out))
              (cases_Bool (follows fs i)),
        ),
        leaves,
      )
