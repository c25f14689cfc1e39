-- Why going through the numbers tells whether some best plan follows a pass. Assumes nothing.
use Rattle.std.proofs.Common.{◌≡◌, ℕ, ◌+◌, ◌^◌, ◌<◌, ◌≤◌, ◌&&◌, ◌==◌, Bool, true, List, length, Some, None, Option, IsSome, refl, arith, below_more}
use Rattle.std.proofs.lemmas.Bool.Decides.{nat_tests}
use Rattle.passes.specs.declared.model.Pass.{Pass}
use Rattle.passes.specs.declared.model.Station.{Station}
use Rattle.passes.specs.Plans.{Plan, worth_of}
use Rattle.passes.specs.Rule.{says}
use Rattle.sensitivity.specs.Needing.{BestOf, SomeBestFollows}
use Rattle.trials.specs.Numbered.{plans_of, BestWorthBy, MostOfAll}
use Rattle.trials.proofs.Comparing.{best_if_worth, worth_if_best}
use Rattle.trials.proofs.Numbering.{numbered, nth_plan, Choosable}

-- where 64 bits count the plans, it is known what a best one is worth
pub most_is_some : (good : List Pass → Plan → Bool) (s : Station) (ps : List Pass) (most : Option ℕ) → plans_of s ps < 2 ^ 64 → MostOfAll good s ps most → IsSome most
most_is_some good s ps None few all = absurd (omega arith)
most_is_some good s ps (Some w) few all = refl

module _ (s : Station) (ps : List Pass) (good : List Pass → Plan → Bool) (i w : ℕ) where
  -- the plan is not one that is good, worth w, and follows pass i
  abbrev NotIt : Plan → Type 0
  NotIt ds = (good ps ds && worth_of ps ds == w) ≡ true → 0 < says ds i → ⊥

  -- no good plan with a number below n is worth w and follows pass i
  abbrev pub NoneBelow : ℕ → Type 0
  NoneBelow n = (m : ℕ) → m < n → NotIt (nth_plan s ps good m)

  -- one plan more that is no such one
  pub none_yet : (n : ℕ) (ds : Plan) → ds ≡ nth_plan s ps good n → NoneBelow n → NotIt ds → NoneBelow (n + 1)
  none_yet n ds written none here = below_more (λ m. NotIt (nth_plan s ps good m)) n none (rw written at here)

  module _ (best : BestWorthBy good ps w) where
    -- a good plan that is worth as much as a best one, and follows the pass, is a best one that does
    pub found : (ds : Plan) → (good ps ds && worth_of ps ds == w) ≡ true → 0 < says ds i → SomeBestFollows (BestOf good) ps i
    found ds fits followed =
        let fine : good ps ds ≡ true = grind (arith, nat_tests) in
        let worth : w ≡ worth_of ps ds = grind (arith, nat_tests) in
        (ds, best_if_worth good s ps (Some w) best w refl ds fine worth, grind (arith, nat_tests))

    -- once all plans have been gone through, no best one follows the pass
    pub none_found : Choosable s ps good → (n : ℕ) → plans_of s ps ≤ n → NoneBelow n → SomeBestFollows (BestOf good) ps i → ⊥
    none_found some n all none (ds, ds_best, followed) =
        let number = numbered s.dishes (s.dishes + 1) (length ps) ds (omega arith) (some.numbers ds ds_best.0) in
        let worth = worth_if_best good s ps (Some w) best w refl ds ds_best in
        let fine = ds_best.0 in
        none number.0 (omega (arith, all, number.1)) (rw number.2 (grind (arith, nat_tests))) (rw number.2 (grind (arith, nat_tests)))
