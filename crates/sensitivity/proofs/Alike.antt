-- Two notions of good plans that agree on a list, whatever one of its passes is worth, say the same of that pass. Assumes nothing.
use Rattle.std.proofs.Common.{◌≡◌, ℕ, Bool, true, List, sym, ◌∙◌}
use Rattle.passes.specs.declared.model.Pass.{Pass}
use Rattle.passes.specs.Plans.{Plan}
use Rattle.passes.specs.Rule.{nth}
use Rattle.sensitivity.specs.declared.needed.Needed.{Needed}
use Rattle.sensitivity.specs.declared.needed.Needed.TheVariants.{Worth, Never}
use Rattle.sensitivity.specs.Answers.{LeftBy}
use Rattle.sensitivity.specs.Needing.{with_worth, BestOf, SomeBestFollows, SomeBestLeavesOf, TrueOf, BestAsked}
use Rattle.sensitivity.proofs.Worths.{own_worth}

-- of a list of which both have the same good plans, they have the same best ones
pub best_alike :
    (good good₁ : List Pass → Plan → Bool) (ps : List Pass) → ((ds : Plan) → good ps ds ≡ good₁ ps ds) →
    (ds : Plan) → BestOf good ps ds → BestOf good₁ ps ds
best_alike good good₁ ps same ds best = (sym (same ds) ∙ best.0, λ es h. best.1 es (same es ∙ h))

module _
    (good good₁ : List Pass → Plan → Bool) (ps : List Pass) (i : ℕ)
    (same : (v : ℕ) (ds : Plan) → good (with_worth ps i v) ds ≡ good₁ (with_worth ps i v) ds) where
  -- they agree at the worth that the pass has
  pub same_now : (ds : Plan) → good ps ds ≡ good₁ ps ds
  same_now ds = rw (own_worth ps i) at (same (nth ps i).worth ds)

  -- what is true of the pass by the one is true by the other
  pub told_alike : (n : Needed) → TrueOf good (BestOf good) ps i n → TrueOf good₁ (BestOf good₁) ps i n
  told_alike (Worth v) told = record {
    from_there = λ w l. let (ds, best, does) = told.from_there w l in (ds, best_alike good good₁ (with_worth ps i w) (same w) ds best, does);
    none_below = λ w l some.
        let (ds, best, does) = some in
        told.none_below w l (ds, best_alike good₁ good (with_worth ps i w) (λ es. sym (same w es)) ds best, does);
  }
  told_alike Never told = λ v ds h. told v ds (same v ds ∙ h)

  -- a best one of the plans that do with the pass as is asked, by the one, is one by the other
  pub asked_alike : (b : Bool) (ds : Plan) → BestAsked good b ps i ds → BestAsked good₁ b ps i ds
  asked_alike b ds best = record {
    is_good = sym (same_now ds) ∙ best.is_good;
    asked = best.asked;
    most = λ es h. best.most es (same_now es ∙ h);
  }

  -- so what is left in the room by the one is left by the other
  pub left_alike : (n : Needed) (room after : Plan) → LeftBy good ps i room n after → LeftBy good₁ ps i room n after
  left_alike (Worth v) room after left = asked_alike true after left
  left_alike Never room after left = left

  -- and some best plan follows the pass by the one if some does by the other
  pub follows_alike : SomeBestFollows (BestOf good) ps i → SomeBestFollows (BestOf good₁) ps i
  follows_alike (ds, best, does) = (ds, best_alike good good₁ ps same_now ds best, does)

  -- and some lets it go
  pub leaves_alike : SomeBestLeavesOf (BestOf good) ps i → SomeBestLeavesOf (BestOf good₁) ps i
  leaves_alike (ds, best, leaves) = (ds, best_alike good good₁ ps same_now ds best, leaves)
