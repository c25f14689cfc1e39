-- What follows where the good plans are those that a rule accepts. Assumes nothing.
use Rattle.std.proofs.Common.{◌≡◌, ℕ, ◌<◌, true, List, length, sym, refl, ◌∙◌, arith}
use Rattle.std.proofs.lemmas.Bool.{and_parts}
use Rattle.engine.specs.Rules.{Automaton}
use Rattle.passes.specs.declared.model.Pass.{Pass}
use Rattle.passes.specs.declared.model.Station.{Station}
use Rattle.passes.specs.Plans.{Plan, fits, worth_of}
use Rattle.passes.specs.Rule.{nth}
use Rattle.passes.proofs.Goodness.{fits_says}
use Rattle.planner.specs.Ruled.{fits_by}
use Rattle.planner.proofs.Finite.{gone_through}
use Rattle.sensitivity.specs.Needing.{with_worth, BestOf, NeededWorth, SomeBestLeavesOf}
use Rattle.sensitivity.proofs.Needs.{some_best_leaves}
use Rattle.sensitivity.proofs.OnePass.{steady_by, long_by}

module _ {T : Type 0} (s : Station) (r : Automaton T) (ps : List Pass) where
  -- where some good plan is accepted, there is a best one among those that are
  pub has_best_by : (ds : Plan) → fits_by s r ps ds ≡ true → (es : Plan) × BestOf (fits_by s r) ps es
  has_best_by ds h =
      let best = gone_through (fits_by s r ps) (worth_of ps) s.dishes (length ps) (λ es. es) ds h in (
        best.0,
        (
          best.1.passes,
          λ es good.
              let plan = fits_says s ps es (and_parts (fits s ps es) _ good).0 in
              best.1.most es (es, record { count = plan.one_each; each = λ i l. (plan.each i l).there }, refl) good,
        ),
      )

module _ {T : Type 0} (s : Station) (r : Automaton T) (ps : List Pass) (i : ℕ) where
  -- where a pass needs just what it is worth, and is worth something, some best plan by the rule doesn't follow it. One that is worth nothing may be in every
  -- good plan, as where the rule forces it
  pub leaves_by : i < length ps → 0 < (nth ps i).worth → NeededWorth (BestOf (fits_by s r)) ps i (nth ps i).worth → SomeBestLeavesOf (BestOf (fits_by s r)) ps i
  leaves_by within some needs =
      let (ds, best, does) = needs.from_there (nth ps i).worth (omega arith) in
      let h = sym (steady_by s r ps i (nth ps i).worth ds) ∙ best.0 in
      some_best_leaves (fits_by s r) ps i within (steady_by s r ps i) (long_by s r ps)
      (λ w. has_best_by s r (with_worth ps i w) ds (steady_by s r ps i w ds ∙ h)) some needs
