-- What follows where a plan is compared with what a best one is worth. Assumes nothing.
use Rattle.std.proofs.Common.{◌≡◌, ℕ, Bool, true, List, Some, Option, arith}
use Rattle.passes.specs.declared.model.Pass.{Pass}
use Rattle.passes.specs.declared.model.Station.{Station}
use Rattle.passes.specs.Plans.{Plan, worth_of}
use Rattle.sensitivity.specs.Needing.{BestOf}
use Rattle.trials.specs.Numbered.{BestWorthBy, MostOfAll}

module _ (good : List Pass → Plan → Bool) (s : Station) (ps : List Pass) (most : Option ℕ) (all : MostOfAll good s ps most) (w : ℕ) (some : most ≡ Some w) (ds : Plan) where
  best : BestWorthBy good ps w
  best = rw some at all

  -- a good plan that is worth as much as a best one is one
  pub best_if_worth : good ps ds ≡ true → w ≡ worth_of ps ds → BestOf good ps ds
  best_if_worth fine worth = (fine, λ es fine. rw (← worth) (best.1.most es fine))

  -- every best plan is worth as much
  pub worth_if_best : BestOf good ps ds → worth_of ps ds ≡ w
  worth_if_best h = omega (arith, best.1.most ds h.0, best.1.worth, h.1 best.0 best.1.is_good)
