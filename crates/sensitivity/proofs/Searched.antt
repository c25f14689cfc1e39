-- What a pass needs, by what a search for plans with it or without it answered. Assumes nothing.
use Rattle.std.proofs.Common.{◌≡◌, ℕ, ◌-◌, ◌<◌, Bool, true, false, List, length, Some, None, ⊎_elim, arith}
use Rattle.std.proofs.lemmas.Bool.{cases_Bool}
use Rattle.passes.specs.declared.model.Pass.{Pass}
use Rattle.passes.specs.Plans.{Plan, worth_of}
use Rattle.passes.specs.Rule.{nth}
use Rattle.planner.specs.Ruled.{follows, BestBy}
use Rattle.sensitivity.specs.Needing.{with_worth, BestOf, NeededWorth, NoneFollows}
use Rattle.sensitivity.specs.PassRules.{AskedAnswered}
use Rattle.sensitivity.proofs.Needs.{split, split_own, needed_of_both, needed_by_all, none_follows, best_as_it_does}

module _
    (good : List Pass → Plan → Bool) (ps : List Pass) (i : ℕ) (within : i < length ps)
    (steady : (v : ℕ) (ds : Plan) → good (with_worth ps i v) ds ≡ good ps ds)
    (one_each : (ds : Plan) → good ps ds ≡ true → length ds ≡ length ps)
    (plan : Plan) (worth : ℕ) (best : BestBy good ps plan worth) (room after : Plan) where
  -- a best plan that follows the pass, and one of those that don't
  pub needed_if_followed : (w : ℕ) → follows plan i ≡ true → AskedAnswered good false ps i 0 room (Some w) after → NeededWorth (BestOf good) ps i (w - (worth - (nth ps i).worth))
  needed_if_followed w followed h =
      let both = needed_of_both good ps i within steady one_each after plan h.0 (best_as_it_does good ps i within steady one_each true plan worth best followed) in
      let out = split_own good ps i within steady one_each false after h.0.is_good h.0.asked in
      let own = split_own good ps i within steady one_each true plan best.is_good followed in
      let same : worth_of ps after - worth_of (with_worth ps i 0) plan ≡ w - (worth - (nth ps i).worth) = omega (arith, h.1, best.worth) in
      rw same at both

  -- a best plan that follows the pass, and none that doesn't
  pub needed_always : follows plan i ≡ true → AskedAnswered good false ps i 0 room None after → NeededWorth (BestOf good) ps i 0
  needed_always followed h =
      needed_by_all good ps i within steady one_each plan (λ ds is_good. ⊎_elim (λ does. does) (λ leaves. absurd (h.0 ds is_good leaves)) (cases_Bool (follows ds i))) (best_as_it_does good ps i within steady one_each true plan worth best followed)

  -- a best plan that lets the pass go, and one of those that follow it, where the pass was worth v
  pub needed_if_let_go : (v w : ℕ) → follows plan i ≡ false → AskedAnswered good true ps i v room (Some w) after → NeededWorth (BestOf good) ps i (worth - (w - v))
  needed_if_let_go v w let_go h =
      let both = needed_of_both good ps i within steady one_each plan after (best_as_it_does good ps i within steady one_each false plan worth best let_go) h.0 in
      let at_v = split good ps i within steady one_each true v after h.0.is_good h.0.asked in
      let same : worth_of ps plan - worth_of (with_worth ps i 0) after ≡ worth - (w - v) = omega (arith, h.1, best.worth) in
      rw same at both

  -- no plan that follows the pass
  pub never_followed : (v : ℕ) → AskedAnswered good true ps i v room None after → NoneFollows good ps i
  never_followed v h = none_follows good ps i within steady one_each h.0
