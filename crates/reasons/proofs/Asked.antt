-- What follows from what is said of a pass. Assumes nothing.
use Rattle.std.proofs.Common.{◌≡◌, ℕ, ◌+◌, ◌-◌, subst, ◌<◌, ◌≤◌, Bool, true, false, cond, refl, List, length, Ok, Err, Result, sym, arith, rules}
use Rattle.std.specs.Prelude.{◌==◌}
use Rattle.std.specs.Result.{result_err, IsOk}
use Rattle.std.proofs.lemmas.Bool.Decides.{nat_tests}
use Rattle.engine.specs.Rules.{Automaton}
use Rattle.passes.specs.declared.model.Pass.{Pass}
use Rattle.passes.specs.declared.model.Station.{Station}
use Rattle.passes.specs.declared.refusals.Refusal.{Refusal}
use Rattle.passes.specs.Plans.{Plan}
use Rattle.passes.specs.Refusals.{or_else, room_refused}
use Rattle.passes.specs.Rule.{nth}
use Rattle.planner.specs.Ruled.{follows, fits_by, BestBy}
use Rattle.sensitivity.specs.declared.needed.Needed.TheVariants.{Worth}
use Rattle.reasons.specs.declared.reason.Reason.TheVariants.{Followed, WorthNothing}
use Rattle.reasons.specs.Following.{followed_reason}
use Rattle.reasons.specs.TrueReasons.{ReasonHolds}
use Rattle.sensitivity.specs.Answers.{place_refused}
use Rattle.sensitivity.specs.Needing.{with_worth, BestOf, SomeBestFollows, SomeBestLeavesOf, NeededWorth, NoneFollows}
use Rattle.sensitivity.proofs.Alike.{leaves_alike, told_alike}
use Rattle.sensitivity.proofs.ByRules.{leaves_by}
use Rattle.sensitivity.proofs.Needs.{enough_exactly}
use Rattle.sensitivity.proofs.Worths.{own_worth}

-- who asks of a pass that is there, and lends a room for a plan, is answered
pub answered :
    {X : Type 0} (n i room : ℕ) (r : Result X Refusal) → i < n → room ≡ n → result_err r ≡ or_else (place_refused n i) (room_refused n room) → IsOk r
unfolding room_refused
answered n i room (Ok x) within long told = search rules
answered n i room (Err why) within long told = grind (arith, nat_tests)

module _ (good : List Pass → Plan → Bool) (ps : List Pass) (ds : Plan) (i : ℕ) where
  -- a best plan, with its worth, is a best plan
  best_of_by : (w : ℕ) → BestBy good ps ds w → BestOf good ps ds
  best_of_by w best = (best.is_good, λ es h. rw best.worth at (best.most es h))

  -- what a pass needs that a best plan follows is no more than it is worth
  pub has_enough : (v w : ℕ) → BestBy good ps ds w → follows ds i ≡ true → NeededWorth (BestOf good) ps i v → v ≤ (nth ps i).worth
  has_enough v w best followed needed = (enough_exactly (BestOf good) ps i v needed).1 (ds, best_of_by w best, followed)

  -- a pass that no good plan follows whatever it is worth isn't followed
  pub not_followed : good ps ds ≡ true → NoneFollows good ps i → follows ds i ≡ false
  not_followed h none = none (nth ps i).worth ds (rw (own_worth ps i) h)

-- a pass that needs no more than it is worth is followed by some best plan
pub as_well_followed : (good : List Pass → Plan → Bool) (ps : List Pass) (i v : ℕ) → NeededWorth (BestOf good) ps i v → v ≤ (nth ps i).worth → SomeBestFollows (BestOf good) ps i
as_well_followed good ps i v needed enough = (enough_exactly (BestOf good) ps i v needed).0 enough

-- one that is worth something, and can lose nothing, isn't followed by some best plan
pub no_spare :
    {T : Type 0} (s : Station) (r : Automaton T) (good : List Pass → Plan → Bool) (ps : List Pass) (i v spare : ℕ) →
    ((w : ℕ) (ds : Plan) → fits_by s r (with_worth ps i w) ds ≡ good (with_worth ps i w) ds) → i < length ps → 0 < (nth ps i).worth →
    NeededWorth (BestOf (fits_by s r)) ps i v → v + spare ≡ (nth ps i).worth → spare ≡ 0 → SomeBestLeavesOf (BestOf good) ps i
no_spare s r good ps i v spare agrees within some needed sum none =
    let same : v ≡ (nth ps i).worth = omega arith in
    leaves_alike (fits_by s r) good ps i agrees (leaves_by s r ps i within some (subst (λ w. NeededWorth (BestOf (fits_by s r)) ps i w) same needed))

-- of a pass that the plan follows the reason is true that is given for what it is worth and needs
module _
    {T : Type 0} (s : Station) (r : Automaton T) (good : List Pass → Plan → Bool) (ps : List Pass) (ds : Plan) (ls : List (List ℕ)) (i : ℕ)
    (agrees : (w : ℕ) (es : Plan) → fits_by s r (with_worth ps i w) es ≡ good (with_worth ps i w) es) (within : i < length ps) (followed : follows ds i ≡ true) where
  pub followed_true :
      (v : ℕ) → NeededWorth (BestOf (fits_by s r)) ps i v → v ≤ (nth ps i).worth →
      ReasonHolds good ps ds ls i (followed_reason (nth ps i).worth ((nth ps i).worth - v))
  followed_true v told enough = by ((nth ps i).worth == 0) refl
    where
      by : (z : Bool) → ((nth ps i).worth == 0) ≡ z → ReasonHolds good ps ds ls i (cond z WorthNothing (Followed ((nth ps i).worth - v)))
      by true none =
          let nothing : (nth ps i).worth ≡ 0 = grind (arith, nat_tests) in
          let needs : v ≡ 0 = omega arith in
          (followed, nothing, told_alike (fits_by s r) good ps i agrees (Worth 0) (subst (λ w. NeededWorth (BestOf (fits_by s r)) ps i w) needs told))
      by false some = (
        followed,
        (v, told_alike (fits_by s r) good ps i agrees (Worth v) told, omega arith),
        no_spare s r good ps i v _ agrees within (grind (arith, nat_tests)) told (omega arith),
      )
