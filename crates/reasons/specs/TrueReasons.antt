-- Which reasons for following a pass, or for letting it go, are true. Assumes nothing: these are definitions.
use Rattle.std.specs.Prelude.{◌≡◌, ℕ, ◌+◌, ◌<◌, ◌≤◌, Bool, true, false, List, map, length, slice_get, Some, string_bytes}
use Rattle.passes.specs.declared.model.Pass.{Pass}
use Rattle.passes.specs.Nights.{passes_of}
use Rattle.passes.specs.Plans.{Plan, worth_of}
use Rattle.passes.specs.Rule.{nth}
use Rattle.planner.specs.Ruled.{follows}
use Rattle.sensitivity.specs.Needing.{BestOf, SomeBestFollows, SomeBestLeavesOf, NeededWorth, NoneFollows, BestAsked}
use Rattle.text.specs.declared.planned.Planned.{Planned}
use Rattle.text.specs.Lists.{good_of}
use Rattle.reasons.specs.declared.reason.Reason.{Reason}
use Rattle.reasons.specs.declared.reason.Reason.TheVariants.{Followed, WorthNothing, AsWell, Needs, NoDish}
use Rattle.reasons.specs.Others.{others_in, labels_at, called}

-- beside the plan ds, a best plan among those that follow pass i is worth so much; those with the first labels would go for it, and those with the second
-- ones come. It is given which plans of a list are good
pub record WithIt (good : List Pass → Plan → Bool) (ps : List Pass) (ds : Plan) (ls : List (List ℕ)) (i worth : ℕ) (goes comes : List (List ℕ)) : Type 0 where
  pub plan : Plan
  pub best : BestAsked good true ps i plan
  pub worth_with_it : worth ≡ worth_of ps plan
  pub go : goes ≡ labels_at ls (others_in i ds plan)
  pub come : comes ≡ labels_at ls (others_in i plan ds)

-- the reason is true of pass i, where ds is the plan of a night, ls is what the passes are called, and it is given which plans of a list are good
abbrev pub ReasonHolds : (good : List Pass → Plan → Bool) → List Pass → (ds : Plan) → (ls : List (List ℕ)) → (i : ℕ) → Reason → Type 0
ReasonHolds good ps ds ls i (Followed spare) =
    (follows ds i ≡ true) × ((needed : ℕ) × NeededWorth (BestOf good) ps i needed × (needed + spare ≡ (nth ps i).worth)) × (spare ≡ 0 → SomeBestLeavesOf (BestOf good) ps i)
ReasonHolds good ps ds ls i WorthNothing = (follows ds i ≡ true) × ((nth ps i).worth ≡ 0) × NeededWorth (BestOf good) ps i 0
ReasonHolds good ps ds ls i AsWell =
    (follows ds i ≡ false) × ((needed : ℕ) × NeededWorth (BestOf good) ps i needed × (needed ≤ (nth ps i).worth)) × SomeBestFollows (BestOf good) ps i
ReasonHolds good ps ds ls i (Needs worth needed with goes comes) =
    (follows ds i ≡ false) × (worth ≡ (nth ps i).worth) × (worth < needed) × NeededWorth (BestOf good) ps i needed
    × WithIt good ps ds ls i with (map string_bytes goes.items) (map string_bytes comes.items)
ReasonHolds good ps ds ls i NoDish = (follows ds i ≡ false) × NoneFollows good ps i

-- the reason is true of pass i of a planned night, by its directions if it has any
abbrev pub TrueReason : Planned → (i : ℕ) → Reason → Type 0
TrueReason p i r = ReasonHolds (good_of p.night) (passes_of p.night.night) p.plan.items (called p) i r

-- there is a reason for each pass of a planned night, and each is true
pub record AllTrue (p : Planned) (reasons : List Reason) : Type 0 where
  pub one_each : length reasons ≡ length (passes_of p.night.night)
  pub each : (i : ℕ) (r : Reason) → slice_get reasons i ≡ Some r → TrueReason p i r
