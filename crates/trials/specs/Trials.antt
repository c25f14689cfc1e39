-- What may be said of a list that was tried. Assumes nothing: these are definitions.
use Rattle.std.specs.Prelude.{◌≡◌, ℕ, ◌*◌, ◌^◌, ◌<◌, ◌≤◌, Bool, true, false, List, length, None, Contains}
use Rattle.passes.specs.declared.model.Pass.{Pass}
use Rattle.passes.specs.declared.model.Station.{Station}
use Rattle.passes.specs.Nights.{station_of}
use Rattle.passes.specs.Numbers.{passes_in}
use Rattle.passes.specs.Plans.{Plan, worth_of, fits}
use Rattle.passes.specs.Refusals.{refused, refused_with_room}
use Rattle.planner.specs.declared.planning.Done.{Done}
use Rattle.planner.specs.declared.planning.Done.TheVariants.{Planned}
use Rattle.planner.specs.Answers.{DoneSays}
use Rattle.sensitivity.specs.Needing.{BestOf}
use Rattle.trials.specs.declared.kinds.Kind.{Kind}
use Rattle.trials.specs.declared.kinds.TheConstants.{TRIED_PASSES}
use Rattle.trials.specs.declared.trying.Trial.{Trial}
use Rattle.trials.specs.declared.trying.Trial.TheVariants.{AllFollowed, SomeLetGo, Mismatch}
use Rattle.trials.specs.Kinds.{ListOf}
use Rattle.trials.specs.Numbered.{plans_of}

-- a best plan was left, and its worth was answered, where it is given which plans of a list are good
abbrev pub Right : (good : List Pass → Plan → Bool) → List Pass → Done → Plan → Type 0
Right good ps done ds = BestOf good ps ds × (done ≡ Planned (worth_of ps ds))

-- what a trial says of an answer and a plan is true. That they don't match it says only where they aren't right, or there are too many plans to compare with
abbrev pub TrueTrial : (good : List Pass → Plan → Bool) → Station → List Pass → Done → Plan → Trial → Type 0
TrueTrial good s ps done ds AllFollowed = Right good ps done ds × (Contains ds 0 → ⊥)
TrueTrial good s ps done ds SomeLetGo = Right good ps done ds × Contains ds 0
TrueTrial good s ps done ds Mismatch = plans_of s ps < 2 ^ 64 → Right good ps done ds → ⊥

-- what a trial says is true of an answer and a plan that planning may come to, for k dishes that take t seconds to turn, a list of numbers, and a room
-- with a number for each pass
pub record Tried (k t : ℕ) (xs : List ℕ) (trial : Trial) : Type 0 where
  pub room : Plan
  pub one_each : length room ≡ length (passes_in xs)
  pub done : Done
  pub plan : Plan
  pub came : DoneSays (refused_with_room k t xs (length room)) (station_of k t) (passes_in xs) room done plan
  pub says : TrueTrial (fits (station_of k t)) (station_of k t) (passes_in xs) done plan trial

-- what a trial says is true of some list of a kind, to which no refusal applies and of which all plans can be tried
pub record TriedOf (kind : Kind) (trial : Trial) : Type 0 where
  pub dishes : ℕ
  pub turn : ℕ
  pub numbers : List ℕ
  pub taken : refused dishes turn numbers ≡ None
  pub few : length numbers ≤ 4 * TRIED_PASSES
  pub of_kind : ListOf kind dishes turn numbers
  pub tried : Tried dishes turn numbers trial

-- the trial says that the plan, a best one, lets a pass go
abbrev pub lets_go : Trial → Bool
lets_go AllFollowed = false
lets_go SomeLetGo = true
lets_go Mismatch = false

-- the trial is a mismatch
abbrev pub is_mismatch : Trial → Bool
is_mismatch AllFollowed = false
is_mismatch SomeLetGo = false
is_mismatch Mismatch = true
