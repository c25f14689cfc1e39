-- What is answered of the passes of a night, and what is left in the rooms. Assumes nothing: these are definitions.
use Rattle.std.specs.Prelude.{◌≡◌, ℕ, ◌<◌, Bool, true, cond, List, length, Some, None, Option, nat_lt, slice_index}
use Rattle.passes.specs.declared.model.Pass.{Pass}
use Rattle.passes.specs.declared.model.Station.{Station}
use Rattle.passes.specs.declared.refusals.Refusal.{Refusal}
use Rattle.passes.specs.declared.refusals.Refusal.TheVariants.{BadPass}
use Rattle.passes.specs.Numbers.{passes_in}
use Rattle.passes.specs.Plans.{Plan, fits, worth_of, Best}
use Rattle.passes.specs.Refusals.{number_of, or_else, refused_with_room, room_refused}
use Rattle.planner.specs.Ruled.{BestBy}
use Rattle.planner.specs.declared.planning.Done.{Done}
use Rattle.planner.specs.declared.planning.Done.TheVariants.{Planned, Refused}
use Rattle.sensitivity.specs.declared.needed.Needed.{Needed}
use Rattle.sensitivity.specs.declared.needed.Needed.TheVariants.{Worth, Never}
use Rattle.sensitivity.specs.Needing.{Told, NoneFollows, BestAsked, BestOf, TrueOf}

-- the number by which it is said that no worth would do, the greatest that there is a place for
abbrev pub never : ℕ
never = 4294967295

-- what is said of a pass, as a number: the needed worth itself, or the number of `never`
abbrev pub needed_number : Needed → ℕ
needed_number (Worth v) = v
needed_number Never = never

-- the refusal of a place at which none of n passes stands
abbrev pub place_refused : (n place : ℕ) → Option Refusal
place_refused n place = cond (nat_lt place n) None (Some (BadPass place))

-- the refusal that applies to what the entry is lent: that of planning comes first, and the second room is looked at last
abbrev pub refused_with_rooms : (k t : ℕ) → List ℕ → (room second : ℕ) → Option Refusal
refused_with_rooms k t xs room second = or_else (refused_with_room k t xs room) (room_refused (length (passes_in xs)) second)

-- a number says of each pass what is true of it, and is that of `never` exactly where no good plan follows the pass, whatever it is worth
pub record EachTold (s : Station) (ps : List Pass) (told : List ℕ) : Type 0 where
  pub one_each : length told ≡ length ps
  pub each : (i : ℕ) → i < length ps → (n : Needed) × Told s ps i n × (slice_index told i ≡ needed_number n)
  pub never_if : (i : ℕ) → i < length ps → NoneFollows (fits s) ps i → slice_index told i ≡ never
  pub never_only : (i : ℕ) → i < length ps → slice_index told i ≡ never → NoneFollows (fits s) ps i

-- THE PROMISE. Where no refusal applies, the first room holds a best plan, the second one what is true of each pass, and the plan's worth is answered;
-- where one does, its number is answered, and both rooms are as they were
abbrev pub WhySays : Option Refusal → Station → List Pass → (room : Plan) → (second : List ℕ) → Done → (room₁ : Plan) → (second₁ : List ℕ) → Type 0
WhySays None s ps room second done room₁ second₁ = Best s ps room₁ × (done ≡ Planned (worth_of ps room₁)) × EachTold s ps second₁
WhySays (Some why) s ps room second done room₁ second₁ = (done ≡ Refused (number_of why)) × (room₁ ≡ room) × (second₁ ≡ second)

-- what is left in the room after it was asked of pass i: a best plan among those that follow it, or what was there where none does, where it is given
-- which plans are good
abbrev pub LeftBy : (good : List Pass → Plan → Bool) → List Pass → ℕ → (room : Plan) → Needed → (room₁ : Plan) → Type 0
LeftBy good ps i room (Worth v) room₁ = BestAsked good true ps i room₁
LeftBy good ps i room Never room₁ = room₁ ≡ room

-- of pass i can be asked beside the plan ds, a best one that is worth so much, with a room for a plan, where it is given which plans are good
pub record CanAsk (good : List Pass → Plan → Bool) (ps : List Pass) (ds : Plan) (worth i : ℕ) (room : Plan) : Type 0 where
  pub within : i < length ps
  pub one_each : length room ≡ length ps
  pub best : BestBy good ps ds worth

-- what was found of pass i is true, and so is what is left in the room, where it is given which plans are good
pub record TrulyFound (good : List Pass → Plan → Bool) (ps : List Pass) (i : ℕ) (room : Plan) (needed : Needed) (room₁ : Plan) : Type 0 where
  pub told : TrueOf good (BestOf good) ps i needed
  pub left : LeftBy good ps i room needed room₁
