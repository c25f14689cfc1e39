-- What may be said of passes that were asked about. Assumes nothing: these are definitions.
use Rattle.std.specs.Prelude.{◌≡◌, ℕ, ◌+◌, ◌-◌, ◌*◌, ◌^◌, ◌<◌, ◌≤◌, Bool, true, false, List, length, None, All, slice_index, slice_index_or}
use Rattle.std.specs.List.{flat_map}
use Rattle.passes.specs.declared.model.Pass.{Pass}
use Rattle.passes.specs.declared.model.Station.{Station}
use Rattle.passes.specs.Checks.{max_worth}
use Rattle.passes.specs.Nights.{station_of}
use Rattle.passes.specs.Numbers.{passes_in}
use Rattle.passes.specs.Plans.{Best}
use Rattle.passes.specs.Refusals.{refused}
use Rattle.sensitivity.specs.Answers.{never, EachTold}
use Rattle.sensitivity.specs.Needing.{with_worth, SomeBestFollows}
use Rattle.trials.specs.declared.kinds.Kind.{Kind}
use Rattle.trials.specs.declared.kinds.TheConstants.{TRIED_PASSES}
use Rattle.trials.specs.declared.needs.Asked.{Asked}
use Rattle.trials.specs.declared.needs.Asked.TheVariants.{Worth, Never, Mismatch}
use Rattle.trials.specs.Kinds.{ListOf}
use Rattle.trials.specs.Numbered.{plans_of}

-- a list of numbers to which no refusal applies, and of which 64 bits count the plans
pub record CanBeTried (k t : ℕ) (xs : List ℕ) : Type 0 where
  pub taken : refused k t xs ≡ None
  pub few : plans_of (station_of k t) (passes_in xs) < 2 ^ 64

-- with pass i worth v, some best plan follows it
abbrev pub FollowedAt : Station → List Pass → (i v : ℕ) → Type 0
FollowedAt s ps i v = SomeBestFollows (Best s) (with_worth ps i v) i

-- v is what pass i needs, as far as it is tried: with it and with one more some best plan follows the pass, and with one less none does
pub record NeedsAsTried (s : Station) (ps : List Pass) (i v : ℕ) : Type 0 where
  -- a pass may be worth one more
  pub small : v < max_worth
  pub followed : FollowedAt s ps i v
  pub with_more : FollowedAt s ps i (v + 1)
  pub not_with_less : 0 < v → FollowedAt s ps i (v - 1) → ⊥

-- no worth would do, as far as it is tried: no best plan follows pass i where it is worth nothing, or as much as a pass may be
pub record NeverAsTried (s : Station) (ps : List Pass) (i : ℕ) : Type 0 where
  pub not_with_nothing : FollowedAt s ps i 0 → ⊥
  pub not_with_most : FollowedAt s ps i max_worth → ⊥

-- what is said of pass i, and of the number that was told of it, is true
abbrev pub TrueAsked : Station → List Pass → (i told : ℕ) → Asked → Type 0
TrueAsked s ps i told Worth = NeedsAsTried s ps i told
TrueAsked s ps i told Never = (told ≡ never) × NeverAsTried s ps i
TrueAsked s ps i told Mismatch = (NeedsAsTried s ps i told → ⊥) × (told ≡ never → NeverAsTried s ps i → ⊥)

-- what is said of each pass of a list, for k dishes that take t seconds to turn, and of the number that was told of it, is true; and so are the numbers
pub record AskedEach (k t : ℕ) (xs : List ℕ) (said : List Asked) : Type 0 where
  pub told : List ℕ
  pub came : EachTold (station_of k t) (passes_in xs) told
  pub one_each : length said ≡ length (passes_in xs)
  pub says : (i : ℕ) → i < length said → TrueAsked (station_of k t) (passes_in xs) i (slice_index told i) (slice_index_or said i Mismatch)

-- what is said of each pass is true of some list of a kind, to which no refusal applies and of which all plans can be tried
pub record AskedOf (kind : Kind) (said : List Asked) : Type 0 where
  pub dishes : ℕ
  pub turn : ℕ
  pub numbers : List ℕ
  pub taken : refused dishes turn numbers ≡ None
  pub few : length numbers ≤ 4 * TRIED_PASSES
  pub of_kind : ListOf kind dishes turn numbers
  pub asked : AskedEach dishes turn numbers said

-- what is said of so many lists of a kind, one list after the other
pub record AskedOfLists (kind : Kind) (count : ℕ) (said : List Asked) : Type 0 where
  pub lists : List (List Asked)
  pub as_many : length lists ≡ count
  pub joined : said ≡ flat_map (λ list. list) lists
  pub each : All (AskedOf kind) lists

-- it is said that no worth would do
abbrev pub says_never : Asked → Bool
says_never Worth = false
says_never Never = true
says_never Mismatch = false

-- it is said that all plans say otherwise
abbrev pub says_mismatch : Asked → Bool
says_mismatch Worth = false
says_mismatch Never = false
says_mismatch Mismatch = true
