-- The rule for good plans, pass by pass. Assumes nothing: these are definitions.
use Rattle.std.specs.Prelude.{◌≡◌, ℕ, ◌-◌, ◌<◌, ◌≤◌, true, false, ◌≢◌, List, length, slice_index, slice_index_or}
use Rattle.passes.specs.declared.model.Pass.{Pass}
use Rattle.passes.specs.declared.model.Station.{Station}
use Rattle.passes.specs.Follow.{may, one_after}
use Rattle.passes.specs.Plans.{Plan}

-- what stands past the end of a list of passes
abbrev pub no_pass : Pass
no_pass = record { from = 0; to = 0; worth = 0; marks = 0 }

-- pass i of a list
abbrev pub nth : List Pass → ℕ → Pass
nth ps i = slice_index_or ps i no_pass

-- what a plan says of pass i
abbrev pub says : Plan → ℕ → ℕ
says ds i = slice_index ds i

-- i and j are two passes that one dish follows, without the time to turn between them
pub record Clash (s : Station) (ps : List Pass) (ds : Plan) (i j : ℕ) : Type 0 where
  pub two : i ≢ j
  pub within : j < length ps
  pub followed : 0 < says ds i
  pub same_dish : says ds i ≡ says ds j
  pub too_near : one_after s.turn (nth ps i) (nth ps j) ≡ false

-- j is the first pass of the list that clashes with pass i
abbrev pub FirstClash : Station → List Pass → Plan → ℕ → ℕ → Type 0
FirstClash s ps ds i j = Clash s ps ds i j × ((k : ℕ) → k < j → Clash s ps ds i k → ⊥)

-- nothing is wrong with pass i of a plan: if it is followed, its dish is there, may follow it, and has time to turn from and to any other
pub record SoundAt (s : Station) (ps : List Pass) (ds : Plan) (i : ℕ) : Type 0 where
  pub there : says ds i ≤ s.dishes
  pub hears : 0 < says ds i → may (nth ps i) (says ds i - 1) ≡ true
  pub no_clash : (j : ℕ) → Clash s ps ds i j → ⊥

-- a good plan has a number for each pass, and nothing is wrong with any
pub record GoodPlan (s : Station) (ps : List Pass) (ds : Plan) : Type 0 where
  pub one_each : length ds ≡ length ps
  pub each : (i : ℕ) → i < length ps → SoundAt s ps ds i
