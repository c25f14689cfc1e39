-- What is asked of a plan with directions where each pass is looked at, and the one before it that has the same dish. Assumes nothing: these are
-- definitions.
use Rattle.std.specs.Prelude.{◌≡◌, ℕ, ◌+◌, ◌-◌, ◌*◌, ◌<◌, ◌≤◌, true, List, slice_index_or}
use Rattle.passes.specs.declared.model.Pass.{Pass}
use Rattle.passes.specs.declared.model.Station.{Station}
use Rattle.passes.specs.Follow.{may}
use Rattle.passes.specs.Plans.{Plan}
use Rattle.passes.specs.Rule.{nth, says}
use Rattle.slewing.specs.declared.directions.Sweep.{Sweep}
use Rattle.slewing.specs.Directions.{steps}
use Rattle.slewing.specs.Statements.{IsBefore}

-- what stands past the end of a list of directions
abbrev pub no_sweep : Sweep
no_sweep = record { begin = 0; end = 0 }

-- the directions of pass i
abbrev pub nth_sweep : List Sweep → ℕ → Sweep
nth_sweep vs i = slice_index_or vs i no_sweep

-- the dish of pass j, which takes t seconds to turn and k more for each step, is in time from the pass before it that has that dish
abbrev pub OnTimeAt : (t k : ℕ) → List Sweep → List Pass → Plan → ℕ → Type 0
OnTimeAt t k vs ps ds j =
    (i : ℕ) → IsBefore ds i j → (nth ps i).to + (t + k * steps (nth_sweep vs i).end (nth_sweep vs j).begin) ≤ (nth ps j).from

-- nothing is wrong with pass j of a plan: if it is followed, its dish is there, may follow it, and is in time
pub record SlewsIn (s : Station) (k : ℕ) (vs : List Sweep) (ps : List Pass) (ds : Plan) (j : ℕ) : Type 0 where
  pub there : says ds j ≤ s.dishes
  pub hears : 0 < says ds j → may (nth ps j) (says ds j - 1) ≡ true
  pub on_time : OnTimeAt s.turn k vs ps ds j
