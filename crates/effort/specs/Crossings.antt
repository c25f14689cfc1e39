-- Random directions, and what a best plan with directions is worth. Assumes nothing: these are definitions.
use Rattle.std.specs.Prelude.{◌≡◌, ℕ, ◌+◌, ◌*◌, ◌%◌, ◌<◌, List, length}
use Rattle.passes.specs.Nights.{station_of}
use Rattle.passes.specs.Numbers.{passes_in}
use Rattle.passes.specs.Plans.{Plan}
use Rattle.slewing.specs.declared.directions.Sweep.{Sweep}
use Rattle.slewing.specs.Answers.{BestSlewed}
use Rattle.slewing.specs.Directions.{all_around}
use Rattle.slewing.specs.Numbers.{sweeps_in, sweep_at}
use Rattle.effort.specs.declared.cases.TheConstants.{DISHES}
use Rattle.effort.specs.Shapes.{Between}

-- a pass begins at a direction and ends 20 to 43 steps further round
pub record Crosses (v : Sweep) : Type 0 where
  pub around : v.begin < all_around
  pub further : ℕ
  pub across : Between 20 43 further
  pub ends : v.end ≡ (v.begin + further) % all_around

-- directions of n such passes, two to a pass
pub record CrossingsOf (n : ℕ) (xs : List ℕ) : Type 0 where
  pub count : length xs ≡ 2 * n
  pub each : (i : ℕ) → i < n → Crosses (sweep_at xs i)

-- a best plan of a list with directions, whose dishes take t seconds to turn and k more for each step, is worth w
abbrev pub BestWithDirections : (t k : ℕ) → (directions numbers : List ℕ) → ℕ → Type 0
BestWithDirections t k vs xs w = (ds : Plan) × BestSlewed (station_of DISHES t) k (sweeps_in vs) (passes_in xs) ds w
