-- Seconds for a step and directions, and which plans are good with them or without. Assumes nothing: these are definitions.
use Rattle.std.specs.Prelude.{◌≡◌, ℕ, Bool, true, cond, List, take, length, min, Some, None, Option, option_map, ◌==◌}
use Rattle.std.specs.Option.{option_or, option_map_or}
use Rattle.passes.specs.Refusals.{room_refused}
use Rattle.slewing.specs.declared.refusals.SlewRefusal.{SlewRefusal}
use Rattle.slewing.specs.declared.refusals.SlewRefusal.TheVariants.{Plain, BadDirections}
use Rattle.passes.specs.declared.model.Pass.{Pass}
use Rattle.passes.specs.declared.model.Station.{Station}
use Rattle.passes.specs.Plans.{Plan, fits}
use Rattle.slewing.specs.declared.directions.Sweep.{Sweep}
use Rattle.slewing.specs.declared.slewings.Slewing.{Slewing}
use Rattle.slewing.specs.Numbers.{sweeps_in}
use Rattle.slewing.specs.Slewed.{slewed}

-- what a list with directions has beside a list without: the seconds for a step, and the directions of each pass
pub record Directed : Type 0 where
  pub step : ℕ
  pub sweeps : List Sweep

-- the directions of each pass
abbrev pub sweeps_of : Slewing → List Sweep
sweeps_of s = take s.count s.sweeps

-- the code's value, without how it is kept
abbrev pub directed_of : Slewing → Directed
directed_of s = record { step = s.step; sweeps = sweeps_of s }

-- n passes have the directions that the numbers stand for, and a step takes k seconds
pub record SlewingOf (n k : ℕ) (xs : List ℕ) (s : Slewing) : Type 0 where
  pub same_step : s.step ≡ k
  pub same_sweeps : sweeps_of s ≡ sweeps_in xs
  pub one_each : length (sweeps_of s) ≡ n

-- where there are directions, each of n passes has some
abbrev pub each_directed : ℕ → Option Slewing → Bool
each_directed n None = true
each_directed n (Some s) = length (sweeps_of s) == n

-- which plans are good by the rules in force: with directions, those in which dishes are in time besides
abbrev pub good_for : Station → Option Directed → List Pass → Plan → Bool
good_for s None = fits s
good_for s (Some d) = slewed s d.step d.sweeps

-- the refusal that applies to a room for n passes, and to their directions if there are any: the room is looked at first, and then each pass must have
-- directions. The place is the first pass without any, or the number of passes where there are too many
unfoldable pub refused_directed : ℕ → Option Slewing → (room : ℕ) → Option SlewRefusal
refused_directed n s room =
    option_or (option_map Plain (room_refused n room)) (cond (each_directed n s) None (Some (BadDirections (min (option_map_or (λ d. length (sweeps_of d)) s n) n))))
