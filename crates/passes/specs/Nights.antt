-- What a night stands for. Assumes nothing: these are definitions.
use Rattle.std.specs.Prelude.{◌≡◌, ℕ, List, take}
use Rattle.passes.specs.declared.model.Pass.{Pass}
use Rattle.passes.specs.declared.model.Station.{Station}
use Rattle.passes.specs.declared.nights.Night.{Night}
use Rattle.passes.specs.Numbers.{passes_in}

-- k dishes, each of which takes t seconds to turn
abbrev pub station_of : (k t : ℕ) → Station
station_of k t = record { dishes = k; turn = t }

-- the passes of a night
abbrev pub passes_of : Night → List Pass
passes_of n = take n.count n.passes

-- the night has k dishes that take t seconds to turn, and the passes that the numbers stand for
pub record NightOf (k t : ℕ) (xs : List ℕ) (n : Night) : Type 0 where
  pub same_station : n.station ≡ station_of k t
  pub same_passes : passes_of n ≡ passes_in xs
