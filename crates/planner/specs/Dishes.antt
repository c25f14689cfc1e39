-- Good plans for dishes each of which takes its own time to turn. Assumes nothing: these are definitions.
use Rattle.std.specs.Prelude.{ℕ, ◌-◌, Bool, true, false, ◌&&◌, List, [], ◌∷◌, replicate}
use Rattle.passes.specs.declared.model.Pass.{Pass}
use Rattle.passes.specs.declared.model.Station.{Station}
use Rattle.passes.specs.Plans.{Plan, fits_one}
use Rattle.pruning.specs.Prices.{station_of_dish}

-- the station as the dish that plans call d sees it: as if all its dishes took the time to turn that this one takes
abbrev pub seen_by : (turns : List ℕ) → ℕ → Station
seen_by turns d = station_of_dish turns (d - 1)

-- the plan is good, where each dish takes its own time to turn, by the numbers of turns
unfoldable pub fits_each : (turns : List ℕ) → List Pass → Plan → Bool
fits_each turns [] [] = true
fits_each turns [] (d ∷ ds) = false
fits_each turns (p ∷ ps) [] = false
fits_each turns (p ∷ ps) (d ∷ ds) = fits_one (seen_by turns d) p d ps ds && fits_each turns ps ds

-- the times to turn of a station's dishes, which all take the same
abbrev pub turns_of : Station → List ℕ
turns_of s = replicate s.dishes s.turn
