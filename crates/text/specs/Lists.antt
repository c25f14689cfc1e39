-- A night with names as a plain list. Assumes nothing: these are definitions.
use Rattle.std.specs.Prelude.{ℕ, Bool, List, map, string_bytes, Option, option_map}
use Rattle.passes.specs.declared.model.Pass.{Pass}
use Rattle.passes.specs.declared.model.Station.{Station}
use Rattle.passes.specs.Nights.{passes_of}
use Rattle.passes.specs.Plans.{Plan}
use Rattle.slewing.specs.Slewings.{Directed, directed_of, good_for}
use Rattle.text.specs.declared.nights.NamedNight.{NamedNight}

-- a station, and passes with their names, and maybe with directions
pub record NamedList : Type 0 where
  pub station : Station
  pub names : List (List ℕ)
  pub passes : List Pass
  pub directed : Option Directed

-- the names of a night, as bytes
abbrev pub names_of : NamedNight → List (List ℕ)
names_of n = map string_bytes n.names.items

-- which plans are good for a night: with directions, those in which dishes are in time from each pass to the next besides
abbrev pub good_of : NamedNight → List Pass → Plan → Bool
good_of n = good_for n.night.station (option_map directed_of n.slewing)

-- what a night with names says
abbrev pub list_of : NamedNight → NamedList
list_of n = record { station = n.night.station; names = names_of n; passes = passes_of n.night; directed = option_map directed_of n.slewing }
