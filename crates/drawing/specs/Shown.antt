-- What a picture shows. Assumes nothing: these are definitions.
use Rattle.std.specs.Prelude.{ℕ, ◌<◌, ◌≤◌, List, length, map, string_bytes, Option, option_map}
use Rattle.passes.specs.declared.model.Pass.{Pass}
use Rattle.passes.specs.declared.model.Station.{Station}
use Rattle.passes.specs.Nights.{passes_of}
use Rattle.passes.specs.Plans.{Plan}
use Rattle.passes.specs.Rule.{says}
use Rattle.slewing.specs.Slewings.{Directed, directed_of}
use Rattle.text.specs.declared.planned.Planned.{Planned}
use Rattle.text.specs.Labels.{labels_of}
use Rattle.text.specs.Lists.{names_of}
use Rattle.drawing.specs.declared.picture.Picture.{Picture}

-- a station, passes with a label each and maybe with directions, and a plan of who follows them, with its worth
pub record Shown : Type 0 where
  pub labels : List (List ℕ)
  pub passes : List Pass
  pub directed : Option Directed
  pub plan : Plan
  pub station : Station
  pub worth : ℕ

-- a planned night, with what its passes are called for labels
abbrev pub shown_of : Planned → Shown
shown_of p =
    record {
      labels = labels_of (names_of p.night) (passes_of p.night.night);
      passes = passes_of p.night.night;
      directed = option_map directed_of p.night.slewing;
      plan = p.plan.items;
      station = p.night.night.station;
      worth = p.worth;
    }

-- the lane that the plan gives each pass is that of a dish that is there, or that of those that aren't followed
abbrev pub LanesThere : Shown → Type 0
LanesThere shown = (i : ℕ) → i < length shown.passes → says shown.plan i ≤ shown.station.dishes

-- what the code draws from, without where it lies in memory
abbrev pub view : Picture → Shown
view p =
    record {
      labels = map string_bytes p.labels.now;
      passes = p.passes.now;
      directed = option_map directed_of p.slewing;
      plan = p.plan.now;
      station = p.station;
      worth = p.worth;
    }
