-- What is taken of a draft on the way to its list. Assumes nothing: these are definitions.
use Rattle.std.specs.Prelude.{◌≡◌, true, List, length, None, Option, option_map}
use Rattle.passes.specs.declared.nights.Night.{Night}
use Rattle.passes.specs.Nights.{NightOf}
use Rattle.passes.specs.Refusals.{refused}
use Rattle.slewing.specs.declared.slewings.Slewing.{Slewing}
use Rattle.slewing.specs.Slewings.{directed_of, each_directed}
use Rattle.text.specs.declared.draft.StationLine.{StationLine}
use Rattle.text.specs.Drafts.{Entry}
use Rattle.text.specs.Reading.{numbers_of, refused_in, directed_in}

-- the station and the numbers of a draft are taken, and as this night
pub record PlainNight (s : StationLine) (es : List Entry) (n : Night) : Type 0 where
  pub taken : refused s.dishes s.turn (numbers_of es) ≡ None
  pub same : NightOf s.dishes s.turn (numbers_of es) n

-- nothing is refused of a draft, and these are its directions
pub record DirectionsIn (s : StationLine) (es : List Entry) (v : Option Slewing) : Type 0 where
  pub taken : refused_in s es ≡ None
  pub same : option_map directed_of v ≡ directed_in s.step es
  pub directed : each_directed (length es) v ≡ true
