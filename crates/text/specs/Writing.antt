-- How a list is written. Assumes nothing: these are definitions.
use Rattle.std.specs.Prelude.{ℕ, List, [], ◌∷◌, ◌++◌, map, filter, codes, Some, None, Option, option_map}
use Rattle.std.specs.List.{flat_map, range_with_len, zip}
use Rattle.std.specs.Fmt.{decimal}
use Rattle.passes.specs.declared.model.Pass.{Pass}
use Rattle.passes.specs.declared.model.Station.{Station}
use Rattle.passes.specs.Follow.{may}
use Rattle.slewing.specs.declared.directions.Sweep.{Sweep}
use Rattle.slewing.specs.Slewings.{Directed}
use Rattle.text.specs.Lists.{NamedList}

-- the words of the seconds for a step, if there are any
abbrev pub step_words : Option ℕ → List (List ℕ)
step_words None = []
step_words (Some k) = codes "step" ∷ (decimal k ∷ [])

-- the words of the line of a station
abbrev pub station_words : Station → (step : Option ℕ) → List (List ℕ)
station_words s step = codes "dishes" ∷ (decimal s.dishes ∷ (codes "turn" ∷ (decimal s.turn ∷ step_words step)))

-- the numbers of the dishes, of 0 to 3, that may follow a pass
unfoldable pub dish_words : Pass → List (List ℕ)
dish_words p = map decimal (filter (may p) (range_with_len 0 4))

-- the words of the directions of a pass, if it has any
abbrev pub direction_words : Option Sweep → List (List ℕ)
direction_words None = []
direction_words (Some v) = codes "directions" ∷ (decimal v.begin ∷ (decimal v.end ∷ []))

-- the words of the line of a pass
abbrev pub pass_words : List ℕ → Pass → Option Sweep → List (List ℕ)
pass_words name p v =
    codes "pass" ∷ (name ∷ (decimal p.from ∷ (decimal p.to ∷ (codes "worth" ∷ (decimal p.worth ∷ (codes "dishes" ∷ (dish_words p ++ direction_words v)))))))

-- words, each behind a space
abbrev pub behind : List (List ℕ) → List ℕ
behind ws = flat_map (λ w. codes " " ++ w) ws

-- words, with a space between two of them
abbrev pub spaced : List (List ℕ) → List ℕ
spaced [] = []
spaced (w ∷ ws) = w ++ behind ws

-- words as a line, which a line feed ends
abbrev pub line : List (List ℕ) → List ℕ
line ws = spaced ws ++ codes "\n"

-- the seconds for a step, where there are directions
abbrev pub step_of : Option Directed → Option ℕ
step_of d = option_map (λ d. d.step) d

-- the directions of each of these passes, or that it has none
abbrev pub sweeps_each : Option Directed → List Pass → List (Option Sweep)
sweeps_each None ps = map (λ p. None) ps
sweeps_each (Some d) ps = map (λ v. Some v) d.sweeps

-- the words of all lines of a list: the station, then each pass
abbrev pub lines : NamedList → List (List (List ℕ))
lines l = station_words l.station (step_of l.directed) ∷ map (λ x. pass_words x.0 x.1.0 x.1.1) (zip l.names (zip l.passes (sweeps_each l.directed l.passes)))

-- a list as text
abbrev pub written : NamedList → List ℕ
written l = flat_map line (lines l)
