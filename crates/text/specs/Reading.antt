-- Which text stands for which list. Assumes nothing: these are definitions.
use Rattle.std.specs.Prelude.{ℕ, List, [], ◌∷◌, length, map, count_by, ok_or, Some, None, Option, option_map, Ok, Err, Result}
use Rattle.std.specs.List.{flat_map}
use Rattle.std.specs.Option.{option_or}
use Rattle.passes.specs.Nights.{station_of}
use Rattle.passes.specs.Numbers.{passes_in}
use Rattle.passes.specs.Refusals.{refused}
use Rattle.slewing.specs.declared.refusals.SlewRefusal.{SlewRefusal}
use Rattle.slewing.specs.declared.refusals.SlewRefusal.TheVariants.{Plain}
use Rattle.slewing.specs.Numbers.{sweeps_in}
use Rattle.slewing.specs.Refusals.{slewing_refused}
use Rattle.slewing.specs.Slewings.{Directed}
use Rattle.text.specs.declared.draft.StationLine.{StationLine}
use Rattle.text.specs.declared.faults.LineFault.TheVariants.{NoStation}
use Rattle.text.specs.declared.faults.TurnedAway.{TurnedAway}
use Rattle.text.specs.declared.faults.TurnedAway.TheVariants.{Unreadable, Refused}
use Rattle.text.specs.declared.line.Ends.{Ends}
use Rattle.text.specs.Blame.{line_about, rule_about}
use Rattle.text.specs.Drafts.{Draft, Entry, draft_of}
use Rattle.text.specs.Lines.{◌>>=◌}
use Rattle.text.specs.Lists.{NamedList}
use Rattle.text.specs.Words.{ends_line}

-- the four numbers of a pass
abbrev pub four_of : Entry → List ℕ
four_of e = e.pass.numbers.from ∷ (e.pass.numbers.to ∷ (e.pass.numbers.worth ∷ (e.pass.numbers.marks ∷ [])))

-- the numbers of the passes of a draft, four to a pass
abbrev pub numbers_of : List Entry → List ℕ
numbers_of es = flat_map four_of es

-- the names of the passes of a draft
abbrev pub names_in : List Entry → List (List ℕ)
names_in es = map (λ e. e.pass.name) es

-- the two numbers of directions, or none where there are none
abbrev pub two_of : Option Ends → List ℕ
two_of None = []
two_of (Some v) = v.begin ∷ (v.end ∷ [])

-- the directions of the passes of a draft, as each line says them or says none
abbrev pub ends_in : List Entry → List (Option Ends)
ends_in es = map (λ e. e.pass.directions) es

-- the same as numbers, two to each pass that has some
abbrev pub directions_of : List Entry → List ℕ
directions_of es = flat_map two_of (ends_in es)

-- why the directions of a list are turned away, if they are: a station without a step has none
abbrev pub directions_refused : Option ℕ → List Entry → Option SlewRefusal
directions_refused None es = None
directions_refused (Some k) es = slewing_refused (length es) k (directions_of es)

-- why a list with a station is turned away, if it is: what would be refused without directions is looked at first
unfoldable pub refused_in : StationLine → List Entry → Option SlewRefusal
refused_in s es = option_or (option_map Plain (refused s.dishes s.turn (numbers_of es))) (directions_refused s.step es)

-- the step of a station, and the directions that its passes have then
abbrev pub directed_in : Option ℕ → List Entry → Option Directed
directed_in step es = option_map (λ k. record { step = k; sweeps = sweeps_in (directions_of es) }) step

-- a list with a station is taken as the night that its numbers stand for, or turned away for what they are
unfoldable pub taken_with : StationLine → List Entry → Result NamedList TurnedAway
taken_with s es = unless (refused_in s es)
  where
    unless : Option SlewRefusal → Result NamedList TurnedAway
    unless None = Ok (record { station = station_of s.dishes s.turn; names = names_in es; passes = passes_in (numbers_of es); directed = directed_in s.step es })
    unless (Some why) = Err (Refused why (line_about s es why) (rule_about es why))

-- the line in which a text ends
abbrev pub last_line : List ℕ → ℕ
last_line text = count_by ends_line text

-- a draft is taken as the list that it says, or turned away; without a station, at the line in which the text ends
unfoldable pub taken : (last : ℕ) → Draft → Result NamedList TurnedAway
taken last d = ok_or d.station (Unreadable (record { line = last; fault = NoStation })) >>= (λ s. taken_with s d.entries)

-- THE FORMAT: the list that a text stands for; or why it is turned away: for the first line that can't be read, or else for the first refusal that applies to
-- what the lines say
unfoldable pub read_text : List ℕ → Result NamedList TurnedAway
read_text text = draft_of text >>= taken (last_line text)
