-- A list as far as it is read, line by line. Assumes nothing: these are definitions.
use Rattle.std.specs.Prelude.{ℕ, ◌+◌, ◌&&◌, List, [], ◌∷◌, ◌++◌, length, nat_lt, is_some, is_none, Some, None, Option, Ok, Err, Result, if◌then◌else◌}
use Rattle.text.specs.declared.draft.StationLine.{StationLine}
use Rattle.text.specs.declared.faults.LineFault.{LineFault}
use Rattle.text.specs.declared.faults.LineFault.TheVariants.{TooLong, SecondStation, NoStation, NoDirections, NoStep}
use Rattle.text.specs.declared.faults.TurnedAway.{TurnedAway}
use Rattle.text.specs.declared.faults.TurnedAway.TheVariants.{Unreadable}
use Rattle.text.specs.declared.line.Ends.{Ends}
use Rattle.text.specs.Lines.{◌>>=◌, NamedPass, Said, said_by}
use Rattle.text.specs.Lines.Said.{nothing, station, pass}
use Rattle.text.specs.Words.{lines_of, words_of}

-- how many bytes a line may have
abbrev pub longest_line : ℕ
longest_line = 1000

-- a pass, and the line that says it
pub record Entry : Type 0 where
  pub pass : NamedPass
  pub line : ℕ

-- what the lines of a text say as far as they are read: the station, once a line has said it, and the passes
pub record Draft : Type 0 where
  pub station : Option StationLine
  pub entries : List Entry

-- the draft of which no line is read yet
abbrev pub empty : Draft
empty = record { station = None; entries = [] }

-- what is wrong with a pass with these directions, or without any, behind this station: it has to come after a station,
-- and to have directions where the station has a step, and else none
unfoldable pub misfit : Option StationLine → Option Ends → Option LineFault
misfit None v = Some NoStation
misfit (Some s) v =
    if is_some s.step && is_none v then Some NoDirections
    else if is_none s.step && is_some v then Some NoStep
    else None

-- a draft once line i has said something too: a station is said once, and before all passes, which fit it
unfoldable pub with_said : ℕ → Draft → Said → Result Draft LineFault
with_said i d nothing = Ok d
with_said i d (station dishes turn step) =
    if is_some d.station then Err SecondStation
    else Ok (record { station = Some (record { dishes = dishes; turn = turn; step = step; line = i }); entries = d.entries })
with_said i d (pass p) = unless (misfit d.station p.directions)
  where
    unless : Option LineFault → Result Draft LineFault
    unless None = Ok (record { station = d.station; entries = d.entries ++ (record { pass = p; line = i } ∷ []) })
    unless (Some fault) = Err fault

-- a draft once line i is read too, or what is wrong with that line
unfoldable pub with_line : ℕ → Draft → List ℕ → Result Draft LineFault
with_line i d line = if nat_lt longest_line (length line) then Err TooLong else (said_by (words_of line) >>= with_said i d)

-- a text is turned away for what is wrong with its line i
unfoldable pub at_line : {A : Type 0} → ℕ → Result A LineFault → Result A TurnedAway
at_line i (Ok x) = Ok x
at_line i (Err fault) = Err (Unreadable (record { line = i; fault = fault }))

-- a draft once more lines are read, of which line i is the first; or the first of them that can't be read, and why
unfoldable pub with_lines : ℕ → Draft → List (List ℕ) → Result Draft TurnedAway
with_lines i d [] = Ok d
with_lines i d (line ∷ lines) = at_line i (with_line i d line) >>= (λ e. with_lines (i + 1) e lines)

-- the draft of all lines of a text; or the first line that can't be read, and why
unfoldable pub draft_of : List ℕ → Result Draft TurnedAway
draft_of text = with_lines 0 empty (lines_of text)
