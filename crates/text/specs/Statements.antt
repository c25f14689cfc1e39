-- Statements about the definitions. Each is proved: a function of src/laws.rt has it as its contract. Assumes nothing.
use Rattle.std.specs.Prelude.{◌≡◌, ℕ, ◌-◌, ◌<◌, ◌≤◌, ◌⊎◌, Bool, true, false, ◌&&◌, ◌==◌, List, [], length, take, get_or, slice_index_or, All, is_some, Some, None, Option, Ok, Err}
use Rattle.passes.specs.Checks.{max_passes, max_second, max_worth, max_marks, checked}
use Rattle.passes.specs.declared.refusals.Refusal.TheVariants.{BadPass, BadRoom}
use Rattle.slewing.specs.declared.refusals.SlewRefusal.{SlewRefusal}
use Rattle.slewing.specs.declared.refusals.SlewRefusal.TheVariants.{Plain, BadDirections}
use Rattle.slewing.specs.Directions.{all_around}
use Rattle.slewing.specs.Refusals.{slewing_ok}
use Rattle.slewing.specs.Slewings.{Directed}
use Rattle.text.specs.declared.draft.StationLine.{StationLine}
use Rattle.text.specs.declared.faults.BadLine.{BadLine}
use Rattle.text.specs.declared.faults.LineFault.{LineFault}
use Rattle.text.specs.declared.faults.LineFault.TheVariants.{NoStation}
use Rattle.text.specs.declared.faults.ListRule.{ListRule}
use Rattle.text.specs.declared.faults.ListRule.TheVariants.{Dishes, Turning, Count, Span, End, Worth, Marks, Order, Step, Directions}
use Rattle.text.specs.declared.faults.TurnedAway.TheVariants.{Unreadable, Refused}
use Rattle.text.specs.declared.line.Ends.{Ends}
use Rattle.text.specs.Drafts.{Draft, Entry, empty, with_line, with_lines, draft_of}
use Rattle.text.specs.Lists.{NamedList}
use Rattle.text.specs.Names.{name_each}
use Rattle.text.specs.Blame.{line_about, numbers_at, rule_about}
use Rattle.text.specs.Reading.{ends_in, refused_in, last_line, read_text}
use Rattle.text.specs.Words.{lines_of}
use Rattle.text.specs.Writing.{written}

-- where n passes have directions, these and the seconds for a step pass the checks, and each pass has some
abbrev pub directed_ok : ℕ → Option Directed → Bool
directed_ok n None = true
directed_ok n (Some d) = slewing_ok d.step d.sweeps && length d.sweeps == n

-- a list that may be taken: its station and passes pass the checks, and its directions if it has any; and each pass has a
-- name
pub record Listed (l : NamedList) : Type 0 where
  pub sound : checked l.station l.passes ≡ true
  pub named : name_each (length l.passes) l.names ≡ true
  pub directed : directed_ok (length l.passes) l.directed ≡ true

-- all lines of a text before line i can be read, and line i can't, for this fault
pub record StopsAt (text : List ℕ) (i : ℕ) (fault : LineFault) : Type 0 where
  pub within : i < length (lines_of text)
  pub before : Draft
  pub read : with_lines 0 empty (take i (lines_of text)) ≡ Ok before
  pub unread : with_line i before (slice_index_or (lines_of text) i []) ≡ Err fault

-- all lines of a text can be read, none of them says a station, and the text ends in line i
pub record HasNoStation (text : List ℕ) (i : ℕ) : Type 0 where
  pub all : Draft
  pub read : draft_of text ≡ Ok all
  pub none : all.station ≡ None
  pub last : i ≡ last_line text

-- the line for which a text is turned away is the first that can't be read, with what is wrong there; or it is the one
-- in which a text without a station ends
abbrev pub FirstAtFault : Type 0
FirstAtFault =
    (text : List ℕ) (bad : BadLine) → read_text text ≡ Err (Unreadable bad) →
    StopsAt text bad.line bad.fault ⊎ (HasNoStation text bad.line × (bad.fault ≡ NoStation))

-- a text with a line that can't be read is turned away for the first such line, whatever else is wrong with it
abbrev pub UnreadableFirst : Type 0
UnreadableFirst =
    (text : List ℕ) (i : ℕ) (fault : LineFault) → StopsAt text i fault → read_text text ≡ Err (Unreadable (record { line = i; fault = fault }))

-- all lines of a text can be read, one says a station, and this refusal applies to what they say; the line is that of
-- the station or of the pass that it is about
pub record RefusedFor (text : List ℕ) (why : SlewRefusal) (line : ℕ) (rule : ListRule) : Type 0 where
  pub all : Draft
  pub station : StationLine
  pub read : draft_of text ≡ Ok all
  pub says : all.station ≡ Some station
  pub applies : refused_in station all.entries ≡ Some why
  pub at : line ≡ line_about station all.entries why
  pub about : rule ≡ rule_about all.entries why

-- a text that is turned away, but not for a line that can't be read, is refused for what its lines say
abbrev pub RefusedForWhatItSays : Type 0
RefusedForWhatItSays = (text : List ℕ) (why : SlewRefusal) (line : ℕ) (rule : ListRule) → read_text text ≡ Err (Refused why line rule) → RefusedFor text why line rule

-- of two numbers one or both are no directions
abbrev pub Beyond : Option Ends → Type 0
Beyond None = ⊥
Beyond (Some v) = (all_around ≤ v.begin) ⊎ (all_around ≤ v.end)

-- pass i of those that are read breaks this rule
abbrev pub Breaks : List Entry → ℕ → ListRule → Type 0
Breaks es i Dishes = ⊥
Breaks es i Turning = ⊥
Breaks es i Count = max_passes ≤ i
Breaks es i Span = (numbers_at es i).to ≤ (numbers_at es i).from
Breaks es i End = max_second < (numbers_at es i).to
Breaks es i Worth = max_worth < (numbers_at es i).worth
Breaks es i Marks = max_marks < (numbers_at es i).marks
Breaks es i Order = (0 < i) × ((numbers_at es i).from < (numbers_at es (i - 1)).from)
Breaks es i Step = ⊥
Breaks es i Directions = Beyond (get_or (ends_in es) i None)

-- a refusal is for pass i
abbrev pub IsForPass : SlewRefusal → ℕ → Type 0
IsForPass why i = (why ≡ Plain (BadPass i)) ⊎ (why ≡ BadDirections i)

-- where a text is turned away for a pass, that pass breaks the rule that is named
abbrev pub RuleIsBroken : Type 0
RuleIsBroken =
    (text : List ℕ) (why : SlewRefusal) (i line : ℕ) (rule : ListRule) → IsForPass why i → read_text text ≡ Err (Refused why line rule) →
    (d : Draft) × (draft_of text ≡ Ok d) × (i < length d.entries) × Breaks d.entries i rule

-- no text is refused for a room
abbrev pub NoRoom : Type 0
NoRoom = (text : List ℕ) (n line : ℕ) (rule : ListRule) → read_text text ≡ Err (Refused (Plain (BadRoom n)) line rule) → ⊥

-- each pass of a draft has directions, if `some` is true, or none of them has any
abbrev pub EachDirected : (some : Bool) → Draft → Type 0
EachDirected some d = All (λ v. is_some v ≡ some) (ends_in d.entries)

-- where a text stands for a list, either the list has directions, and each pass that was read has some; or it has none, and
-- neither has any pass
abbrev pub AllOrNone : Type 0
AllOrNone =
    (text : List ℕ) (l : NamedList) → read_text text ≡ Ok l →
    (d : Draft) × (draft_of text ≡ Ok d) ×
    (((is_some l.directed ≡ true) × EachDirected true d) ⊎ ((is_some l.directed ≡ false) × EachDirected false d))

-- what is written of a list reads as that list
abbrev pub RoundTrip : Type 0
RoundTrip = (l : NamedList) → Listed l → read_text (written l) ≡ Ok l
