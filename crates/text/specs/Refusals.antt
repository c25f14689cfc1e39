-- The numbers, places and lines of what is turned away. Assumes nothing: these are definitions.
use Rattle.std.specs.Prelude.{ℕ}
use Rattle.slewing.specs.Refusals as lists
use Rattle.text.specs.declared.faults.TurnedAway.{TurnedAway}
use Rattle.text.specs.declared.faults.TurnedAway.TheVariants.{Unreadable, Refused}

-- the number by which users know why a text is turned away: 4 for a line that can't be read, and else that of the refusal
abbrev pub number_of : TurnedAway → ℕ
number_of (Unreadable bad) = 4
number_of (Refused why line rule) = lists.number_of why

-- the place for which a text is turned away: the line that can't be read, or the place of the refusal
abbrev pub place_of : TurnedAway → ℕ
place_of (Unreadable bad) = bad.line
place_of (Refused why line rule) = lists.place_of why

-- the line for which a text is turned away
abbrev pub line_of : TurnedAway → ℕ
line_of (Unreadable bad) = bad.line
line_of (Refused why line rule) = line
