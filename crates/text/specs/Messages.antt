-- What is said of a text that is turned away. Assumes nothing: these are definitions.
use Rattle.std.specs.Prelude.{ℕ, ◌+◌, ◌&&◌, List, [], ◌++◌, map, take, codes, nat_le, slice_index_or, if◌then◌else◌}
use Rattle.std.specs.Fmt.{decimal}
use Rattle.text.specs.declared.faults.LineFault.{LineFault}
use Rattle.text.specs.declared.faults.LineFault.TheVariants.{TooLong, UnknownWord, NotStation, NotPass, BadName, BadNumber, BadDish, DishTwice, SecondStation, NoStation, NoDirections, NoStep}
use Rattle.text.specs.declared.faults.ListRule.{ListRule}
use Rattle.text.specs.declared.faults.ListRule.TheVariants.{Dishes, Turning, Count, Span, End, Worth, Marks, Order, Step, Directions}
use Rattle.text.specs.declared.faults.ReadError.{ReadError}
use Rattle.text.specs.declared.faults.ReadError.TheVariants.{Memory, TurnedAway as Away}
use Rattle.text.specs.declared.faults.TurnedAway.{TurnedAway}
use Rattle.text.specs.declared.faults.TurnedAway.TheVariants.{Unreadable, Refused}
use Rattle.text.specs.Refusals.{number_of, place_of, line_of}
use Rattle.text.specs.Words.{is_blank, lines_of}

-- what is told of a line that can't be read: how it would be right
unfoldable pub line_rule : LineFault → List ℕ
line_rule TooLong = codes "a line has at most 1000 bytes"
line_rule UnknownWord = codes "a line begins with dishes, pass or #"
line_rule NotStation = codes "a station is written as: dishes 2 turn 3, or with a step: dishes 2 turn 3 step 4"
line_rule NotPass = codes "a pass is written as: pass hermes 0 10 worth 5 dishes 0 1, or with directions behind: directions 12 40"
line_rule BadName = codes "a name is 1 to 32 letters, digits, - _ or ."
line_rule BadNumber = codes "a number is digits and below 4294967296"
line_rule BadDish = codes "a dish is a number below 32"
line_rule DishTwice = codes "a dish is named twice"
line_rule SecondStation = codes "a list has one station, and this is a second"
line_rule NoStation = codes "the station comes first, as: dishes 2 turn 3"
line_rule NoDirections = codes "the station has a step, so a pass has directions, as: pass hermes 0 10 worth 5 dishes 0 1 directions 12 40"
line_rule NoStep = codes "a pass has directions only where the station has a step, as: dishes 2 turn 3 step 4"

-- what is told of a list whose lines can be read: the rule that it breaks
unfoldable pub list_rule : ListRule → List ℕ
list_rule Dishes = codes "a station has 1 to 4 dishes"
list_rule Turning = codes "dishes take at most 100000 seconds to turn"
list_rule Count = codes "a list has at most 48 passes"
list_rule Span = codes "a pass ends after it begins"
list_rule End = codes "a pass ends by second 1000000"
list_rule Worth = codes "a pass is worth at most 1000000"
list_rule Marks = codes "dishes are 0 to 3"
list_rule Order = codes "a pass begins no sooner than the one before it"
list_rule Step = codes "dishes take at most 1000000 seconds for a step"
list_rule Directions = codes "directions are 0 to 63"

-- what is told of a text that is turned away: how its line would be right, or the rule that its list breaks
abbrev pub rule_of : TurnedAway → List ℕ
rule_of (Unreadable bad) = line_rule bad.fault
rule_of (Refused why line rule) = list_rule rule

-- why a text is turned away, in words: the number, the place, what would be right, and the line, counted from 1
unfoldable pub turned_away_text : TurnedAway → List ℕ
turned_away_text t = codes "number " ++ decimal (number_of t) ++ codes " at " ++ decimal (place_of t) ++ codes ": " ++ rule_of t ++ codes ", in line " ++ decimal (line_of t + 1)

-- line i of a text, without its line feed; past the end no bytes
abbrev pub line_at : List ℕ → ℕ → List ℕ
line_at text i = slice_index_or (lines_of text) i []

-- a byte as it is shown: a blank as a space, what prints as it is, and all else as ?
unfoldable pub shown_byte : ℕ → ℕ
shown_byte b = if is_blank b then 32 else if nat_le 32 b && nat_le b 126 then b else 63

-- the first 120 bytes of a line, as they are shown
abbrev pub shown : List ℕ → List ℕ
shown line = map shown_byte (take 120 line)

-- why a text isn't read
abbrev pub error_text : ReadError → List ℕ
error_text Memory = codes "memory ran out"
error_text (Away why) = turned_away_text why

-- all that is said of a text that is turned away, in one line that ends with the line of the text at fault
abbrev pub refusal_line : List ℕ → TurnedAway → List ℕ
refusal_line text why = codes "turned away, " ++ (turned_away_text why ++ (codes ": " ++ (shown (line_at text (line_of why)) ++ codes "\n")))
