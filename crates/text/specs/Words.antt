-- The lines of a text, the words of a line, and the numbers that words stand for. Assumes nothing: these are definitions.
use Rattle.std.specs.Prelude.{ℕ, ◌^◌, Bool, not, ◌&&◌, ◌||◌, List, length, filter, ◌==◌, nat_le, nat_lt, Ok, Err, Result, if◌then◌else◌}
use Rattle.std.specs.List.{slice_split}
use Rattle.std.specs.Str.{all_ascii_digits}
use Rattle.std.specs.Str.Parse.{digits_value}
use Rattle.text.specs.declared.faults.LineFault.{LineFault}
use Rattle.text.specs.declared.faults.LineFault.TheVariants.{BadNumber, BadName}
use Rattle.text.specs.Names.{is_name}

-- a line feed, which ends a line
abbrev pub ends_line : ℕ → Bool
ends_line b = b == 10

-- the lines of a text: what stands before, between and behind its line feeds. So there is one line more than line feeds, and it may be empty
abbrev pub lines_of : List ℕ → List (List ℕ)
lines_of text = slice_split ends_line text

-- a space, a tab, or the carriage return with which Windows ends lines
unfoldable pub is_blank : ℕ → Bool
is_blank b = b == 32 || (b == 9 || b == 13)

-- the words of a line: what stands between blanks
abbrev pub words_of : List ℕ → List (List ℕ)
words_of line = filter (λ w. not (length w == 0)) (slice_split is_blank line)

-- the number that a word stands for: it is digits, and the number is below 2 ^ 32
unfoldable pub number_at : List ℕ → Result ℕ LineFault
number_at w = if nat_le 1 (length w) && (all_ascii_digits w && nat_lt (digits_value 10 w) (2 ^ 32)) then Ok (digits_value 10 w) else Err BadNumber

-- the name that a word is, if it is one
unfoldable pub name_at : List ℕ → Result (List ℕ) LineFault
name_at w = if is_name w then Ok w else Err BadName
