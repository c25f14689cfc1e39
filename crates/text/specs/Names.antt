-- Which words are names. Assumes nothing: these are definitions.
use Rattle.std.specs.Prelude.{ℕ, Bool, ◌&&◌, ◌||◌, List, length, ◌==◌, nat_le}
use Rattle.std.specs.Char.{is_ascii_alphanumeric}
use Rattle.std.specs.List.{list_all}

-- a byte that may stand in a name: a letter, a digit, or one of - _ .
unfoldable pub is_name_byte : ℕ → Bool
is_name_byte b = is_ascii_alphanumeric b || (b == 45 || (b == 95 || b == 46))

-- each byte of a word may stand in a name
abbrev pub all_name_bytes : List ℕ → Bool
all_name_bytes w = list_all is_name_byte w

-- a word is a name: it has 1 to 32 bytes, and each may stand in a name
unfoldable pub is_name : List ℕ → Bool
is_name w = nat_le 1 (length w) && (nat_le (length w) 32 && all_name_bytes w)

-- each of a list of words is a name
abbrev pub are_names : List (List ℕ) → Bool
are_names ws = list_all is_name ws

-- a list of words has a name for each of n passes
unfoldable pub name_each : ℕ → List (List ℕ) → Bool
name_each n ws = length ws == n && are_names ws
