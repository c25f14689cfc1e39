-- What is done to a text. Assumes nothing: these are definitions.
use Rattle.std.specs.Prelude.{◌≡◌, ◌≢◌, ◌⊎◌, ℕ, ◌^◌, ◌<◌, zero, suc, List, [], length, slice_index, slice_index_or, bit_xor, remove, insert, swap}
use Rattle.std.specs.List.{join_with_byte}
use Rattle.text.specs.Words.{lines_of}

-- one bit of one byte of a text is flipped; a text without bytes stays as it is
pub record Flipped (old new : List ℕ) : Type 0 where
  pub place : ℕ
  pub within : 0 < length old → place < length old
  pub long : length new ≡ length old
  pub others : (i : ℕ) → i ≢ place → slice_index new i ≡ slice_index old i
  pub bit : 0 < length old → (k : ℕ) × (k < 8) × (slice_index new place ≡ bit_xor (slice_index old place) (2 ^ k))

-- lines, with a line feed between two of them
abbrev pub joined : List (List ℕ) → List ℕ
joined ls = join_with_byte 10 ls

-- one of the lines of a text is cut
abbrev pub Cut : (old new : List ℕ) → Type 0
Cut old new = (i : ℕ) × (i < length (lines_of old)) × (new ≡ joined (remove (lines_of old) i))

-- one of the lines of a text is written once more, before a line
abbrev pub Doubled : (old new : List ℕ) → Type 0
Doubled old new =
    (i : ℕ) × (j : ℕ) × (i < length (lines_of old)) × (j < length (lines_of old)) ×
    (new ≡ joined (insert (lines_of old) i (slice_index_or (lines_of old) j [])))

-- two lines of a text change places; a text that has one line stays as it is
abbrev pub Swapped : (old new : List ℕ) → Type 0
Swapped old new =
    (i : ℕ) × (j : ℕ) × (i < length (lines_of old)) × (j < length (lines_of old)) × (1 < length (lines_of old) → i ≢ j) ×
    (new ≡ joined (swap (lines_of old) i j))

-- a text has one damage
abbrev pub DamagedOnce : (old new : List ℕ) → Type 0
DamagedOnce old new = Flipped old new ⊎ Cut old new ⊎ Doubled old new ⊎ Swapped old new

-- a text has so many damages, one after the other
abbrev pub DamagedTimes : ℕ → (old new : List ℕ) → Type 0
DamagedTimes zero old new = new ≡ old
DamagedTimes (suc n) old new = (between : List ℕ) × DamagedTimes n old between × DamagedOnce between new
