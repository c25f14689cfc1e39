-- The text of a timeline: a header, a scale, a row for each lane, and a key. Assumes nothing: these are definitions.
use Rattle.std.specs.Prelude.{◌≡◌, ℕ, ◌+◌, ◌/◌, ◌<◌, ◌≤◌, ◌↔◌, List, [], ◌∷◌, ◌++◌, length, codes, slice_index, slice_index_or, max}
use Rattle.std.specs.Fmt.{decimal}
use Rattle.std.specs.List.{fold, flat_map, range_with_len}
use Rattle.passes.specs.declared.model.Pass.{Pass}
use Rattle.passes.specs.Rule.{nth, says}
use Rattle.drawing.specs.declared.scale.Scale.{Scale}
use Rattle.drawing.specs.Columns.{columns, scale_of}
use Rattle.drawing.specs.Lanes.{heading, lane_name, lanes}
use Rattle.drawing.specs.Padding.{spaces, left, right}
use Rattle.drawing.specs.Rows.{letter, row}
use Rattle.drawing.specs.Shown.{Shown}

-- how wide the column of lanes is
abbrev pub lane_width : ℕ
lane_width = 13

-- the line of the scale: the first second, the one in the middle and the last, each in its place
abbrev pub scale_line : Scale → List ℕ
scale_line s = spaces (lane_width + 1) ++ left 32 (decimal s.first) ++ left 16 (decimal ((s.first + s.last) / 2)) ++ right 16 (decimal s.last) ++ codes "\n"

-- the row of a lane, as a line
abbrev pub row_line : Shown → ℕ → List ℕ
row_line shown d = left lane_width (lane_name d) ++ codes "|" ++ row shown d ++ codes "|\n"

-- how wide the column of labels is: as the longest label, and at least as the word `name`
abbrev pub label_width : List (List ℕ) → ℕ
label_width labels = fold (λ width label. max width (length label)) 4 labels

-- an empty line, and the head of the key
abbrev pub key_head : ℕ → List ℕ
key_head width = codes "\n  " ++ left width (codes "name") ++ codes "  begin     end   worth\n"

-- begin, end and worth of a pass, in columns that are wider than any of them
abbrev pub key_numbers : Pass → List ℕ
key_numbers p = right 7 (decimal p.from) ++ right 8 (decimal p.to) ++ right 8 (decimal p.worth)

-- a line of the key: the letter of pass i, its label, begin, end and worth, and its lane
abbrev pub key_line : Shown → ℕ → ℕ → List ℕ
key_line shown width i =
    letter i ∷ codes " " ++ left width (slice_index_or shown.labels i []) ++ key_numbers (nth shown.passes i)
    ++ codes "  "
    ++ lane_name (says shown.plan i)
    ++ codes "\n"

-- the key: its head, and a line for each pass, in the order of the list
abbrev pub key : Shown → List ℕ
key shown = key_head (label_width shown.labels) ++ flat_map (key_line shown (label_width shown.labels)) (range_with_len 0 (length shown.passes))

-- a planned night as a timeline: its heading, the scale, a row for each lane, and the key
abbrev pub timeline_text : Shown → List ℕ
timeline_text shown = heading shown ++ codes "\n" ++ scale_line (scale_of shown.passes) ++ flat_map (row_line shown) (lanes shown) ++ key shown

-- the letter of pass i stands in the row of its lane, which the plan gives it, and in no other row; how many columns have it is not said here
abbrev pub LetterInItsRow : Shown → ℕ → Type 0
LetterInItsRow shown i = (d : ℕ) → ((c : ℕ) × (c < columns) × (slice_index (row shown d) c ≡ letter i)) ↔ (says shown.plan i ≡ d)

-- the letter of each pass stands in the row of its lane, and in no other row
abbrev pub LettersInTheirRows : Shown → Type 0
LettersInTheirRows shown = (i : ℕ) → i < length shown.passes → LetterInItsRow shown i

-- no line of a timeline is longer than 80, with the end of its line: neither the heading, which ends one byte later,
-- nor the scale, nor a row, nor the head of the key, which stands behind an empty line, nor a line of the key
pub record LinesFit (shown : Shown) : Type 0 where
  pub head : length (heading shown) ≤ 79
  pub scale : length (scale_line (scale_of shown.passes)) ≤ 80
  pub key_head : length (key_head (label_width shown.labels)) ≤ 81
  pub rows : (d : ℕ) → d ≤ shown.station.dishes → length (row_line shown d) ≤ 80
  pub key : (i : ℕ) → i < length shown.passes → length (key_line shown (label_width shown.labels) i) ≤ 80
