-- Where things stand in a drawing, which is 1600 wide. Assumes nothing: these are definitions.
use Rattle.std.specs.Prelude.{ℕ, ◌+◌, ◌-◌, ◌*◌, ◌/◌, Bool, List, cond, ◌==◌, nat_lt, min, max, slice_index}
use Rattle.passes.specs.declared.model.Pass.{Pass}
use Rattle.passes.specs.Rule.{nth, says}
use Rattle.drawing.specs.declared.areas.Area.{Area}
use Rattle.drawing.specs.declared.scale.Scale.{Scale}
use Rattle.drawing.specs.Columns.{first_second, last_second, place_on}
use Rattle.drawing.specs.Shown.{Shown}
use Rattle.drawing.specs.Turning.{turning_after}

-- the scale of a drawing ends when a dish that followed the last pass would have turned
abbrev pub drawn_scale : Shown → Scale
drawn_scale shown = record { first = first_second shown.passes; last = last_second shown.passes + shown.station.turn }

-- where the second t stands from left to right: time goes from x = 130 to x = 1570
abbrev pub x_of : Shown → ℕ → ℕ
x_of shown t = 130 + place_on 1440 (drawn_scale shown) t

-- lanes stand below each other, a row for each dish, and then one for each level of those that aren't followed
abbrev pub row_of : Shown → (d level : ℕ) → ℕ
row_of shown d level = cond (d == 0) (shown.station.dishes + level) (d - 1)

-- how far below the top of a drawing a row begins
abbrev pub top_of : ℕ → ℕ
top_of row = 90 + 150 * row

-- how high a drawing is, with so many levels
abbrev pub height_of : Shown → ℕ → ℕ
height_of shown count = top_of (shown.station.dishes + count) + 10

-- the ground of a lane: all its rows, of which those that aren't followed have so many
abbrev pub ground_area : Shown → (count d : ℕ) → Area
ground_area shown count d = record { x = 130; y = top_of (row_of shown d 0); width = 1440; height = 150 * cond (d == 0) count 1 - 10 }

-- the bar of a pass in a row: it is never so narrow that it can't be seen
abbrev pub bar_area : Shown → (row : ℕ) → Pass → Area
bar_area shown row p = record { x = x_of shown p.from; y = top_of row + 5; width = max 2 (x_of shown p.to - x_of shown p.from); height = 130 }

-- the tail of pass i in a row: what its dish needs to turn after it
abbrev pub tail_area : Shown → (row i : ℕ) → Area
tail_area shown row i =
    let to : ℕ = (nth shown.passes i).to in
    record { x = x_of shown to; y = top_of row + 5; width = x_of shown (to + turning_after shown i) - x_of shown to; height = 130 }

-- the bar of pass i, which stands in the row of the lane that the plan gives it, and there on its level
abbrev pub drawn_bar : Shown → (levels : List ℕ) → (i : ℕ) → Area
drawn_bar shown levels i = bar_area shown (row_of shown (says shown.plan i) (slice_index levels i)) (nth shown.passes i)

-- the tail of pass i, which stands in the row of its bar
abbrev pub drawn_tail : Shown → (levels : List ℕ) → (i : ℕ) → Area
drawn_tail shown levels i = tail_area shown (row_of shown (says shown.plan i) (slice_index levels i)) i

-- what is written in a bar, a label of so many letters and the worth, stands upright where it wouldn't fit from left to right
abbrev pub is_upright : (letters width : ℕ) → Bool
is_upright letters width = nat_lt width (10 * (letters + 6))

-- the size of what is written in a bar: 16 from left to right; upright from 6 to 13, the less the more letters and the
-- narrower the bar
abbrev pub size_for : (letters width : ℕ) → ℕ
size_for letters width = cond (is_upright letters width) (max (min (min (210 / (letters + 6)) width) 13) 6) 16
