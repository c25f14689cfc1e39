-- A planned night as an SVG document. Assumes nothing: these are definitions.
use Rattle.std.specs.Prelude.{ℕ, ◌+◌, ◌-◌, ◌*◌, ◌/◌, cond, List, [], ◌++◌, ◌==◌, length, codes, slice_index, slice_index_or, min, Some, None, Option}
use Rattle.std.specs.Fmt.{decimal}
use Rattle.std.specs.List.{flat_map, range_with_len}
use Rattle.passes.specs.declared.model.Pass.{Pass}
use Rattle.passes.specs.Rule.{nth, says}
use Rattle.slewing.specs.Slewings.{Directed}
use Rattle.drawing.specs.declared.areas.Area.{Area}
use Rattle.drawing.specs.Areas.{drawn_scale, row_of, top_of, height_of, ground_area, bar_area, tail_area, is_upright, size_for}
use Rattle.drawing.specs.Shown.{Shown}
use Rattle.drawing.specs.Elements.{rect, text, start, style}
use Rattle.drawing.specs.Lanes.{heading, lane_name, lanes}
use Rattle.drawing.specs.Turning.{sweep_of}

-- a lane: its name, and a ground for its rows, of which so many are for those that aren't followed
unfoldable pub lane_ground : Shown → (count d : ℕ) → List ℕ
lane_ground shown count d =
    rect (codes "lane") (ground_area shown count d)
    ++ text (codes "side") (codes "0") (record { x = 15; y = top_of (row_of shown d 0) + 70; size = 16 }) (lane_name d)
    ++ codes "\n"

-- one of the nine marks of the time scale
unfoldable pub tick : Shown → (count k : ℕ) → List ℕ
tick shown count k =
    rect (codes "tick") (record { x = 130 + 180 * k; y = 80; width = 1; height = height_of shown count - 90 })
    ++ text (codes "mid") (codes "0") (record { x = 130 + 180 * k; y = 68; size = 13 })
    (decimal ((drawn_scale shown).first + ((drawn_scale shown).last - (drawn_scale shown).first) * k / 8))
    ++ codes "\n"

-- the front of a drawing: how large it is, how it looks, its paper and its heading
unfoldable pub opening : Shown → (count : ℕ) → List ℕ
opening shown count =
    start (height_of shown count) ++ style
    ++ rect (codes "paper") (record { x = 0; y = 0; width = 1600; height = height_of shown count })
    ++ text (codes "side") (codes "0") (record { x = 15; y = 30; size = 22 }) (heading shown)
    ++ codes "\n"

-- what a drawing has before its passes: its front, the lanes and the time scale
abbrev pub head : Shown → (count : ℕ) → List ℕ
head shown count = opening shown count ++ flat_map (lane_ground shown count) (lanes shown) ++ flat_map (tick shown count) (range_with_len 0 9)

-- what is told of the directions of pass i, if there are any
unfoldable pub directions_told : Option Directed → ℕ → List ℕ
directions_told None i = []
directions_told (Some s) i = codes ", directions " ++ (decimal (sweep_of s.sweeps i).begin ++ (codes " to " ++ decimal (sweep_of s.sweeps i).end))

-- what is told of pass i where it is pointed at
unfoldable pub tip : Shown → ℕ → List ℕ
tip shown i =
    let p : Pass = nth shown.passes i in
    codes "<title>" ++ (slice_index_or shown.labels i [] ++ (codes ": begin " ++ (decimal p.from ++
    (codes ", end " ++ (decimal p.to ++ (codes ", worth " ++ (decimal p.worth ++
    (directions_told shown.directed i ++ (codes ", " ++ (lane_name (says shown.plan i) ++ codes "</title>"))))))))))

-- what is written in the bar of pass i, its label and its worth; more letters than can be read count as 100
unfoldable pub caption : Shown → (row i : ℕ) → List ℕ
caption shown row i =
    let p : Pass = nth shown.passes i in
    let label : List ℕ = slice_index_or shown.labels i [] in
    let letters : ℕ = min (length label) 100 in
    let area : Area = bar_area shown row p in
    text (codes "mid") (cond (is_upright letters area.width) (codes "-90") (codes "0"))
    (record { x = area.x + area.width / 2; y = area.y + 65; size = size_for letters area.width })
    (label ++ codes " (" ++ decimal p.worth ++ codes ")")

-- how the passes of the lane d look: those that are followed otherwise than those that aren't
abbrev pub look : ℕ → List ℕ
look d = cond (d == 0) (codes "unfollowed") (codes "followed")

-- pass i of the lane d, in a row: what is told of it, how its dish turns after it, its bar, and what is written in it
unfoldable pub pass_group : Shown → (d row i : ℕ) → List ℕ
pass_group shown d row i =
    codes "<g class='" ++ look d ++ codes "'>" ++ tip shown i ++ rect (codes "tail") (tail_area shown row i)
    ++ rect (codes "bar") (bar_area shown row (nth shown.passes i))
    ++ caption shown row i
    ++ codes "</g>\n"

-- pass i stands in the row of the lane that the plan gives it
abbrev pub pass_drawn : Shown → (levels : List ℕ) → (i : ℕ) → List ℕ
pass_drawn shown levels i = pass_group shown (says shown.plan i) (row_of shown (says shown.plan i) (slice_index levels i)) i

-- the whole document: a group for each pass, in the order of the list
abbrev pub svg_text : Shown → (levels : List ℕ) → (count : ℕ) → List ℕ
svg_text shown levels count = head shown count ++ flat_map (pass_drawn shown levels) (range_with_len 0 (length shown.passes)) ++ codes "</svg>\n"
