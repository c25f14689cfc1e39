-- Each pass stands in the lane that it has. Assumes nothing.
use Rattle.std.proofs.Common.{ℕ, ◌+◌, ◌-◌, ◌*◌, ◌<◌, ◌≤◌, cond, ◌==◌, arith}
use Rattle.std.specs.Prelude.{slice_index}
use Rattle.std.proofs.lemmas.Bool.Decides.{nat_tests}
use Rattle.passes.specs.Rule.{says}
use Rattle.drawing.specs.Areas.{row_of, top_of}
use Rattle.drawing.specs.Shown.{Shown}
use Rattle.drawing.specs.Within.{InTheirLanes}

-- a row of a lane begins no higher than the lane
below_top : (shown : Shown) (d level : ℕ) → top_of (row_of shown d 0) ≤ top_of (row_of shown d level) + 5
below_top shown d level = grind (arith, nat_tests)

-- and what it holds ends within the lane
above_end : (shown : Shown) (d level count : ℕ) → level < count → top_of (row_of shown d level) + 5 + 130 ≤ top_of (row_of shown d 0) + (150 * cond (d == 0) count 1 - 10)
above_end shown d level count lt = grind (arith, nat_tests)

pub in_lanes : (shown : Shown) → InTheirLanes shown
in_lanes shown levels count i chosen lt =
    let d = says shown.plan i in
    let level = slice_index levels i in
    let top = below_top shown d level in
    let bottom = above_end shown d level count (chosen.below i lt) in
    record { bar = record { top = top; bottom = bottom }; tail = record { top = top; bottom = bottom } }
