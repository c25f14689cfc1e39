use Rattle.std.proofs.Common.{◌≡◌, ◌+◌, ◌<◌, ◌≤◌, ◌++◌, All, drop}
use Rattle.drawing.specs.Columns.{columns, scale_of}
use Rattle.drawing.specs.Rows.{in_lane, bars_from, bars_of}
use Rattle.drawing.specs.Shown.{view}
use Rattle.drawing.specs.Turning.{turning_after}
use Rattle.drawing.proofs.picture.Picture.bars.Given as goal

-- the bars so far, and those of the passes that are left, are all; and each that is left has a column
abbrev pub invariant-loop-place : goal.invariant-loop-place
invariant-loop-place l =
    let later = bars_from (turning_after (view l.self)) (scale_of l.self.passes.now) l.lane l.free l.place (drop l.place l.self.passes.now) (drop l.place l.self.plan.now) in
    (bars_of (view l.self) l.lane ≡ l.bars.items ++ later) × (l.left ≡ in_lane l.lane (drop l.place l.self.plan.now)) × (l.free + l.left ≤ columns) × All (λ bar. bar.letter < 128) l.bars.items
