use Rattle.std.proofs.Common.{◌≡◌, ◌<◌, take}
use Rattle.drawing.specs.Rows.{cell}
use Rattle.drawing.proofs.rows.cell.Given as goal

-- the bars so far are drawn
abbrev pub invariant-loop-bar : goal.invariant-loop-bar
invariant-loop-bar l = (l.under ≡ cell (take l.bar-index l.bars) l.column) × (l.under < 128)
