use Rattle.std.proofs.Common.{◌≡◌, ◌++◌, map}
use Rattle.std.specs.Prelude.{string_bytes}
use Rattle.std.specs.List.{range_with_len}
use Rattle.drawing.specs.Rows.{cell, bars_of}
use Rattle.drawing.specs.Shown.{view}
use Rattle.drawing.proofs.picture.Picture.push_row.Given as goal

-- the columns so far are written
abbrev pub invariant-loop-column : goal.invariant-loop-column
invariant-loop-column l = string_bytes l.out ≡ string_bytes l.initial.out ++ map (cell (bars_of (view l.self) l.lane)) (range_with_len 0 l.column)
