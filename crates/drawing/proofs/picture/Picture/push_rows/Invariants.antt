use Rattle.std.proofs.Common.{◌≡◌, ◌++◌}
use Rattle.std.specs.Prelude.{string_bytes}
use Rattle.std.specs.List.{flat_map, range_with_len}
use Rattle.drawing.specs.Timelines.{row_line}
use Rattle.drawing.specs.Shown.{view}
use Rattle.drawing.proofs.picture.Picture.push_rows.Given as goal

-- the rows of the dishes so far are written
abbrev pub invariant-loop-dish : goal.invariant-loop-dish
invariant-loop-dish l = string_bytes l.out ≡ string_bytes l.initial.out ++ flat_map (row_line (view l.self)) (range_with_len 1 l.dish)
