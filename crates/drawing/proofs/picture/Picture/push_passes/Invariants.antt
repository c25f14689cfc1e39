use Rattle.std.proofs.Common.{◌≡◌, ◌++◌}
use Rattle.std.specs.Prelude.{string_bytes}
use Rattle.std.specs.List.{flat_map, range_with_len}
use Rattle.drawing.specs.Drawings.{pass_drawn}
use Rattle.drawing.specs.Shown.{view}
use Rattle.drawing.proofs.picture.Picture.push_passes.Given as goal

-- the passes so far are written
abbrev pub invariant-loop-place : goal.invariant-loop-place
invariant-loop-place l = string_bytes l.out ≡ string_bytes l.initial.out ++ flat_map (pass_drawn (view l.self) l.levels) (range_with_len 0 l.place)
