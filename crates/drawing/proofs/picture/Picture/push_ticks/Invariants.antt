use Rattle.std.proofs.Common.{◌≡◌, ◌++◌}
use Rattle.std.specs.Prelude.{string_bytes}
use Rattle.std.specs.List.{flat_map, range_with_len}
use Rattle.drawing.specs.Drawings.{tick}
use Rattle.drawing.specs.Shown.{view}
use Rattle.drawing.proofs.picture.Picture.push_ticks.Given as goal

-- the marks so far are written
abbrev pub invariant-loop-mark : goal.invariant-loop-mark
invariant-loop-mark l = string_bytes l.out ≡ string_bytes l.initial.out ++ flat_map (tick (view l.self) l.count) (range_with_len 0 l.mark)
