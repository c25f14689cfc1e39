use Rattle.std.proofs.Common.{◌≡◌, map, take}
use Rattle.std.specs.Prelude.{string_bytes}
use Rattle.drawing.specs.Timelines.{label_width}
use Rattle.drawing.proofs.picture.Picture.label_width.Given as goal

-- the longest label so far
abbrev pub invariant-loop-label : goal.invariant-loop-label
invariant-loop-label l = l.width ≡ label_width (map string_bytes (take l.label-index l.label-items))
