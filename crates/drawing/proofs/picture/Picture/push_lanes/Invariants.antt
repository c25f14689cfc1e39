use Rattle.std.proofs.Common.{◌≡◌, ◌++◌}
use Rattle.std.specs.Prelude.{string_bytes}
use Rattle.std.specs.List.{flat_map, range_with_len}
use Rattle.drawing.specs.Drawings.{lane_ground}
use Rattle.drawing.specs.Shown.{view}
use Rattle.drawing.proofs.picture.Picture.push_lanes.Given as goal

-- the dishes so far are written
abbrev pub invariant-loop-dish : goal.invariant-loop-dish
invariant-loop-dish l = string_bytes l.out ≡ string_bytes l.initial.out ++ flat_map (lane_ground (view l.self) l.count) (range_with_len 1 l.dish)
