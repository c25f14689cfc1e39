-- Each pass stands in the lane that it has. Assumes nothing: these are definitions.
use Rattle.std.specs.Prelude.{ℕ, ◌+◌, ◌<◌, ◌≤◌, List, length}
use Rattle.passes.specs.Rule.{says}
use Rattle.drawing.specs.declared.areas.Area.{Area}
use Rattle.drawing.specs.Areas.{ground_area, drawn_bar, drawn_tail}
use Rattle.drawing.specs.Levels.{LevelsFor}
use Rattle.drawing.specs.Shown.{Shown}

-- from top to bottom, a rectangle lies within the ground of a lane
pub record Within (area ground : Area) : Type 0 where
  pub top : ground.y ≤ area.y
  pub bottom : area.y + area.height ≤ ground.y + ground.height

-- the bar of pass i and its tail lie within the ground of the lane that the plan gives the pass
pub record InItsLane (shown : Shown) (levels : List ℕ) (count i : ℕ) : Type 0 where
  pub bar : Within (drawn_bar shown levels i) (ground_area shown count (says shown.plan i))
  pub tail : Within (drawn_tail shown levels i) (ground_area shown count (says shown.plan i))

-- the bar and the tail of each pass lie within the ground of its lane, whatever levels are chosen
abbrev pub InTheirLanes : Shown → Type 0
InTheirLanes shown = (levels : List ℕ) (count i : ℕ) → LevelsFor shown levels count → i < length shown.passes → InItsLane shown levels count i
