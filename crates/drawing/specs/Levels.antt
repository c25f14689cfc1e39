-- Levels for the passes that aren't followed, so that none hides another. Assumes nothing: these are definitions.
use Rattle.std.specs.Prelude.{◌≡◌, ℕ, ◌+◌, ◌<◌, ◌≤◌, List, length, slice_index}
use Rattle.passes.specs.Rule.{says}
use Rattle.drawing.specs.Areas.{drawn_bar}
use Rattle.drawing.specs.Shown.{Shown}

-- the bar of pass i ends where that of pass j begins, or before
abbrev pub BarsApart : Shown → (levels : List ℕ) → (i j : ℕ) → Type 0
BarsApart shown levels i j = (drawn_bar shown levels i).x + (drawn_bar shown levels i).width ≤ (drawn_bar shown levels j).x

-- a level is chosen for each pass: it is one of so many; and of two passes on one level that aren't followed, the earlier's bar ends before the later's
pub record LevelsFor (shown : Shown) (levels : List ℕ) (count : ℕ) : Type 0 where
  pub each : length levels ≡ length shown.passes
  pub below : (i : ℕ) → i < length shown.passes → slice_index levels i < count
  pub apart :
      (i j : ℕ) → i < j → j < length shown.passes →
      says shown.plan i ≡ 0 → says shown.plan j ≡ 0 → slice_index levels i ≡ slice_index levels j → BarsApart shown levels i j
