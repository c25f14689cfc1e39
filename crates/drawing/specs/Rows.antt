-- The row of a lane in a timeline, column by column. Assumes nothing: these are definitions.
use Rattle.std.specs.Prelude.{ℕ, suc, ◌+◌, ◌-◌, cond, List, [], ◌∷◌, ◌==◌, nat_lt, min, max, map}
use Rattle.std.specs.List.{fold, count_by, range_with_len}
use Rattle.passes.specs.declared.model.Pass.{Pass}
use Rattle.passes.specs.Plans.{Plan}
use Rattle.drawing.specs.declared.bars.Bar.{Bar}
use Rattle.drawing.specs.declared.scale.Scale.{Scale}
use Rattle.drawing.specs.Columns.{columns, place_on, scale_of}
use Rattle.drawing.specs.Shown.{Shown}
use Rattle.drawing.specs.Turning.{turning_after}

-- the letter of pass i: a to z for the first 26, and then A to V
unfoldable pub letter : ℕ → ℕ
letter i = cond (nat_lt i 26) (97 + i) (39 + i)

-- how many passes a plan gives to the lane d: 0 is the lane of those that aren't followed, d + 1 that of dish d
unfoldable pub in_lane : ℕ → Plan → ℕ
in_lane d ds = count_by (λ e. e == d) ds

-- a bar begins in the column of its second c, but not before the first free one, and early enough that each of the bars left has a column
unfoldable pub begin_column : (c free left : ℕ) → ℕ
begin_column c free left = min (max c free) (columns - left)

-- the bar of pass i, from the column b: it has at least that column, and then the dish turns for so many seconds
unfoldable pub bar_from : (turning : ℕ) → Scale → (i b : ℕ) → Pass → Bar
bar_from turning s i b p =
    record {
      letter = letter i;
      begin = b;
      end = max (suc b) (place_on columns s p.to);
      turned = place_on columns s (p.to + turning);
    }

-- the bars of the lane d, of the passes from pass i on, where the first free column is known: one for each pass that the plan gives this lane, and none
-- for another; so each pass has exactly one bar, in the row of its lane. After pass i its dish turns for `turning i` seconds
unfoldable pub bars_from : (turning : ℕ → ℕ) → Scale → (d free i : ℕ) → List Pass → Plan → List Bar
bars_from turning s d free i [] ds = []
bars_from turning s d free i (p ∷ ps) [] = []
bars_from turning s d free i (p ∷ ps) (e ∷ ds) =
    let b : ℕ = begin_column (place_on columns s p.from) free (in_lane d (e ∷ ds)) in
    cond (e == d) (bar_from (turning i) s i b p ∷ bars_from turning s d (suc b) (suc i) ps ds) (bars_from turning s d free (suc i) ps ds)

-- what stands in a column when a bar is drawn over what stood there: its letter, then dots while the dish turns
unfoldable pub over : ℕ → ℕ → Bar → ℕ
over column under bar =
    cond (nat_lt column bar.begin) under (cond (nat_lt column bar.end) bar.letter (cond (nat_lt column bar.turned) 46 under))

-- what stands in a column when all bars are drawn, one after the other
abbrev pub cell : List Bar → ℕ → ℕ
cell bars column = fold (over column) 32 bars

-- the bars of a lane
abbrev pub bars_of : Shown → ℕ → List Bar
bars_of shown d = bars_from (turning_after shown) (scale_of shown.passes) d 0 0 shown.passes shown.plan

-- the row of a lane
unfoldable pub row : Shown → ℕ → List ℕ
row shown d = map (cell (bars_of shown d)) (range_with_len 0 columns)
