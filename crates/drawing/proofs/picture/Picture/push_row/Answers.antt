use Rattle.std.proofs.Common.{◌≡◌, ◌∙◌, ap, ℕ, List, ◌++◌, ◌∷◌, [], arith, subst, map}
use Rattle.std.specs.Prelude.{string_bytes}
use Rattle.std.specs.List.{range_with_len}
use Rattle.drawing.specs.declared.bars.Bar.{Bar}
use Rattle.drawing.specs.Rows.{row, cell, bars_of}
use Rattle.drawing.specs.Shown.{view}
use Rattle.drawing.proofs.Pieces.{one_more_byte}
use Rattle.drawing.proofs.picture.Picture.push_row.Goals as goal

pub loop-column-preserved : goal.loop-column-preserved
loop-column-preserved c =
    let bars = bars_of (view c.args.self.now) c.args.lane in
    let drawn : c.cell.result ≡ cell bars c.loop-column.column =
    c.cell.ensures.value ∙ ap (λ (bs : List Bar). cell bs c.loop-column.column) (c.deref.ensures.value ∙ c.in_ok-bars.ensures.value) in
    let pushed : string_bytes c.push_byte.new.out ≡ string_bytes c.loop-column.out ++ cell bars c.loop-column.column ∷ [] =
    subst (λ (x : ℕ). string_bytes c.push_byte.new.out ≡ string_bytes c.loop-column.out ++ x ∷ []) drawn c.in_ok-push_byte.ensures in
    one_more_byte (cell bars) c.loop-column.column _ _ _ c.loop-column.invariant pushed

pub returns : goal.returns
unfolding row
returns c =
    let all : c.loop-column.column ≡ 64 = omega arith in
    subst (λ (k : ℕ). string_bytes c.loop-column.out ≡ string_bytes c.args.out.now ++ map (cell (bars_of (view c.args.self.now) c.args.lane)) (range_with_len 0 k)) all c.loop-column.invariant
