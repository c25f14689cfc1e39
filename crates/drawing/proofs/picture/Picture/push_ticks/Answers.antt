use Rattle.std.proofs.Common.{◌≡◌, ℕ, ◌+◌, ◌++◌, arith, subst}
use Rattle.std.specs.Prelude.{string_bytes}
use Rattle.std.specs.List.{flat_map, range_with_len}
use Rattle.drawing.specs.Shown.{view}
use Rattle.drawing.specs.Drawings.{tick}
use Rattle.drawing.proofs.Pieces.{one_more_piece}
use Rattle.drawing.proofs.picture.Picture.push_ticks.Goals as goal

pub loop-mark-preserved : goal.loop-mark-preserved
loop-mark-preserved c =
    let same : 0 + c.loop-mark.mark ≡ c.loop-mark.mark = omega arith in
    one_more_piece (tick (view c.args.self.now) c.args.count) 0 c.loop-mark.mark c.loop-mark.mark _ _ _ same c.loop-mark.invariant c.in_ok-push_tick.ensures

pub returns : goal.returns
returns c =
    let all : c.loop-mark.mark ≡ 9 = omega arith in
    subst (λ (k : ℕ). string_bytes c.loop-mark.out ≡ string_bytes c.args.out.now ++ flat_map (tick (view c.args.self.now) c.args.count) (range_with_len 0 k)) all c.loop-mark.invariant
