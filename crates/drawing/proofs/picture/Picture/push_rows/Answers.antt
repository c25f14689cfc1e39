use Rattle.std.proofs.Common.{◌≡◌, ℕ, ◌+◌, ◌++◌, arith, subst}
use Rattle.std.specs.Prelude.{string_bytes}
use Rattle.std.specs.List.{flat_map, range_with_len}
use Rattle.std.proofs.lemmas.Result.{on_ok_weaker}
use Rattle.drawing.specs.Shown.{view}
use Rattle.drawing.specs.Timelines.{row_line}
use Rattle.drawing.proofs.Pieces.{one_more, one_more_piece}
use Rattle.drawing.proofs.picture.Picture.push_rows.Goals as goal

pub loop-dish-preserved : goal.loop-dish-preserved
loop-dish-preserved c =
    let lane : 1 + c.loop-dish.dish ≡ c.loop-dish.dish + 1 = omega arith in
    one_more_piece (row_line (view c.args.self.now)) 1 c.loop-dish.dish (c.loop-dish.dish + 1) _ _ _ lane c.loop-dish.invariant c.in_ok-push_row_line.ensures

pub returns : goal.returns
returns c =
    let line = row_line (view c.args.self.now) in
    let all : c.loop-dish.dish ≡ c.args.self.now.station.dishes = omega arith in
    let dishes = subst (λ (k : ℕ). string_bytes c.loop-dish.out ≡ string_bytes c.args.out.now ++ flat_map line (range_with_len 1 k)) all c.loop-dish.invariant in
    on_ok_weaker c.push_row_line-2.result (one_more line (range_with_len 1 c.args.self.now.station.dishes) 0 _ _ _ dishes) c.push_row_line-2.ensures
