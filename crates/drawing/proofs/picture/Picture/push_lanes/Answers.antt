use Rattle.std.proofs.Common.{◌≡◌, ℕ, ◌+◌, ◌++◌, arith, subst}
use Rattle.std.specs.Prelude.{string_bytes}
use Rattle.std.specs.List.{flat_map, range_with_len}
use Rattle.std.proofs.lemmas.Result.{on_ok_weaker}
use Rattle.drawing.specs.Shown.{view}
use Rattle.drawing.specs.Drawings.{lane_ground}
use Rattle.drawing.proofs.Pieces.{one_more, one_more_piece}
use Rattle.drawing.proofs.picture.Picture.push_lanes.Goals as goal

pub loop-dish-preserved : goal.loop-dish-preserved
loop-dish-preserved c =
    let lane : 1 + c.loop-dish.dish ≡ c.loop-dish.dish + 1 = omega arith in
    one_more_piece (lane_ground (view c.args.self.now) c.args.count) 1 c.loop-dish.dish (c.loop-dish.dish + 1) _ _ _ lane c.loop-dish.invariant c.in_ok-push_lane.ensures

pub returns : goal.returns
returns c =
    let ground = lane_ground (view c.args.self.now) c.args.count in
    let all : c.loop-dish.dish ≡ c.args.self.now.station.dishes = omega arith in
    let dishes = subst (λ (k : ℕ). string_bytes c.loop-dish.out ≡ string_bytes c.args.out.now ++ flat_map ground (range_with_len 1 k)) all c.loop-dish.invariant in
    on_ok_weaker c.push_lane-2.result (one_more ground (range_with_len 1 c.args.self.now.station.dishes) 0 _ _ _ dishes) c.push_lane-2.ensures
