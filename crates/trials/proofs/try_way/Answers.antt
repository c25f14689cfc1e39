use Rattle.std.proofs.Common.{arith}
use Rattle.std.proofs.lemmas.List.Elements.{All-push}
use Rattle.trials.specs.Ways.{TriedWithOf}
use Rattle.trials.proofs.try_way.Goals as goal

pub loop-preserved : goal.loop-preserved
loop-preserved c =
    let made = c.in_ok-case.case in
    let list = made.case in
    let case = c.in_ok-case.ensures in
    let tried : TriedWithOf c.args.way c.in_ok-tried.tried =
    record {
      dishes = list.dishes;
      turn = list.turn;
      numbers = list.numbers.items;
      step = made.step;
      directions = made.directions.items;
      taken = case.taken;
      few = case.few;
      of_kind = case.kind;
      directed = case.directed;
      of_way = case.way;
      came = c.in_ok-tried.ensures;
    }
    in
    let pushed = c.in_ok-push.ensures in (
      omega (arith, pushed.len, c.loop.invariant.0),
      rw pushed.items (All-push (TriedWithOf c.args.way) c.loop.trials.items c.in_ok-tried.tried c.loop.invariant.1 tried),
    )
