use Rattle.std.proofs.Common.{arith}
use Rattle.std.proofs.lemmas.List.Elements.{All-push}
use Rattle.trials.specs.Trials.{TriedOf}
use Rattle.trials.proofs.try_kind.Goals as goal

pub loop-preserved : goal.loop-preserved
loop-preserved c =
    let case = c.in_ok-case.case in
    let made = c.in_ok-case.ensures in
    let tried : TriedOf c.args.kind c.in_ok-trial.trial =
    record { dishes = case.dishes; turn = case.turn; numbers = case.numbers.items; taken = made.taken; few = made.few; of_kind = made.kind; tried = c.in_ok-trial.ensures }
    in
    let pushed = c.in_ok-push.ensures in (
      omega (arith, pushed.len, c.loop.invariant.0),
      rw pushed.items (All-push (TriedOf c.args.kind) c.loop.trials.items c.in_ok-trial.trial c.loop.invariant.1 tried),
    )
