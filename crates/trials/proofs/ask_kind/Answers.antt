use Rattle.trials.specs.Needs.{AskedOf}
use Rattle.trials.proofs.Asking.{one_list_more}
use Rattle.trials.proofs.Varied.{short_can_be_tried}
use Rattle.trials.proofs.ask_kind.Goals as goal

pub ask_each-requires : goal.ask_each-requires
ask_each-requires c = let made = c.in_ok-case.ensures in short_can_be_tried _ _ _ made.taken made.few

pub loop-preserved : goal.loop-preserved
loop-preserved c =
    let case = c.in_ok-case.case in
    let made = c.in_ok-case.ensures in
    let asked : AskedOf c.args.kind c.in_ok-asked.asked.items =
    record { dishes = case.dishes; turn = case.turn; numbers = case.numbers.items; taken = made.taken; few = made.few; of_kind = made.kind; asked = c.in_ok-asked.ensures }
    in
    rw (c.in_ok-extend_from_slice.ensures.items, c.as_slice.ensures.value) (one_list_more c.args.kind c.loop.counter c.loop.all.items c.in_ok-asked.asked.items c.loop.invariant asked)
