use Rattle.std.proofs.Common.{sym}
use Rattle.passes.proofs.Taking.{room_ok}
use Rattle.sensitivity.proofs.answering.try_why.Goals as goal

pub tell_each-requires-clause-second_too : goal.tell_each-requires-clause-second_too
tell_each-requires-clause-second_too c = room_ok _ _ (sym c.in_ok-check_room.ensures)
