use Rattle.std.proofs.Common.{sym}
use Rattle.passes.proofs.Taking.{room_ok}
use Rattle.sensitivity.proofs.inquiries.Inquiry.ask.Goals as goal

pub find-requires-clause-one_each : goal.find-requires-clause-one_each
find-requires-clause-one_each g c = room_ok _ _ (sym c.in_ok-check_room.ensures)
