use Rattle.std.proofs.Common.{sym}
use Rattle.passes.proofs.Taking.{room_ok}
use Rattle.planner.proofs.planning.plan_taken.Goals as goal

pub best_of_night-requires : goal.best_of_night-requires
best_of_night-requires c = record { one_each = room_ok _ _ (sym c.in_ok-check_room.ensures) }
