use Rattle.std.proofs.Common.{length, sym, ap, arith}
use Rattle.passes.proofs.Checking.{checked_says}
use Rattle.passes.proofs.Taking.{room_ok}
use Rattle.passes.proofs.nights.Night.judge.Goals as goal

pub invariant_of-judged : goal.invariant_of-judged
invariant_of-judged c =
    let same = ap length c.passes.ensures in
    let few = (checked_says _ _ c.args.self.now.ok).few in
    record { few = omega (arith, same); one_each = omega (arith, same, room_ok _ _ (sym c.in_ok-check_room.ensures)) }
