use Rattle.std.proofs.Common.{arith}
use Rattle.trials.proofs.Varied.{in_fours}
use Rattle.trials.proofs.needs.ask_each.Goals as goal

pub ask_in-requires-clause-one_each : goal.ask_in-requires-clause-one_each
ask_in-requires-clause-one_each c =
    omega (arith, in_fours _ _ _ c.requires.taken, c.as_mut_slice.ensures.len, c.in_ok-room.ensures.len, c.len-count.ensures)

pub ask_in-requires-clause-second_too : goal.ask_in-requires-clause-second_too
ask_in-requires-clause-second_too c =
    omega (arith, in_fours _ _ _ c.requires.taken, c.as_mut_slice-2.ensures.len, c.in_ok-needed.ensures.len, c.len-count.ensures)
