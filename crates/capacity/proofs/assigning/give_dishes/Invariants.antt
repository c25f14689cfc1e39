use Rattle.std.proofs.Common.{◌≡◌, length}
use Rattle.capacity.proofs.Giving.{Given}
use Rattle.capacity.proofs.assigning.give_dishes.Given as goal

-- the passes so far have dishes
abbrev pub invariant-loop-i : goal.invariant-loop-i
invariant-loop-i l = (length l.free ≡ 4) × Given l.station l.passes l.free l.plan l.i
