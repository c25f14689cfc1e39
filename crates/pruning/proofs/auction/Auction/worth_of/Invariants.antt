use Rattle.std.proofs.Common.{◌≤◌, ◌*◌, ◌^◌}
use Rattle.pruning.proofs.auction.Auction.worth_of.Given as goal

-- the passes added so far are not worth more than so many can be
abbrev pub invariant-loop-i : goal.invariant-loop-i
invariant-loop-i l = l.worth ≤ l.i * 2 ^ 32
