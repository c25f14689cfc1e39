use Rattle.std.proofs.Common.{◌≤◌, ◌*◌, ◌^◌}
use Rattle.pruning.proofs.auction.mean_price.Given as goal

-- the passes added so far are not worth more than so many can be
abbrev pub invariant-loop-pass : goal.invariant-loop-pass
invariant-loop-pass l = l.total ≤ l.pass-index * 2 ^ 42
