use Rattle.std.proofs.Common.{◌≡◌, ℕ, ◌+◌, ◌<◌, length, get_or}
use Rattle.passes.specs.Rule.{nth}
use Rattle.capacity.specs.Order.{FirstFrom}
use Rattle.capacity.proofs.alone.OneDish.find_successors.Given as goal

-- of the passes that were looked at the successors stand there
abbrev pub invariant-loop-i : goal.invariant-loop-i
invariant-loop-i l =
    (length l.after ≡ length l.self.passes.now)
    × ((k : ℕ) → k < l.i → FirstFrom l.self.passes.now ((nth l.self.passes.now k).to + l.self.station.turn) (get_or l.after k 0))
