use Rattle.std.proofs.Common.{◌≡◌, ◌-◌, ◌*◌, ◌^◌, ◌≤◌, length, get_or}
use Rattle.pruning.specs.Sums.{AddsUp}
use Rattle.pruning.proofs.prices.add_up.Given as goal

-- the entries from the last one written on are right, and that one is small enough for one more
abbrev pub invariant-loop-i : goal.invariant-loop-i
invariant-loop-i l = (length l.left ≡ 129) × AddsUp (λ x. x) l.prices l.i l.left × (get_or l.left l.i 0 ≤ (length l.prices - l.i) * 2 ^ 42)
