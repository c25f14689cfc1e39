use Rattle.std.proofs.Common.{◌≡◌, ℕ, ◌≤◌, List, length}
use Rattle.capacity.specs.Alone.{RightFrom}
use Rattle.capacity.proofs.Followed.{Led}
use Rattle.capacity.proofs.alone.OneDish.follow_table.Given as goal

-- whatever the gains are of which the table has the most, the room leads on
abbrev pub invariant-loop-i : goal.invariant-loop-i
invariant-loop-i l =
    (l.next ≤ length l.self.passes.now)
    × ((gs : List ℕ) → length gs ≡ length l.self.passes.now → RightFrom 0 l.self.station l.self.dish l.self.passes.now gs l.table → Led l.self.station l.self.dish l.self.passes.now gs l.table l.next l.i l.room)
