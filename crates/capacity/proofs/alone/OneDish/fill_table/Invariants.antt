use Rattle.std.proofs.Common.{◌≡◌, List, ◌++◌, length}
use Rattle.passes.specs.declared.model.Pass.{Pass}
use Rattle.capacity.specs.Alone.{RightFrom}
use Rattle.capacity.proofs.alone.OneDish.fill_table.Given as goal

-- the passes that are left stand before those that were looked at, and the table is right from these on
abbrev pub invariant-loop-i : goal.invariant-loop-i
invariant-loop-i l =
    (goal.iterator-loop-i).can_next l.i-iterator
    × (goal.iterator-loop-i).is_finite l.i-iterator
    × (l.i-iterator.iter.count ≡ 0)
    × ((seen : List Pass) × (l.i-iterator.iter.iter.rest.now ++ seen ≡ l.self.passes.now))
    × RightFrom (length l.i-iterator.iter.iter.rest.now) l.self.station l.self.dish l.self.passes.now l.gains l.table
