-- Which dish may follow a pass, and which two passes one dish can follow. Assumes nothing: these are definitions.
use Rattle.std.specs.Prelude.{ℕ, ◌+◌, ◌/◌, ◌%◌, ◌^◌, Bool, ◌||◌, ◌==◌, nat_le}
use Rattle.passes.specs.declared.model.Pass.{Pass}

-- dish d may follow the pass: bit d of its marks is set
abbrev pub may : Pass → ℕ → Bool
may p d = p.marks / 2 ^ d % 2 == 1

-- one dish that takes t seconds to turn can follow both passes: one of them ends at least so long before the other begins
abbrev pub one_after : ℕ → Pass → Pass → Bool
one_after t p q = nat_le (p.to + t) q.from || nat_le (q.to + t) p.from
