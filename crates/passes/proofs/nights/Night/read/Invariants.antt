use Rattle.std.proofs.Common.{◌≡◌, ℕ, ◌<◌, true, length, get_or}
use Rattle.passes.specs.Numbers.{sound, pass_at}
use Rattle.passes.specs.Rule.{no_pass}
use Rattle.passes.proofs.nights.Night.read.Given as goal

-- the passes so far are sound, and stand in the room
abbrev pub invariant-loop-i : goal.invariant-loop-i
invariant-loop-i l = (length l.passes ≡ 48) × ((k : ℕ) → k < l.i → sound l.numbers k ≡ true) × ((k : ℕ) → k < l.i → get_or l.passes k no_pass ≡ pass_at l.numbers k)
