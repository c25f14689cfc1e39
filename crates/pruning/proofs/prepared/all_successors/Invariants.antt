use Rattle.std.proofs.Common.{◌≡◌, ℕ, ◌<◌, [], length, take, get_or}
use Rattle.capacity.specs.Order.{Successors}
use Rattle.pruning.proofs.prepared.all_successors.Given as goal

-- the dishes looked at so far have their successors
abbrev pub invariant-loop-dish : goal.invariant-loop-dish
invariant-loop-dish l =
    (length l.after ≡ 8) × ((d : ℕ) → d < l.dish → Successors (get_or l.night.turns.now d 0) l.night.passes.now (take (length l.night.passes.now) (get_or l.after d [])))
