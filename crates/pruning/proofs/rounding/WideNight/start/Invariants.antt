use Rattle.std.proofs.Common.{◌≡◌, ℕ, ◌<◌, length, get_or}
use Rattle.pruning.specs.Rounding.{next_pass}
use Rattle.pruning.proofs.rounding.WideNight.start.Given as goal

-- the dishes looked at so far have their first pass
abbrev pub invariant-loop-dish : goal.invariant-loop-dish
invariant-loop-dish l = (length l.next ≡ 8) × ((d : ℕ) → d < l.dish → get_or l.next d 0 ≡ next_pass l.self.turns.now l.self.passes.now d 0 0)
