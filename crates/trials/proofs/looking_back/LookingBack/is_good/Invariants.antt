use Rattle.std.proofs.Common.{ℕ, ◌<◌}
use Rattle.trials.specs.Looking.{SlewsIn}
use Rattle.trials.proofs.looking_back.LookingBack.is_good.Given as goal

-- nothing is wrong with any pass so far
abbrev pub invariant-loop-place : goal.invariant-loop-place
invariant-loop-place l =
    (i : ℕ) → i < l.place → SlewsIn l.self.station l.self.step l.self.sweeps.now l.self.passes.now l.self.plan.now i
