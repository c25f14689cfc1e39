use Rattle.std.proofs.Common.{◌≡◌, ℕ, ◌<◌, false}
use Rattle.passes.specs.Follow.{may}
use Rattle.passes.specs.Nights.{passes_of}
use Rattle.passes.specs.Rule.{nth}
use Rattle.sensitivity.proofs.asking.RuledPlan.is_heard.Given as goal

-- no dish so far may follow the pass
abbrev pub invariant-loop-dish : goal.invariant-loop-dish
invariant-loop-dish g l = (d : ℕ) → d < l.dish → may (nth (passes_of l.self.night.now) l.place) d ≡ false
