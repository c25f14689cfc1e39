use Rattle.std.proofs.Common.{◌≡◌, ℕ, ◌<◌, ◌≤◌}
use Rattle.passes.specs.Rule.{says}
use Rattle.trials.proofs.looking_back.LookingBack.before.Given as goal

-- none of the passes looked at has the dish
abbrev pub invariant-loop-other : goal.invariant-loop-other
invariant-loop-other l =
    (l.other ≤ l.place) × ((m : ℕ) → l.other ≤ m → m < l.place → says l.self.plan.now m ≡ says l.self.plan.now l.place → ⊥)
