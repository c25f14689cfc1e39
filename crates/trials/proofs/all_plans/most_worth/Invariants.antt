use Rattle.std.proofs.Common.{◌≡◌, length}
use Rattle.passes.specs.Nights.{passes_of}
use Rattle.trials.specs.Numbered.{good_of}
use Rattle.trials.proofs.Numbering.{MostBelow}
use Rattle.trials.proofs.all_plans.most_worth.Given as goal

-- the most is what the best of the plans so far is worth
abbrev pub invariant-loop-number : goal.invariant-loop-number
invariant-loop-number l = MostBelow l.judge.night.station (passes_of l.judge.night) (good_of l.judge) l.number l.most × (length l.room ≡ length (passes_of l.judge.night))
