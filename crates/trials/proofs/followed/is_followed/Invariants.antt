use Rattle.std.proofs.Common.{◌≡◌, length}
use Rattle.passes.specs.Nights.{passes_of}
use Rattle.trials.specs.Numbered.{good_of}
use Rattle.trials.proofs.Following.{NoneBelow}
use Rattle.trials.proofs.followed.is_followed.Given as goal

-- of the plans so far, no best one follows the pass
abbrev pub invariant-loop-number : goal.invariant-loop-number
invariant-loop-number l =
    NoneBelow l.judge.night.station (passes_of l.judge.night) (good_of l.judge) l.place l.most l.number × (length l.room ≡ length (passes_of l.judge.night))
