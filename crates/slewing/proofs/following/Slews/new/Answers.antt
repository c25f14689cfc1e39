use Rattle.capacity.proofs.Timing.{in_time_from_checked}
use Rattle.slewing.proofs.following.Slews.new.Goals as goal

pub invariant_of-result : goal.invariant_of-result
invariant_of-result c = record { in_time = rw c.passes.ensures (in_time_from_checked _ _ c.args.night.now.ok) }
