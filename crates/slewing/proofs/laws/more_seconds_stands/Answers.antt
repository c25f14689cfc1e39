use Rattle.slewing.proofs.Seconds.{more_seconds}
use Rattle.slewing.proofs.laws.more_seconds_stands.Goals as goal

pub returns : goal.returns
returns c = more_seconds
