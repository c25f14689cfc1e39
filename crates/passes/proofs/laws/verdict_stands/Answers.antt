use Rattle.passes.proofs.Judged.{one_verdict}
use Rattle.passes.proofs.laws.verdict_stands.Goals as goal

pub returns : goal.returns
returns c = one_verdict
