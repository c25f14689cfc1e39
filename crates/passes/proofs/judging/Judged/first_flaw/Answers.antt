use Rattle.std.proofs.Common.{rules}
use Rattle.std.proofs.iter.runs.Sources.{ranges}
use Rattle.passes.proofs.judging.Judged.first_flaw.Goals as goal

pub returns : goal.returns
returns c = search (rules, ranges)
