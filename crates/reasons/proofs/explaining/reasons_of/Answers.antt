use Rattle.std.proofs.Common.{◌∙◌, sym, rules}
use Rattle.reasons.proofs.Agreeing.{plain_agrees}
use Rattle.reasons.proofs.explaining.reasons_of.Goals as goal

pub reasons_by-requires-clause-agrees : goal.reasons_by-requires-clause-agrees
reasons_by-requires-clause-agrees c = plain_agrees c.args.planned.now.night (search rules)
