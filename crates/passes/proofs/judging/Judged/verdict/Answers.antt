use Rattle.passes.proofs.Goodness.{fits_from}
use Rattle.passes.proofs.Judged.{wrong_unfit}
use Rattle.passes.proofs.judging.Judged.verdict.Goals as goal

pub returns-in-Some : goal.returns-in-Some
returns-in-Some c =
    let j = c.args.self.now in
    let first = c.in-Some.ensures in
    (wrong_unfit j.station j.passes.now j.plan.now c.in-Some.flaw.pass c.in-Some.flaw.fault first.0 first.1, first)

pub returns : goal.returns
returns c =
    let j = c.args.self.now in
    (fits_from j.station j.passes.now j.plan.now (record { one_each = j.one_each; each = c.in_default.ensures }), c.worth.ensures)
