use Rattle.text.specs.Lists.{list_of}
use Rattle.damage.proofs.outcomes.outcome_of.Goals as goal

pub returns-in_ok-plan-in-Ok : goal.returns-in_ok-plan-in-Ok
returns-in_ok-plan-in-Ok c =
    let planned = c.in_ok-plan-in-Ok in
    rw c.judged.ensures (list_of c.in-Ok.night, c.in-Ok.ensures, (planned.field-0.plan.items, planned.ensures.best))
