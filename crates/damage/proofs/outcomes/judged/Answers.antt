use Rattle.std.proofs.Common.{ap, ◌∙◌}
use Rattle.damage.proofs.Judging.{not_refused}
use Rattle.damage.proofs.outcomes.judged.Goals as goal

-- the judge turns nothing away
pub returns-in_default-3 : goal.returns-in_default-3
returns-in_default-3 c = absurd (not_refused c.args.planned.now _ _ c.judge.result _ (c.night-2.ensures ∙ ap (λ n. n.night) c.night.ensures) c.plan.ensures c.judge.ensures.refusal c.judge.ensures.verdict c.in_default.is)
