use Rattle.std.proofs.Common.{length, refl, ap}
use Rattle.std.proofs.lemmas.Result.{err_from_is_err_and}
use Rattle.slewing.specs.Refusals.{refused_slewing}
use Rattle.slewing.proofs.answering.try_plan_slewing.Goals as goal

pub returns-in_err-night-clause-refusal : goal.returns-in_err-night-clause-refusal
unfolding refused_slewing
returns-in_err-night-clause-refusal c =
    let p = err_from_is_err_and c.from_residual.result c.from_residual.ensures.1 in
    rw (p.1, p.2, ← c.in_err-night.ensures.refusal) refl

pub returns-in_err-slewing-clause-refusal : goal.returns-in_err-slewing-clause-refusal
unfolding refused_slewing
returns-in_err-slewing-clause-refusal c =
    let p = err_from_is_err_and c.from_residual-in_err-slewing.result c.from_residual-in_err-slewing.ensures.1 in
    let told = c.in_ok-night.ensures in
    rw (p.1, p.2, ← told.refusal, ← ap length told.night.0.same_passes, ← c.in_err-slewing.ensures.refusal) refl

pub returns-clause-refusal : goal.returns-clause-refusal
unfolding refused_slewing
returns-clause-refusal c =
    let told = c.in_ok-night.ensures in
    rw (← told.refusal, ← ap length told.night.0.same_passes, ← c.in_ok-slewing.ensures.refusal) refl
