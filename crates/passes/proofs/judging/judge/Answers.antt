use Rattle.std.proofs.Common.{length, IfOk, subst}
use Rattle.std.specs.Result.{result_err}
use Rattle.std.proofs.lemmas.Result.{err_from_is_err_and}
use Rattle.passes.specs.Numbers.{passes_in}
use Rattle.passes.specs.Verdicts.{TrueVerdict}
use Rattle.passes.proofs.Taking.{refused_anyway, room_refusal}
use Rattle.passes.proofs.judging.judge.Goals as goal

pub returns-in_err-night : goal.returns-in_err-night
returns-in_err-night c =
    let p = err_from_is_err_and c.from_residual.result c.from_residual.ensures.1 in
    let turned_away = refused_anyway c.args.dishes c.args.turn c.args.numbers.now (length c.args.plan.now) c.in_err-night.field-0.0 c.in_err-night.ensures.refusal in
    record { refusal = rw (p.1, p.2) turned_away; verdict = rw p.1 tt }

pub returns : goal.returns
returns c =
    let told = c.in_ok-night.ensures in
    let night = c.in_ok-night.night in
    let plan = c.args.plan.now in
    let night_verdict = subst (λ ps. IfOk c.judge.result (TrueVerdict night.station ps plan)) told.night.same_passes c.judge.ensures.verdict in
    record {
      refusal = room_refusal c.args.dishes c.args.turn c.args.numbers.now night (length plan) (result_err c.judge.result) told.refusal told.night c.judge.ensures.refusal;
      verdict = subst (λ s. IfOk c.judge.result (TrueVerdict s (passes_in c.args.numbers.now) plan)) told.night.same_station night_verdict;
    }
