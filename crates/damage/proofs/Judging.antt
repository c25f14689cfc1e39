-- What the judge says of a night that was planned. Assumes nothing.
use Rattle.std.proofs.Common.{◌≡◌, ℕ, List, length, Ok, Err, Result, IfOk, sym, ap, ◌∙◌, arith}
use Rattle.std.specs.Result.{result_err}
use Rattle.std.proofs.lemmas.Bool.Decides.{nat_tests}
use Rattle.passes.specs.declared.nights.Night.{Night}
use Rattle.passes.specs.declared.refusals.Refusal.{Refusal}
use Rattle.passes.specs.Nights.{passes_of}
use Rattle.passes.specs.Refusals.{room_refused}
use Rattle.passes.specs.Verdicts.{Verdict, TrueVerdict}
use Rattle.text.specs.declared.planned.Planned.{Planned}

-- the judge finds the plan good, and worth so much
abbrev pub answered : ℕ → Result Verdict Refusal
answered worth = Ok (Ok worth)

-- the judge answers what the plan of a planned night is worth
judged_good : (p : Planned) (r : Result Verdict Refusal) → result_err r ≡ room_refused (length (passes_of p.night.night)) (length p.plan.items)
    → IfOk r (TrueVerdict p.night.night.station (passes_of p.night.night) p.plan.items) → r ≡ answered p.worth
unfolding room_refused
judged_good p (Ok (Ok worth)) room verdict = ap answered (verdict.1 ∙ sym p.sum)
judged_good p (Ok (Err flaw)) room verdict = let bad = sym verdict.0 ∙ p.good in absurd cc
judged_good p (Err why) room verdict = let same : length p.plan.items ≡ length (passes_of p.night.night) = omega (arith, p.one_each, p.plan.ok.0, p.night.one_each) in grind (arith, nat_tests)

-- so no refusal comes of it
pub not_refused : (p : Planned) (night : Night) (plan : List ℕ) (r : Result Verdict Refusal) (why : Refusal) → night ≡ p.night.night → plan ≡ p.plan.items
    → result_err r ≡ room_refused (length (passes_of night)) (length plan) → IfOk r (TrueVerdict night.station (passes_of night) plan) → r ≡ Err why → ⊥
not_refused p night plan r why same this room verdict is =
    let good = judged_good p r (rw (same, this) at room) (rw (same, this) at verdict) in
    let both = sym is ∙ good in absurd cc
