use Rattle.std.proofs.Common.{◌≡◌, length, true, false, sym, refl, ap, ◌∙◌}
use Rattle.std.specs.Prelude.{◌==◌}
use Rattle.std.proofs.lemmas.Bool.{eq-eqb, ne_eqb}
use Rattle.std.proofs.lemmas.Result.{err_from_is_err_and}
use Rattle.passes.specs.Nights.{passes_of}
use Rattle.passes.specs.Plans.{Best}
use Rattle.passes.proofs.Taking.{room_ok}
use Rattle.slewing.specs.Slewings.{refused_directed, sweeps_of}
use Rattle.slewing.proofs.answering.plan_directed.Goals as goal

pub returns-in_err-check_room-clause-refusal : goal.returns-in_err-check_room-clause-refusal
unfolding refused_directed
returns-in_err-check_room-clause-refusal c =
    let p = err_from_is_err_and c.from_residual.result c.from_residual.ensures.1 in
    rw (p.1, p.2, ← c.in_err-check_room.ensures) refl

pub returns-in_default-clause-refusal : goal.returns-in_default-clause-refusal
unfolding refused_directed
returns-in_default-clause-refusal c = rw (c.in_default.is, ← c.in_ok-check_room.ensures) refl

pub returns-in_default-clause-planned : goal.returns-in_default-clause-planned
unfolding Best
returns-in_default-clause-planned c =
    let told = c.in_ok-plan_taken.ensures.planned in
    rw c.in_default.is (record { is_good = told.best.0; worth = told.worth; most = λ es good. rw told.worth (told.best.1 es good) })

pub returns-then-sweeps-count-clause-refusal : goal.returns-then-sweeps-count-clause-refusal
unfolding refused_directed
returns-then-sweeps-count-clause-refusal c =
    let other : (length (sweeps_of c.in-Some.slewing) == length (passes_of c.args.night.now)) ≡ false = rw (← c.sweeps.ensures, ← c.passes-count.ensures) (ne_eqb _ _ c.if-sweeps-count.true) in
    rw (c.in-Some.is, ← c.in_ok-check_room.ensures, other, c.min.ensures, c.sweeps-then-sweeps-count.ensures, c.passes-count.ensures) refl

pub best_of_slewing-requires-clause-one_each : goal.best_of_slewing-requires-clause-one_each
best_of_slewing-requires-clause-one_each c = room_ok _ _ (sym c.in_ok-check_room.ensures)

pub best_of_slewing-requires-clause-directed : goal.best_of_slewing-requires-clause-directed
best_of_slewing-requires-clause-directed c = rw (← c.sweeps.ensures, ← c.passes-count.ensures) c.if-sweeps-count.false

pub returns-clause-refusal : goal.returns-clause-refusal
unfolding refused_directed
returns-clause-refusal c =
    let same : (length (sweeps_of c.in-Some.slewing) == length (passes_of c.args.night.now)) ≡ true = rw (← c.sweeps.ensures, ← c.passes-count.ensures) (eq-eqb _ _ c.if-sweeps-count.false) in
    rw (c.in-Some.is, ← c.in_ok-check_room.ensures, same) refl
