use Rattle.std.proofs.Common.{sym, ⊎_elim, arith}
use Rattle.std.proofs.lemmas.Bool.{both_ways, cases_Bool}
use Rattle.slewing.specs.Slewed.{slewed}
use Rattle.trials.proofs.Looking.{good_from, good_says}
use Rattle.trials.proofs.looking_back.LookingBack.is_good.Goals as goal

pub returns-then-not-is_sound : goal.returns-then-not-is_sound
returns-then-not-is_sound c =
    let l = c.args.self.now in
    ⊎_elim
    (λ good.
    let sound = good_says l.station l.step l.sweeps.now l.passes.now l.plan.now l.directed good c.loop-place.place (omega (arith, c.loop-place-test.true)) in
    absurd (both_ways _ c.if-not-is_sound.true (c.is_sound.ensures.1 sound)))
    (λ bad. sym bad)
    (cases_Bool (slewed l.station l.step l.sweeps.now l.passes.now l.plan.now))

pub returns : goal.returns
returns c =
    let l = c.args.self.now in
    sym (good_from l.station l.step l.sweeps.now l.passes.now l.plan.now l.directed l.one_each (λ j within. c.loop-place.invariant j (omega (arith, within, c.loop-place-test.false))))
