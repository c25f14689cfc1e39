use Rattle.std.proofs.Common.{arith, refl}
use Rattle.std.proofs.lemmas.Bool.Decides.{nat_tests}
use Rattle.passes.specs.Checks.{dishes_ok, turning_ok}
use Rattle.trials.specs.Kinds.{begin_before}
use Rattle.trials.proofs.Growing.{one_more, taken}
use Rattle.trials.proofs.cases.Case.random.Goals as goal

pub loop-place-init : goal.loop-place-init
unfolding begin_before
loop-place-init g c =
    let none = c.new-numbers.ensures.len in
    (record { long = omega (arith, none); sound_so_far = λ i l. absurd (omega arith); kind_so_far = λ i l. absurd (omega arith); last = refl; early = omega arith }, c.count-place-end.ensures.few)

pub loop-place-preserved : goal.loop-place-preserved
loop-place-preserved g c =
    let so_far = c.loop-place.invariant in
    let p = c.pass-pass.ensures in (
      rw c.in_ok-extend_from_slice.ensures.items (one_more _ _ _ _ _ c.pass-pass.result so_far.0 (omega (arith, so_far.1)) p.later p.range p.soon p.kind),
      so_far.1,
    )

pub returns-clause-taken : goal.returns-clause-taken
unfolding dishes_ok turning_ok
returns-clause-taken g c =
    let can = c.random_range-dishes.ensures.within in
    let turns = c.turn-turn.ensures.small in
    let bounds = c.new.ensures in
    taken _ _ _ _ _ _ c.loop-place.invariant.0 (grind (arith, nat_tests, can, bounds)) (grind (arith, nat_tests, turns))
