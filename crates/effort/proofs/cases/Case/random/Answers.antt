use Rattle.std.proofs.Common.{◌≡◌, length, arith}
use Rattle.std.proofs.lemmas.Bool.{le-leb}
use Rattle.passes.specs.Checks.{turning_ok}
use Rattle.effort.specs.Shapes.{BeginsOf}
use Rattle.effort.proofs.Growing.{Growing, one_more, taken}
use Rattle.effort.proofs.cases.Case.random.Goals as goal
use Rattle.effort.proofs.cases.Case.random.Goals.{After-loop-place}

pub loop-place-init : goal.loop-place-init
loop-place-init c = record { long = omega (arith, c.new-numbers.ensures.len); each = λ i l. absurd (omega arith) }

pub loop-place-preserved : goal.loop-place-preserved
loop-place-preserved c =
    let p = c.pass-pass.ensures in
    rw c.in_ok-extend_from_slice.ensures.items (one_more _ _ _ _ c.loop-place.invariant c.pass-pass.result (record { range = p.range; begin = p.begin; of_shape = p.shape }))

begins : (c : After-loop-place) → BeginsOf c.args.shape c.deref-from-items.result.now
begins c = rw c.deref-from-items.ensures.value c.in_ok-begins.ensures

-- there is a good pass for each
grown : (c : After-loop-place) → Growing c.args.shape c.deref-from-items.result.now c.loop-place.numbers.items (length c.deref-from-items.result.now)
grown c =
    let all : c.loop-place.place ≡ length c.deref-from-items.result.now = omega (arith, c.loop-place-test.false, c.loop-place.auto.place-end) in
    rw all at c.loop-place.invariant

pub invariant_of-result : goal.invariant_of-result
unfolding turning_ok
invariant_of-result c =
    record { taken = taken c.args.shape _ c.turn-turn.result _ (begins c) (grown c) (begins c).few (le-leb _ _ c.turn-turn.ensures.small) }

pub returns : goal.returns
returns c =
    let after = (goal.at.returns c).After-loop-place in
    let from = begins after in
    record {
      turn = c.turn-turn.ensures.shape;
      count = omega (arith, (grown after).long, from.count);
      begins = c.deref-from-items.result.now;
      begin = from;
      each = λ i l. let pass = (grown after).each i (omega (arith, from.count)) in (pass.begin, pass.of_shape);
    }
