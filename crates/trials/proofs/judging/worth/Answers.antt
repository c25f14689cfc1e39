use Rattle.std.proofs.Common.{rules, arith}
use Rattle.std.proofs.lemmas.Bool.Decides.{nat_tests}
use Rattle.std.proofs.lemmas.Iterator.{empty_from_Zip}
use Rattle.passes.specs.Plans.{worth_of}
use Rattle.trials.proofs.judging.worth.Goals as goal

pub loop-pass-preserved-then-named-ne0 : goal.loop-pass-preserved-then-named-ne0
unfolding worth_of
loop-pass-preserved-then-named-ne0 c =
    let turn = c.in-Some.ensures.steps in
    let left = rw (turn.0, turn.1) at c.loop-pass.invariant in
    grind (arith, nat_tests, left)

pub loop-pass-preserved : goal.loop-pass-preserved
unfolding worth_of
loop-pass-preserved c =
    let turn = c.in-Some.ensures.steps in
    let left = rw (turn.0, turn.1) at c.loop-pass.invariant in
    grind (arith, nat_tests, left)

pub returns : goal.returns
unfolding worth_of
returns c =
    let none = empty_from_Zip _ c.next.new.self _ c.in-None.is c.next.ensures.steps (search rules) in
    omega (arith, rw none.0 at c.loop-pass.invariant.1)
