use Rattle.std.proofs.Common.{◌≡◌, ◌*◌, rules, sym, ◌∙◌, arith}
use Rattle.passes.specs.Rule.{says}
use Rattle.slewing.specs.Directions.{steps}
use Rattle.slewing.specs.Slewings.{sweeps_of}
use Rattle.drawing.specs.Turning.{sweep_of}
use Rattle.drawing.proofs.NextPass.{next-here, next-later, next-none}
use Rattle.drawing.proofs.turning.to_next.Goals as goal

pub returns-then-plan-next-clause-value : goal.returns-then-plan-next-clause-value
returns-then-plan-next-clause-value c =
    let s = c.args.slewing.now in
    let ds = c.args.plan.now in
    let at = (sweep_of (sweeps_of s) c.args.place).end in
    let here = next-here s.step (says ds c.args.place) at c.loop-next.next (sweeps_of s) ds c.requires.each (omega arith) c.if-plan-next.true in
    let taken : c.step.result * c.steps.result ≡ s.step * steps at (sweep_of (sweeps_of s) c.loop-next.next).begin = search (rules) in
    taken ∙ sym here ∙ c.loop-next.invariant

pub loop-next-preserved : goal.loop-next-preserved
loop-next-preserved c =
    let s = c.args.slewing.now in
    let ds = c.args.plan.now in
    let at = (sweep_of (sweeps_of s) c.args.place).end in
    sym (next-later s.step (says ds c.args.place) at c.loop-next.next (sweeps_of s) ds c.requires.each (omega arith) c.if-plan-next.false) ∙ c.loop-next.invariant

pub returns-clause-value : goal.returns-clause-value
returns-clause-value c =
    let s = c.args.slewing.now in
    let ds = c.args.plan.now in
    let at = (sweep_of (sweeps_of s) c.args.place).end in
    sym (next-none s.step (says ds c.args.place) at c.loop-next.next (sweeps_of s) ds c.requires.each (omega arith)) ∙ c.loop-next.invariant
