use Rattle.std.proofs.Common.{arith}
use Rattle.passes.specs.Nights.{passes_of}
use Rattle.trials.specs.Numbered.{good_of}
use Rattle.trials.proofs.Choosing.{choosable}
use Rattle.trials.proofs.Numbering.{best_of_all, max_is, one_more}
use Rattle.trials.proofs.all_plans.most_worth.Goals as goal

pub loop-number-preserved : goal.loop-number-preserved
loop-number-preserved c =
    let j = c.args.judge.now in
    let n = j.night in (
      rw (c.max-most.ensures, max_is c.loop-number.most c.worth_if_good.result, c.worth_if_good.ensures, c.write_plan.ensures, c.station.ensures, c.loop-number.invariant.1)
          (one_more n.station (passes_of n) (good_of j) _ _ c.loop-number.invariant.0),
      omega (arith, c.write_plan.auto.room, c.loop-number.invariant.1),
    )

pub returns : goal.returns
returns c =
    let j = c.args.judge.now in
    let n = j.night in
    best_of_all n.station (passes_of n) (good_of j) (choosable j) c.loop-number.number c.loop-number.most (rw (← c.station.ensures, ← c.requires.one_each) (omega (arith, c.in_ok-plans.ensures))) c.loop-number.invariant.0
