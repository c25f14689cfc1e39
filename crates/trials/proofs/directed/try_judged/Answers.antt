use Rattle.std.proofs.Math.Path.{subst}
use Rattle.passes.specs.Nights.{passes_of}
use Rattle.trials.specs.Trials.{TrueTrial}
use Rattle.trials.proofs.directed.try_judged.Goals as goal

pub returns : goal.returns
returns c =
    let night = c.requires.read in
    let n = c.args.judge.now.night in
    let done = c.plan_slewing-done.result in
    let plan = c.plan_slewing-done.new.room in
    let says = subst (λ good. TrueTrial good n.station (passes_of n) done plan c.compare.result) c.requires.good c.compare.ensures in
    record {
      room = c.args.room.now;
      one_each = rw (← night.same_passes) c.requires.one_each;
      done = done;
      plan = plan;
      came = rw (c.as_slice-numbers.ensures.value, c.as_slice-directions.ensures.value) at c.plan_slewing-done.ensures;
      says = rw (night.same_station, night.same_passes) at says;
      spare = c.args.spare.now;
      spare_long = rw (← night.same_passes) c.requires.a_place_each;
      without = c.plan-without.result;
      plan_without = c.plan-without.new.room;
      came_without = rw c.as_slice-numbers.ensures.value at c.plan-without.ensures;
      compared = c.is_worth_less.ensures;
    }
