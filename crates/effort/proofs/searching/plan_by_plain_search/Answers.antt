use Rattle.std.proofs.Common.{length, ap, arith}
use Rattle.passes.specs.Nights.{NightOf, passes_of}
use Rattle.passes.proofs.Checking.{checked_says}
use Rattle.capacity.proofs.Timing.{in_time_from_checked}
use Rattle.effort.proofs.Plainly.{Answered, some_found, best_found}
use Rattle.effort.proofs.searching.plan_by_plain_search.Goals as goal
use Rattle.effort.proofs.searching.plan_by_plain_search.Goals.{After-gain_most}

-- the night is that of the list
night_read : (c : After-gain_most) → NightOf 4 c.args.case.now.turn c.args.case.now.numbers.items c.unwrap-night.result
night_read c = rw (c.unwrap-night.ensures, c.as_slice.ensures.value) at c.read.ensures.night

-- and the plain search is one of that night
answered : (c : After-gain_most) → Answered c.args.case.now.turn c.args.case.now.numbers.items c.unwrap-night.result (night_read c) c.as_mut_slice-2.result.now c.gain_most.result.most c.gain_most.new.room
answered c = rw (c.new.ensures.same_turns, c.new.ensures.same_passes, c.passes.ensures, c.station-turns.ensures) at c.gain_most.ensures.answered

pub invariant_of-wide : goal.invariant_of-wide
invariant_of-wide c =
    let n = c.unwrap-night.result in
    record {
      few_dishes = omega arith;
      few_passes = omega (arith, (checked_says n.station (passes_of n) n.ok).few, ap length c.passes.ensures);
      in_time = rw c.passes.ensures (in_time_from_checked n.station (passes_of n) n.ok);
    }

pub returns-clause-some : goal.returns-clause-some
returns-clause-some c =
    let after = (goal.at.returns-clause-some c).After-gain_most in
    some_found _ _ _ (night_read after) _ _ _ (answered after)

pub returns-clause-worth : goal.returns-clause-worth
returns-clause-worth c =
    let after = (goal.at.returns-clause-worth c).After-gain_most in
    best_found _ _ _ (night_read after) _ _ _ (answered after)
