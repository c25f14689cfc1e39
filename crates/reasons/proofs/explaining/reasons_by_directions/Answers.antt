use Rattle.std.proofs.Common.{◌≡◌, Some, true, length, refl, sym, ap, ◌∙◌, rules}
use Rattle.passes.specs.Nights.{passes_of}
use Rattle.planner.specs.Ruled.{fits_by}
use Rattle.slewing.specs.Directions.{legs}
use Rattle.slewing.specs.Following.{slew_automaton}
use Rattle.slewing.specs.Slewed.{slewed}
use Rattle.slewing.specs.Slewings.{sweeps_of, each_directed}
use Rattle.reasons.proofs.Agreeing.{slews_agrees, slews_accept, some_found}
use Rattle.reasons.proofs.explaining.reasons_by_directions.Goals as goal
use Rattle.reasons.proofs.explaining.reasons_by_directions.Goals.{After-new}

-- the night is that of the plan
same_night : (c : After-new) → c.night-night.result.now ≡ c.args.planned.now.night.night
same_night c = search rules

-- the rule's automaton is that of the night and its directions
same_rule :
    (c : After-new) →
    let n = c.args.planned.now.night.night in
    let r = c.new.result in
    let w = c.args.slewing.now in
    slew_automaton r.turn r.step (legs r.passes.now r.sweeps.now) ≡ slew_automaton n.station.turn w.step (legs (passes_of n) (sweeps_of w))
same_rule c =
    let rule = c.new.ensures in
    rw (rule.same_turn, rule.same_step, rule.same_passes, rule.same_sweeps, same_night c) refl

pub unwrap-inquiry-requires : goal.unwrap-inquiry-requires
unwrap-inquiry-requires c =
    let p = c.args.planned.now in
    let n = p.night.night in
    let w = c.args.slewing.now in
    let r = c.new.result in
    let after = (goal.at.unwrap-inquiry-requires c).After-new in
    let each : each_directed (length (passes_of n)) (Some w) ≡ true = rw c.requires.directed at p.night.directed in
    let good : slewed n.station w.step (sweeps_of w) (passes_of n) p.plan.items ≡ true = rw c.requires.directed at c.requires.best.is_good in
    let read = c.night-night.result.now in
    let accepted : fits_by read.station (slew_automaton r.turn r.step (legs r.passes.now r.sweeps.now)) (passes_of read) p.plan.items ≡ true =
    rw (same_night after, same_rule after) (slews_accept n w each p.plan.items good) in
    some_found (fits_by read.station (slew_automaton r.turn r.step (legs r.passes.now r.sweeps.now))) (passes_of read) p.plan.items _ c.by.result accepted c.by.ensures

pub reasons_by-requires-clause-agrees : goal.reasons_by-requires-clause-agrees
reasons_by-requires-clause-agrees c i v ds =
    let p = c.args.planned.now in
    let n = p.night.night in
    let w = c.args.slewing.now in
    let after = (goal.at.reasons_by-requires-clause-agrees c).After-new in
    let each : each_directed (length (passes_of n)) (Some w) ≡ true = rw c.requires.directed at p.night.directed in
    let made = rw c.unwrap-inquiry.ensures at c.by.ensures in
    let rule = ap (λ r. slew_automaton r.turn r.step (legs r.passes.now r.sweeps.now)) made.1 ∙ same_rule after in
    rw (rule, c.requires.directed) (slews_agrees n w each i v ds)
