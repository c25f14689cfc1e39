use Rattle.std.proofs.Common.{◌≡◌, length, drop, rules}
use Rattle.std.proofs.lemmas.List.{take_at}
use Rattle.passes.specs.Nights.{passes_of}
use Rattle.slewing.proofs.Directed.{not_refused}
use Rattle.text.proofs.Planning.{good_fits}
use Rattle.text.proofs.nights.NamedNight.plan.Goals as goal

pub unwrap-worth-requires : goal.unwrap-worth-requires
unwrap-worth-requires c =
    let same : length c.deref_mut-2.result.now ≡ length (passes_of c.args.self.night) = search rules in
    not_refused _ _ _ c.plan_directed.result same c.args.self.directed c.plan_directed.ensures.refusal

pub invariant_of-result : goal.invariant_of-result
invariant_of-result c =
    let kept = take_at c.plan_directed.new.room (drop (length c.plan_directed.new.room) c.in_ok-plan.plan.items) c.in_ok-plan.plan.len (search rules) in
    let planned = rw c.unwrap-worth.ensures at c.plan_directed.ensures.planned in
    record {
      one_each = search rules;
      good = rw kept (good_fits c.args.self c.plan_directed.new.room planned.is_good);
      sum = rw kept planned.worth;
    }

pub returns-clause-best : goal.returns-clause-best
returns-clause-best c =
    let kept = take_at c.plan_directed.new.room (drop (length c.plan_directed.new.room) c.in_ok-plan.plan.items) c.in_ok-plan.plan.len (search rules) in
    rw kept (rw c.unwrap-worth.ensures at c.plan_directed.ensures.planned)
