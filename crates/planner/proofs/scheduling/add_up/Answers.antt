use Rattle.std.proofs.Common.{◌≡◌, ◌+◌, ◌^◌, ◌<◌, [], ◌∷◌, length, get_or, refl, ap, sym, ◌∙◌, ⊎_elim, arith, rules}
use Rattle.std.proofs.lemmas.List.{append-nil, get_or-set_same, length-set}
use Rattle.std.proofs.lemmas.Bool.{cases_eq}
use Rattle.passes.specs.Rule.{no_pass, nth}
use Rattle.capacity.proofs.Greedy.{all_zero}
use Rattle.capacity.proofs.Tables.{last_left}
use Rattle.pruning.proofs.Adding.{adds_up_none, adds_up_more}
use Rattle.planner.proofs.scheduling.add_up.Goals as goal

pub loop-i-init : goal.loop-i-init
loop-i-init c =
    let ps = c.args.passes.now in
    let all : c.into_iter-i-iterator.result.iter.iter.rest.now ≡ ps = search rules in
    record {
      count = search rules;
      of_passes = ([], append-nil _ ∙ all);
      long = refl;
      sums = rw all (adds_up_none (λ p. p.worth) ps 129 (omega arith));
      small = rw all (λ k l m. absurd (omega arith));
      low = rw all (omega (arith, all_zero 129 (length ps)));
    }

pub loop-i-preserved : goal.loop-i-preserved
loop-i-preserved c =
    let ps = c.args.passes.now in
    let l = c.loop-i in
    let pass = c.in-Some.pass.now in
    let left = c.next.new.self.iter.iter.rest.now in
    let told = c.in-Some.ensures.steps in
    let j = length left in
    let before = l.invariant.of_passes in
    let at = last_left ps l.i-iterator.iter.iter.rest.now left before.0 pass j before.1 told.1.0 refl in
    let here : c.in-Some.i ≡ j = omega (arith, told.1.1, l.invariant.count) in
    let worth : pass.worth ≡ (nth ps j).worth = ap (λ p. p.worth) (sym (at.3 no_pass)) in
    let small : pass.worth < 2 ^ 32 = search rules in
    let room : j < length l.left = omega (arith, at.2) in
    let next : c.in-Some.i + 1 ≡ length l.i-iterator.iter.iter.rest.now = omega (arith, at.1) in
    let sum : pass.worth + get_or l.left (c.in-Some.i + 1) 0 ≡ (nth ps j).worth + get_or l.left (j + 1) 0 = rw here (omega arith) in
    record {
      count = told.0 ∙ l.invariant.count;
      of_passes = (pass ∷ before.0, at.0);
      long = search (rules, length-set);
      sums = rw here (adds_up_more (λ p. p.worth) ps l.left j _ no_pass at.2 room (rw here at sum) (rw at.1 at l.invariant.sums));
      small = λ k low high. ⊎_elim (λ same. rw same (omega arith)) (λ other. l.invariant.small k (omega (arith, at.1)) high) (cases_eq k j);
      low = rw (here, get_or-set_same l.left j _ 0 room) (omega (arith, l.invariant.low, at.1, at.2, ap (λ x. get_or l.left x 0) next));
    }
