use Rattle.std.proofs.Common.{◌≡◌, ◌+◌, true, false, [], ◌∷◌, length, set, drop, get_or, sym, ◌∙◌, subst, arith, rules, length-set}
use Rattle.std.proofs.lemmas.List.{append-nil}
use Rattle.passes.specs.Rule.{no_pass, nth}
use Rattle.capacity.specs.Alone.{GainsMost, RightFrom}
use Rattle.capacity.proofs.Chains.{able, gain_le_sum}
use Rattle.capacity.proofs.Tables.{entry_past, right_more, comes_later, entry_unable, entry_able, sum_later, last_left}
use Rattle.capacity.proofs.alone.OneDish.fill_table.Goals as goal
use Rattle.capacity.proofs.alone.OneDish.fill_table.Goals.{then-may_follow, else-may_follow}

pub loop-i-init : goal.loop-i-init
loop-i-init c =
    let dish = c.args.self.now in
    let all : c.into_iter-i-iterator.result.iter.iter.rest.now ≡ dish.passes.now = search rules in (
      search rules,
      search rules,
      search rules,
      ([], append-nil _ ∙ all),
      rw all (right_more dish.station dish.dish dish.passes.now c.args.gains.now c.requires.a_gain_each c.args.table.now _ 0 (omega (arith, c.requires.one_more)) (λ k l m. absurd (omega arith))
          (entry_past dish.station dish.dish dish.passes.now c.args.gains.now c.requires.a_gain_each _ (omega arith))),
    )

pub overflow_add-gains : goal.overflow_add-gains
overflow_add-gains c =
    let dish = c.args.self.now in
    let i = c.in-Some.i in
    let next = get_or c.args.after.now i 0 in
    let steps = c.in-Some.ensures.steps in
    let before = c.loop-i.invariant in
    let turn = last_left dish.passes.now _ _ before.3.0 c.in-Some.pass.now i before.3.1 steps.1.0 (omega arith) in
    let first = c.requires.successors.each i turn.2 in
    let later = comes_later dish.station dish.passes.now dish.in_time i next turn.2 first in
    let entry = before.4 next (omega arith) first.within in
    let most = gain_le_sum dish.dish (drop next c.args.gains.now) entry.0 in
    omega (arith, entry.2, sum_later c.args.gains.now i next (omega (arith, c.requires.a_gain_each)) later)

pub loop-i-preserved : goal.loop-i-preserved
loop-i-preserved c =
    let dish = c.args.self.now in
    let i = c.in-Some.i in
    let gains = c.args.gains.now in
    let long = c.requires.a_gain_each in
    let steps = c.in-Some.ensures.steps in
    let before = c.loop-i.invariant in
    let here : i ≡ length c.next.new.self.iter.iter.rest.now = omega arith in
    let turn = last_left dish.passes.now _ _ before.3.0 c.in-Some.pass.now i before.3.1 steps.1.0 here in
    let pass = turn.3 no_pass in
    let rest = before.4 (i + 1) (omega arith) (omega arith) in
    let entry : GainsMost dish.station dish.dish (drop i dish.passes.now) (drop i gains) c.if-may_follow.table = elim c.if-may_follow.branch [
      | then-may_follow w ↦
          let next = get_or c.args.after.now i 0 in
          let first = c.requires.successors.each i turn.2 in
          let later = comes_later dish.station dish.passes.now dish.in_time i next turn.2 first in
          let can : able dish.station dish.dish (nth dish.passes.now i) ≡ true = rw pass (sym c.may_follow.ensures ∙ w.if-may_follow.true) in
          rw (w.table-is, w.max.ensures) (entry_able dish.station dish.passes.now dish.in_time i next turn.2 first dish.dish gains long can _ _ rest (before.4 next (omega arith) first.within))
      | else-may_follow w ↦
          let cannot : able dish.station dish.dish (nth dish.passes.now i) ≡ false = rw pass (sym c.may_follow.ensures ∙ w.if-may_follow.false) in
          rw w.table-is (entry_unable dish.station dish.dish dish.passes.now gains long i turn.2 cannot _ rest)
    ] in (
      omega arith,
      search rules,
      omega arith,
      (c.in-Some.pass.now ∷ before.3.0, turn.0),
      subst (λ k. RightFrom k dish.station dish.dish dish.passes.now gains (set c.loop-i.table i c.if-may_follow.table)) here
          (right_more dish.station dish.dish dish.passes.now gains long c.loop-i.table i _ (omega (arith, length-set c.args.table.now (length dish.passes.now) 0)) (λ k l m. before.4 k (omega arith) m) entry),
    )
