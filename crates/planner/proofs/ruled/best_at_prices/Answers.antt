use Rattle.std.proofs.Common.{sym, ◌∙◌}
use Rattle.planner.proofs.ByRule.{copied_out, left_alone}
use Rattle.planner.proofs.ruled.best_at_prices.Goals as goal
use Rattle.planner.proofs.ruled.best_at_prices.Goals.{then-is_some, else-is_some}

pub returns : goal.returns
returns g c =
    let n = c.args.night in
    let at_prices = c.new.ensures in
    let r = g.R.Rule.automaton c.args.rule in
    let o = c.gain_most_by-gained.result.most in
    let after = c.gain_most_by-gained.new.room in
    let found = rw (at_prices.same_turns, at_prices.same_passes) at c.gain_most_by-gained.ensures in
    elim c.if-is_some.branch [
      | then-is_some w ↦ copied_out n.turns.now n.passes.now n.few_dishes n.in_time r _ after _ _ o (sym c.is_some.ensures ∙ w.if-is_some.true) found (w.room-is ∙ w.copy_from_slice-then-is_some.ensures.after)
      | else-is_some w ↦ left_alone n.turns.now n.passes.now n.few_dishes n.in_time r _ after _ _ o (sym c.is_some.ensures ∙ w.if-is_some.false) found w.room-is
    ]
