use Rattle.std.proofs.Common.{ℕ, ◌≡◌, ◌<◌, ◌∙◌, sym, ap, arith, get_or}
use Rattle.std.proofs.lemmas.Bool.Decides.{nat_tests}
use Rattle.std.proofs.lemmas.List.Sums.{fold_more}
use Rattle.drawing.specs.declared.bars.Bar.{Bar}
use Rattle.drawing.specs.Rows.{over}
use Rattle.drawing.proofs.rows.cell.Goals as goal

no_bar : Bar
no_bar = record { letter = 0; begin = 0; end = 0; turned = 0 }

over_ascii : (column under : ℕ) (bar : Bar) → under < 128 → bar.letter < 128 → over column under bar < 128
unfolding over
over_ascii column under bar small letter = grind (arith, nat_tests)

pub loop-bar-preserved : goal.loop-bar-preserved
unfolding no_bar
loop-bar-preserved c =
    let bar = get_or c.args.bars.now c.loop-bar.bar-index no_bar in
    let drawn : c.over-under.result ≡ over c.args.column c.loop-bar.under bar = c.over-under.ensures in
    let more = fold_more (over c.args.column) 32 c.args.bars.now c.loop-bar.bar-index no_bar c.loop-bar-test.true in (
      drawn ∙ ap (λ (under : ℕ). over c.args.column under bar) c.loop-bar.invariant.0 ∙ sym more,
      rw drawn (over_ascii c.args.column c.loop-bar.under bar c.loop-bar.invariant.1 (c.requires c.loop-bar.bar-index no_bar c.loop-bar-test.true)),
    )
