use Rattle.std.proofs.Common.{sym, ◌∙◌}
use Rattle.std.proofs.lemmas.Nat.{one_shl}
use Rattle.std.proofs.lemmas.Nat.Bits.{shr_and_one}
use Rattle.std.proofs.lemmas.Result.{err_from_is_err_and}
use Rattle.text.proofs.Marks.{no_number, too_large, twice, one_more, no_more}
use Rattle.text.proofs.line_reading.marks_from.Goals as goal

pub returns-in_err-dish : goal.returns-in_err-dish
returns-in_err-dish c =
    let p = err_from_is_err_and c.from_residual.result c.from_residual.ensures.1 in
    rw (p.1, p.2) (sym (no_number c.loop-word.marks c.loop-word.word-index c.args.words.now _ c.loop-word-test.true _ (sym c.number_of.ensures ∙ c.in_err-dish.was)) ∙ c.loop-word.invariant)

pub returns-then-dish-ge-MARK_BITS : goal.returns-then-dish-ge-MARK_BITS
returns-then-dish-ge-MARK_BITS c = sym (too_large c.loop-word.marks c.loop-word.word-index c.args.words.now _ c.loop-word-test.true _ (sym c.number_of.ensures ∙ c.in_ok-dish.was) c.if-dish-ge-MARK_BITS.true) ∙ c.loop-word.invariant

pub returns-then-marks-dish-eq1 : goal.returns-then-marks-dish-eq1
returns-then-marks-dish-eq1 c = sym (twice c.loop-word.marks c.loop-word.word-index c.args.words.now _ c.loop-word-test.true _ (sym c.number_of.ensures ∙ c.in_ok-dish.was) c.if-dish-ge-MARK_BITS.false (sym (shr_and_one c.loop-word.marks c.in_ok-dish.dish) ∙ c.if-marks-dish-eq1.true)) ∙ c.loop-word.invariant

pub loop-word-preserved : goal.loop-word-preserved
loop-word-preserved c =
    rw (one_shl c.in_ok-dish.dish 32 c.if-dish-ge-MARK_BITS.false) (sym (one_more c.loop-word.marks c.loop-word.word-index c.args.words.now _ c.loop-word-test.true _ (sym c.number_of.ensures ∙ c.in_ok-dish.was) c.if-dish-ge-MARK_BITS.false (λ there. c.if-marks-dish-eq1.false (shr_and_one c.loop-word.marks c.in_ok-dish.dish ∙ there)))
    ∙ c.loop-word.invariant)

pub returns : goal.returns
returns c = sym (no_more c.loop-word.marks c.loop-word.word-index c.args.words.now c.loop-word-test.false) ∙ c.loop-word.invariant
