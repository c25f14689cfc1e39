use Rattle.std.proofs.Common.{sym, ap, ◌∙◌, subst}
use Rattle.std.proofs.lemmas.Result.{err_from_is_err_and}
use Rattle.text.specs.Drafts.{empty, with_lines, draft_of}
use Rattle.text.specs.Results.{Fails}
use Rattle.text.specs.Views.{view_of}
use Rattle.text.proofs.LineByLine.{goes_on, fails, no_more}
use Rattle.text.proofs.draft.Draft.read.Goals as goal

pub loop-at-init : goal.loop-at-init
unfolding draft_of
loop-at-init c = rw (c.new.ensures.items, c.deref-line-items.ensures.value) (ap (with_lines 0 empty) c.in_ok-lines_of.ensures)

pub returns-in_err-read_line : goal.returns-in_err-read_line
returns-in_err-read_line c =
    let p = err_from_is_err_and c.from_residual-in_err-read_line.result c.from_residual-in_err-read_line.ensures.1 in
    rw (p.1, p.2) (subst (Fails c.in_err-read_line.field-0.0) c.loop-at.invariant (fails (view_of c.loop-at.draft) c.loop-at.at c.deref-line-items.result.now _ c.loop-at-test.true c.in_err-read_line.field-0.0 c.in_err-read_line.ensures.read))

pub loop-at-preserved : goal.loop-at-preserved
loop-at-preserved c = sym (goes_on (view_of c.loop-at.draft) c.loop-at.at c.deref-line-items.result.now _ c.loop-at-test.true (view_of c.read_line.new.self) c.in_ok-read_line.ensures.read) ∙ c.loop-at.invariant

pub returns : goal.returns
returns c = sym c.loop-at.invariant ∙ no_more (view_of c.loop-at.draft) c.loop-at.at c.deref-line-items.result.now c.loop-at-test.false
