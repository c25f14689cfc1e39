use Rattle.std.proofs.Common.{◌≡◌}
use Rattle.text.specs.Drafts.{draft_of}
use Rattle.text.specs.Views.{view_of}
use Rattle.text.proofs.LineByLine.{from_line}
use Rattle.text.proofs.draft.Draft.read.Given as goal

-- what the lines from this one on give beside what is read is what all of them give
abbrev pub invariant-loop-at : goal.invariant-loop-at
invariant-loop-at l = from_line (view_of l.draft) l.at l.line-items ≡ draft_of l.text
