use Rattle.std.proofs.Common.{◌≡◌}
use Rattle.text.proofs.Marks.{from_word}
use Rattle.text.proofs.line_reading.marks_from.Given as goal

-- what the words from this one on give beside the marks so far is what all of them give
abbrev pub invariant-loop-word : goal.invariant-loop-word
invariant-loop-word l = from_word l.marks l.word-index l.words ≡ from_word 0 0 l.words
