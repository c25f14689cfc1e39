use Rattle.std.proofs.Common.{sym, ap, ◌∙◌}
use Rattle.std.proofs.lemmas.List.{take-map}
use Rattle.text.specs.Lines.{marks_from, marks_at}
use Rattle.text.proofs.line_reading.marks_of.Goals as goal

pub returns : goal.returns
unfolding marks_at
returns c =
    rw (← c.before_directions.ensures.place) (c.marks_from.ensures ∙ ap (marks_from 0) (sym (take-map (λ w. w.now) c.before_directions.result c.args.words.now)))
