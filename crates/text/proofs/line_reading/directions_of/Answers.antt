use Rattle.std.proofs.Common.{sym, ap, ◌∙◌, map}
use Rattle.std.proofs.lemmas.List.{drop-map}
use Rattle.text.specs.Lines.{ends_at, directions_at}
use Rattle.text.proofs.InFront.{all_behind}
use Rattle.text.proofs.line_reading.directions_of.Goals as goal

pub returns : goal.returns
unfolding directions_at
returns c =
    let words = c.args.words.now in
    let place = c.before_directions.result in
    rw (← c.before_directions.ensures.place) (c.ends_of.ensures ∙ ap ends_at (ap (map (λ w. w.now)) (all_behind place words) ∙ sym (drop-map (λ w. w.now) place words)))
