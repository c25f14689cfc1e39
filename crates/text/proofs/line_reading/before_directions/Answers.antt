use Rattle.std.proofs.Common.{not, map, arith, rules, tests}
use Rattle.std.specs.Prelude.{bytes_eq, codes}
use Rattle.std.proofs.lemmas.List.{length-map}
use Rattle.std.proofs.lemmas.List.Sums.{prefix_len-le-length}
use Rattle.std.proofs.lemmas.Iterator.{YieldsList-from_slice}
use Rattle.std.proofs.lemmas.Iterator.Search.{position_from_yields_List}
use Rattle.text.proofs.InFront.{in_front}
use Rattle.text.proofs.line_reading.before_directions.Goals as goal

pub returns-clause-place : goal.returns-clause-place
returns-clause-place c =
    let ws = c.args.words.now in
    in_front (λ w. bytes_eq w (codes "directions")) ws c.position.result c.unwrap_or.result c.unwrap_or.ensures
    (position_from_yields_List (λ w. bytes_eq w.now (codes "directions")) _ _ c.position.result c.position.ensures.ran (YieldsList-from_slice ws cc) (λ x b q k. search (rules, tests)))

pub returns-clause-within : goal.returns-clause-within
returns-clause-within c =
    let ws = c.args.words.now in
    omega (arith, returns-clause-place c, prefix_len-le-length (λ w. not (bytes_eq w (codes "directions"))) (map (λ w. w.now) ws), length-map ws (λ w. w.now))
