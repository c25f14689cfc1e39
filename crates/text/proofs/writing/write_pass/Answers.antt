use Rattle.std.proofs.Common.{◌++◌, codes, arith}
use Rattle.std.proofs.lemmas.Grind.{common_steps, flat_map-append}
use Rattle.text.specs.Writing.{dish_words, direction_words}
use Rattle.text.proofs.writing.write_pass.Goals as goal

pub returns : goal.returns
returns c =
    let both = flat_map-append (λ w. codes " " ++ w) (dish_words c.args.pass) (direction_words c.args.sweep) in
    grind (arith, common_steps, both)
