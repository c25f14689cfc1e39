use Rattle.std.proofs.Common.{◌≡◌, rules, tests, arith}
use Rattle.std.proofs.lemmas.Bool.Decides.{nat_tests}
use Rattle.std.specs.List.{list_all}
use Rattle.std.proofs.lemmas.Iterator.{YieldsList-from_slice}
use Rattle.std.proofs.lemmas.Iterator.Search.{all_from_yields_List}
use Rattle.text.specs.Names.{is_name_byte, is_name}
use Rattle.text.proofs.names.is_name.Goals as goal
use Rattle.text.proofs.names.is_name.Goals.{then-not-is_empty, else-not-is_empty}

pub returns-then-word-le-MAX_NAME : goal.returns-then-word-le-MAX_NAME
unfolding is_name
returns-then-word-le-MAX_NAME c =
    let w = c.args.word.now in
    let all : c.all.result ≡ list_all is_name_byte w = all_from_yields_List is_name_byte _ _ c.all.result c.all.ensures.ran (YieldsList-from_slice w cc) (λ x b q k. search (rules, tests)) in
    elim c.if-not-is_empty.branch [ then-not-is_empty v ↦ grind (arith, nat_tests) | else-not-is_empty v ↦ grind (arith, nat_tests) ]

pub returns-else-word-le-MAX_NAME : goal.returns-else-word-le-MAX_NAME
unfolding is_name
returns-else-word-le-MAX_NAME c = elim c.if-not-is_empty.branch [ then-not-is_empty v ↦ grind (arith, nat_tests) | else-not-is_empty v ↦ grind (arith, nat_tests) ]
