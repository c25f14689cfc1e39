use Rattle.std.proofs.Common.{string_bytes, sym, ◌∙◌, rules, tests}
use Rattle.std.proofs.lemmas.Iterator.{YieldsList-from_slice}
use Rattle.std.proofs.lemmas.Iterator.Search.{all_from_yields_List}
use Rattle.std.proofs.lemmas.List.Folds.{list_all-map}
use Rattle.text.specs.Names.{is_name}
use Rattle.text.proofs.names.are_names.Goals as goal

pub returns : goal.returns
returns c =
    let ns = c.args.names.now in
    all_from_yields_List (λ n. is_name (string_bytes n)) _ _ c.all.result c.all.ensures.ran (YieldsList-from_slice ns cc) (λ x b q k. search (rules, tests)) ∙ sym (list_all-map is_name string_bytes ns)
