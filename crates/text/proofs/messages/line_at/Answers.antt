use Rattle.std.proofs.Common.{◌≡◌, ◌∙◌, [], ap, eqb, rules, tests}
use Rattle.std.specs.List.{slice_split, slice_get}
use Rattle.std.specs.Option.{unwrap_or, option_map}
use Rattle.std.proofs.lemmas.Iterator.Consumers.{nth_from_yields_List}
use Rattle.std.proofs.lemmas.Iterator.Splits.{YieldsList-from_slice_split}
use Rattle.std.proofs.lemmas.Option.{unwrap_or-slice_get}
use Rattle.text.proofs.Showing.{pointed}
use Rattle.text.proofs.messages.line_at.Goals as goal

pub returns : goal.returns
returns c =
    let text = c.args.text.now in
    let i = c.args.i in
    let got : option_map (λ x. x.now) c.nth.result ≡ slice_get (slice_split (λ b. eqb b 10) text) i =
    nth_from_yields_List c.nth.result _ i c.nth.ensures.ran (YieldsList-from_slice_split _ (λ b. eqb b 10) text c.split.ensures.rest c.split.ensures.done c.split.ensures.closure (λ x b q k. search (rules, tests))) in
    ap (λ x. x.now) c.unwrap_or.ensures ∙ pointed c.nth.result _ ∙ ap (λ o. unwrap_or o []) got ∙ unwrap_or-slice_get (slice_split (λ b. eqb b 10) text) i []
