use Rattle.std.proofs.Common.{◌≡◌, [], ◌∷◌, ◌++◌, ◌∙◌, map, string_bytes, arith, rules}
use Rattle.std.specs.Iterator.Adapters.{zip_first, zip_second}
use Rattle.std.specs.Slice.Iter.{iter_rest}
use Rattle.std.specs.List.{zip}
use Rattle.std.proofs.lemmas.Grind.{common_steps}
use Rattle.std.proofs.lemmas.Slice.Zip.{either_empty_from_Zip}
use Rattle.text.specs.Labels.{label_of}
use Rattle.text.specs.Lists.{names_of}
use Rattle.text.proofs.Ends.{no_pairs, one_more}
use Rattle.text.proofs.nights.NamedNight.labels.Goals as goal

pub loop-name-preserved : goal.loop-name-preserved
loop-name-preserved c =
    let turn = c.in-Some.ensures.steps in
    let left = rw (turn.0, turn.1) at c.loop-name.invariant in
    let now : c.push.new.self.items ≡ c.loop-name.labels.items ++ c.in_ok-label.field-0 ∷ [] = search rules in
    let names = names_of c.args.self.now in
    let last = label_of names (string_bytes c.in-Some.name.now) c.in-Some.pass.now in
    let told : string_bytes c.in_ok-label.field-0 ≡ last = rw c.deref-in-loop-name.ensures at c.in_ok-label.ensures in
    let rest = iter_rest (zip_first c.next.new.self) in
    let passes = iter_rest (zip_second c.next.new.self) in
    rw now (one_more string_bytes c.loop-name.labels.items c.in_ok-label.field-0 last (map (λ x. label_of names x.0 x.1) (zip (map string_bytes rest) passes)) told ∙ left)

pub returns : goal.returns
returns c =
    let none = no_pairs string_bytes _ _ (either_empty_from_Zip _ c.next.new.self _ c.in-None.is c.next.ensures.steps) in
    let made = rw none at c.loop-name.invariant in
    grind (arith, common_steps, made)
