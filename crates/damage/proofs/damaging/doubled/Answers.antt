use Rattle.std.proofs.Common.{◌≡◌, ◌<◌, [], length, map, get_or, rules, sym, ap, ◌∙◌}
use Rattle.std.specs.Prelude.{insert}
use Rattle.std.proofs.lemmas.List.{get_or-map}
use Rattle.std.proofs.lemmas.Result.{IfOk-weaker}
use Rattle.damage.specs.Damages.{Doubled, joined}
use Rattle.damage.proofs.Lines.{within-map, map-insert}
use Rattle.damage.proofs.damaging.doubled.Goals as goal

-- a line stands there once more
pub returns : goal.returns
returns g c =
    let place = c.random_range-place.result in
    let from = c.random_range.result in
    let lines = c.in_ok-lines.lines.items in
    let within : from < length lines = search rules in
    let room : place < length lines = search rules in
    let placed = within-map (λ l. l.now) lines _ place c.in_ok-lines.ensures.lines room in
    let found = within-map (λ l. l.now) lines _ from c.in_ok-lines.ensures.lines within in
    let line = ap (λ l. l.now) c.index-line.ensures ∙ sym (get_or-map (λ l. l.now) lines from c.index-line.result.now [] within) ∙ ap (λ ls. get_or ls from []) c.in_ok-lines.ensures.lines in
    let more = map-insert (λ l. l.now) lines place c.index-line.result.now ∙ (λ t. insert (c.in_ok-lines.ensures.lines t) place (line t)) in
    let now = ap (map (λ l. l.now)) (c.deref.ensures.value ∙ c.in_ok-insert.ensures.items) ∙ more in
    IfOk-weaker _ (λ t. t.items ≡ joined (map (λ l. l.now) c.deref.result.now)) (λ t. Doubled c.args.text.now t.items) (λ t e. (place, from, placed, found, e ∙ ap joined now)) c.joined.ensures
