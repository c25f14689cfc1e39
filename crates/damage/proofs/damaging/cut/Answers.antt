use Rattle.std.proofs.Common.{◌≡◌, ◌<◌, length, map, ap, ◌∙◌, rules}
use Rattle.std.specs.Prelude.{remove}
use Rattle.std.proofs.lemmas.Result.{IfOk-weaker}
use Rattle.damage.specs.Damages.{Cut, joined}
use Rattle.damage.proofs.Lines.{within-map, map-remove}
use Rattle.damage.proofs.damaging.cut.Goals as goal

-- a line is gone
pub returns : goal.returns
returns g c =
    let place = c.random_range-place.result in
    let lines = c.in_ok-lines.lines.items in
    let room : place < length lines = search rules in
    let within = within-map (λ l. l.now) lines _ place c.in_ok-lines.ensures.lines room in
    let gone = map-remove (λ l. l.now) c.in_ok-lines.lines.items place ∙ ap (λ ls. remove ls place) c.in_ok-lines.ensures.lines in
    let now = ap (map (λ l. l.now)) (c.deref.ensures.value ∙ c.remove.ensures.items) ∙ gone in
    IfOk-weaker _ (λ t. t.items ≡ joined (map (λ l. l.now) c.deref.result.now)) (λ t. Cut c.args.text.now t.items) (λ t e. (place, within, e ∙ ap joined now)) c.joined.ensures
