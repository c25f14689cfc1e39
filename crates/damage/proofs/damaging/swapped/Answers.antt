use Rattle.std.proofs.Common.{◌≡◌, ◌≢◌, ◌<◌, length, map, sym, ap, ◌∙◌, arith, rules}
use Rattle.std.specs.Prelude.{swap}
use Rattle.std.proofs.lemmas.List.{length-map}
use Rattle.std.proofs.lemmas.Result.{IfOk-weaker}
use Rattle.text.specs.Words.{lines_of}
use Rattle.damage.specs.Damages.{Swapped, joined}
use Rattle.damage.proofs.Lines.{within-map, map-swap}
use Rattle.damage.proofs.damaging.swapped.Goals as goal

-- two lines have changed places
pub returns : goal.returns
returns g c =
    let one = c.random_range-one.result in
    let other = c.another_place-other.result in
    let lines = c.in_ok-lines.lines.items in
    let room : one < length lines = search rules in
    let first = within-map (λ l. l.now) lines _ one c.in_ok-lines.ensures.lines room in
    let second_room : other < length lines = search rules in
    let second = within-map (λ l. l.now) lines _ other c.in_ok-lines.ensures.lines second_room in
    let count : c.len-2.result ≡ length lines = search rules in
    let apart : 1 < length (lines_of c.args.text.now) → one ≢ other =
    λ more is. c.another_place-other.ensures.another (omega (arith, more, count, length-map lines (λ l. l.now), ap length c.in_ok-lines.ensures.lines)) (sym is) in
    let changed = map-swap (λ l. l.now) c.in_ok-lines.lines.items one other ∙ ap (λ ls. swap ls one other) c.in_ok-lines.ensures.lines in
    let now = ap (map (λ l. l.now)) (c.deref.ensures.value ∙ c.swap.ensures.items) ∙ changed in
    IfOk-weaker _ (λ t. t.items ≡ joined (map (λ l. l.now) c.deref.result.now)) (λ t. Swapped c.args.text.now t.items) (λ t e. (one, other, first, second, apart, e ∙ ap joined now)) c.joined.ensures
