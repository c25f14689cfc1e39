use Rattle.std.proofs.Common.{◌≡◌, ◌∙◌, ap, sym, refl, length, map, string_bytes, rules}
use Rattle.std.proofs.lemmas.List.{length-map}
use Rattle.passes.specs.Nights.{passes_of}
use Rattle.text.specs.Labels.{labels_of}
use Rattle.text.specs.Lists.{names_of}
use Rattle.drawing.proofs.Plans.{all_lasting, few_passes, one_each, labels_each}
use Rattle.drawing.proofs.shown.picture_of.Goals as goal

pub invariant_of-result : goal.invariant_of-result
invariant_of-result c =
    let p = c.args.planned.now in
    let passes : c.passes.result.now ≡ passes_of p.night.night = search rules in
    let plan : c.plan.result.now ≡ p.plan.items = c.plan.ensures in
    let mapped : length (map string_bytes c.args.labels.now) ≡ length c.args.labels.now = rw length-map refl in
    let labels : length c.args.labels.now ≡ length (labels_of (names_of p.night) (passes_of p.night.night)) = sym mapped ∙ ap length c.requires in
    record {
      lasting = rw passes (all_lasting p);
      few = rw passes (few_passes p);
      planned = rw (plan, passes) (one_each p);
      labelled = rw passes (labels ∙ labels_each p);
      directed = rw (passes, c.slewing.ensures, c.night-named.ensures) p.night.directed;
    }
