-- A plan has a number for each pass of its night, and each pass has a label. Assumes nothing.
use Rattle.std.proofs.Common.{◌≡◌, List, length, map, String, string_bytes, sym, ap, ◌∙◌, refl, arith, rules}
use Rattle.std.proofs.lemmas.List.{length-map}
use Rattle.std.proofs.lemmas.Slice.Zip.{length-zip}
use Rattle.passes.specs.Nights.{passes_of}
use Rattle.sensitivity.proofs.Stations.{fits_long}
use Rattle.text.specs.declared.planned.Planned.{Planned}
use Rattle.text.specs.Lists.{names_of}
use Rattle.reasons.specs.Others.{called}

-- the plan has a number for each pass
pub plan_long : (p : Planned) → length p.plan.items ≡ length (passes_of p.night.night)
plan_long p = fits_long p.night.night.station (passes_of p.night.night) p.plan.items p.good

-- each pass is called something
called_long : (p : Planned) → length (called p) ≡ length (passes_of p.night.night)
called_long p =
    let named : length (names_of p.night) ≡ length p.plan.items = rw length-map (search rules) in
    let zipped = length-zip (names_of p.night) (passes_of p.night.night) in
    rw length-map (omega (arith, zipped, named, plan_long p))

-- so there are as many labels as passes
pub labels_long :
    {Z : Type 0} (p : Planned) (labels : List (String Z)) → map string_bytes labels ≡ called p → length labels ≡ length (passes_of p.night.night)
labels_long p labels e =
    let same : length (map string_bytes labels) ≡ length labels = rw length-map refl in
    sym same ∙ ap length e ∙ called_long p
