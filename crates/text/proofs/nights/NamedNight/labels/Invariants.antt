use Rattle.std.proofs.Common.{◌≡◌, ◌++◌, map, string_bytes}
use Rattle.std.specs.Iterator.Adapters.{zip_first, zip_second}
use Rattle.std.specs.Slice.Iter.{iter_rest}
use Rattle.std.specs.List.{zip}
use Rattle.passes.specs.Nights.{passes_of}
use Rattle.text.specs.Labels.{label_of, labels_of}
use Rattle.text.specs.Lists.{names_of}
use Rattle.text.proofs.nights.NamedNight.labels.Given as goal

-- what is left makes up the labels
abbrev pub invariant-loop-name : goal.invariant-loop-name
invariant-loop-name l =
    let names = map string_bytes (iter_rest (zip_first l.name-iterator)) in
    let passes = iter_rest (zip_second l.name-iterator) in
    map string_bytes l.labels.items ++ map (λ x. label_of (names_of l.self) x.0 x.1) (zip names passes) ≡ labels_of (names_of l.self) (passes_of l.self.night)
