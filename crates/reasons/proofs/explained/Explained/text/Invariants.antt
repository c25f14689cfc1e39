use Rattle.std.proofs.Common.{◌≡◌, ◌++◌, map, string_bytes}
use Rattle.std.specs.Iterator.Adapters.{zip_first, zip_second}
use Rattle.std.specs.Slice.Iter.{iter_rest}
use Rattle.std.specs.List.{flat_map, zip}
use Rattle.reasons.specs.Words.{reason_line, reasons_text}
use Rattle.reasons.proofs.explained.Explained.text.Given as goal

-- what is left makes up the text
abbrev pub invariant-loop-label : goal.invariant-loop-label
invariant-loop-label l =
    let labels = map string_bytes (iter_rest (zip_first l.label-iterator)) in
    let reasons = iter_rest (zip_second l.label-iterator) in
    string_bytes l.text ++ flat_map (reason_line l.self.planned.worth) (zip labels reasons) ≡ reasons_text l.self.planned l.self.reasons.items
