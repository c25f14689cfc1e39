use Rattle.std.proofs.Common.{◌≡◌, ◌++◌, map, string_bytes}
use Rattle.std.specs.Iterator.Adapters.{zip_first, zip_second}
use Rattle.std.specs.Slice.Iter.{iter_rest}
use Rattle.text.specs.PlanText.{row}
use Rattle.text.proofs.plan_text.write_row.Given as goal

-- what is left makes up the row
abbrev pub invariant-loop-label : goal.invariant-loop-label
invariant-loop-label l =
    string_bytes l.text ++ row l.what (map string_bytes (iter_rest (zip_first l.label-iterator))) (iter_rest (zip_second l.label-iterator)) ≡ string_bytes l.initial.text ++ row l.what (map string_bytes l.labels) l.plan
