use Rattle.std.proofs.Common.{◌≡◌, map, take}
use Rattle.text.specs.Reading.{directions_of}
use Rattle.text.specs.Views.{entry_of}
use Rattle.text.proofs.draft.Draft.directions.Given as goal

abbrev pub invariant-loop-entry : goal.invariant-loop-entry
invariant-loop-entry l = l.numbers.items ≡ directions_of (map entry_of (take l.entry-index l.entry-items))
