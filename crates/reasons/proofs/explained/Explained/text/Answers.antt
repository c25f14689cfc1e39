use Rattle.std.proofs.Common.{string_bytes, arith}
use Rattle.std.proofs.lemmas.Grind.{common_steps}
use Rattle.std.proofs.lemmas.Slice.Zip.{either_empty_from_Zip}
use Rattle.text.proofs.Ends.{no_pairs}
use Rattle.reasons.proofs.explained.Explained.text.Goals as goal

pub returns : goal.returns
returns c =
    let none = no_pairs string_bytes _ _ (either_empty_from_Zip _ c.next.new.self _ c.in-None.is c.next.ensures.steps) in
    let made = rw none at c.loop-label.invariant in
    grind (arith, common_steps, made)
