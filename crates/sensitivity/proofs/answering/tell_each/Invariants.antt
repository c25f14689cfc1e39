use Rattle.std.proofs.Common.{◌≡◌, ℕ, ◌<◌, length, get_or}
use Rattle.passes.specs.Nights.{passes_of}
use Rattle.sensitivity.specs.declared.needed.Needed.{Needed}
use Rattle.sensitivity.specs.Answers.{needed_number}
use Rattle.sensitivity.specs.Needing.{Told}
use Rattle.sensitivity.proofs.answering.tell_each.Given as goal

-- a true word was written for each pass so far
abbrev pub invariant-loop-place : goal.invariant-loop-place
invariant-loop-place l =
    let n = l.night in
    (length l.needed ≡ length (passes_of n)) × ((i : ℕ) → i < l.place → (said : Needed) × Told n.station (passes_of n) i said × (get_or l.needed i 0 ≡ needed_number said))
