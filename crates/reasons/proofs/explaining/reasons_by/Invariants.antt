use Rattle.std.proofs.Common.{◌≡◌, ℕ, length, slice_get, Some}
use Rattle.passes.specs.Nights.{passes_of}
use Rattle.reasons.specs.declared.reason.Reason.{Reason}
use Rattle.reasons.specs.TrueReasons.{TrueReason}
use Rattle.reasons.proofs.explaining.reasons_by.Given as goal

-- the passes so far have their reasons, and the room is as long as a plan
abbrev pub invariant-loop-place : goal.invariant-loop-place
invariant-loop-place g l = record {
  so_far : length l.reasons.items ≡ l.place;
  each : (i : ℕ) (r : Reason) → slice_get l.reasons.items i ≡ Some r → TrueReason l.planned i r;
  room : length l.room.items ≡ length (passes_of l.planned.night.night);
}
