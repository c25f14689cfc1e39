use Rattle.std.proofs.Common.{◌≡◌, map, string_bytes}
use Rattle.reasons.specs.Others.{called}
use Rattle.reasons.proofs.Places.{is_other, labels_below}
use Rattle.reasons.proofs.asking.Asking.others_in.Given as goal

-- the labels so far are those of the places so far
abbrev pub invariant-loop-k : goal.invariant-loop-k
invariant-loop-k g l = map string_bytes l.names.items ≡ labels_below (called l.self.planned.now) (is_other l.place l.plan l.other) l.k
