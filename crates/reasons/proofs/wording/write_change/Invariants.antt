use Rattle.std.proofs.Common.{◌≡◌, ◌++◌, map, string_bytes}
use Rattle.reasons.specs.Words.{behind_first}
use Rattle.reasons.proofs.Joining.{behind}
use Rattle.reasons.proofs.wording.write_change.Given as goal

-- what is left makes up the labels behind the first
abbrev pub invariant-loop-i : goal.invariant-loop-i
invariant-loop-i l = string_bytes l.text ++ behind l.others l.i ≡ string_bytes l.initial.text ++ behind_first (map string_bytes l.others)
