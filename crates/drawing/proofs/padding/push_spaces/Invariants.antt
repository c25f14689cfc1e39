use Rattle.std.proofs.Common.{◌≡◌, ◌++◌}
use Rattle.std.specs.Prelude.{string_bytes}
use Rattle.drawing.specs.Padding.{spaces}
use Rattle.drawing.proofs.padding.push_spaces.Given as goal

-- so many spaces are written
abbrev pub invariant-loop-i : goal.invariant-loop-i
invariant-loop-i l = string_bytes l.out ≡ string_bytes l.initial.out ++ spaces l._i
