use Rattle.std.proofs.Common.{◌≡◌, ◌++◌, string_bytes}
use Rattle.text.proofs.Marked.{marked}
use Rattle.text.proofs.writing.write_dishes.Given as goal

-- the dishes so far are written
abbrev pub invariant-loop-dish : goal.invariant-loop-dish
invariant-loop-dish l = string_bytes l.text ≡ string_bytes l.initial.text ++ marked l.pass l.dish-counter
