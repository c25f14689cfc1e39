use Rattle.std.proofs.Common.{◌≡◌, ◌++◌, ◌∷◌, map, drop}
use Rattle.std.specs.Prelude.{flat_map}
use Rattle.damage.specs.Damages.{joined}
use Rattle.damage.proofs.damaging.joined.Given as goal

-- the first line, and those behind it that were written
abbrev pub invariant-loop-line : goal.invariant-loop-line
invariant-loop-line l = l.text.items ++ flat_map (λ m. 10 ∷ m) (map (λ b. b.now) (drop l.line-index l.others)) ≡ joined (map (λ b. b.now) l.lines)
