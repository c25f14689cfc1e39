-- How many passes hold a dish at once. Assumes nothing: these are definitions.
use Rattle.std.specs.Prelude.{ℕ, ◌+◌, Bool, cond, ◌&&◌, List, [], ◌∷◌, nat_le, nat_lt}
use Rattle.passes.specs.declared.model.Pass.{Pass}

-- a pass holds a dish from its beginning to its end, and for the t seconds of turning after it
abbrev pub holds : ℕ → Pass → ℕ → Bool
holds t p x = nat_le p.from x && nat_lt x (p.to + t)

-- how many passes of a list hold a dish in the second x
unfoldable pub busy : ℕ → List Pass → ℕ → ℕ
busy t [] x = 0
busy t (p ∷ ps) x = cond (holds t p x) 1 0 + busy t ps x
