-- The unit in which passes are worth something. Assumes nothing: these are definitions.
use Rattle.std.specs.Prelude.{◌≡◌, ℕ, ◌%◌, ◌<◌, List, length}
use Rattle.passes.specs.declared.model.Pass.{Pass}
use Rattle.passes.specs.Rule.{nth}

-- each pass of a list is worth a multiple of the unit
abbrev pub WholeIn : (unit : ℕ) → List Pass → Type 0
WholeIn unit ps = (k : ℕ) → k < length ps → (nth ps k).worth % unit ≡ 0

-- no pass of a list is worth anything
abbrev pub WorthNothing : List Pass → Type 0
WorthNothing ps = (k : ℕ) → k < length ps → (nth ps k).worth ≡ 0
