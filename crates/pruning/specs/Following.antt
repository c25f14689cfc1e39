-- Which pass a dish can follow after another. Assumes nothing: a definition, and that any two proofs of it are the same.
use Rattle.std.specs.Prelude.{ℕ, ◌<◌, List, [], length, take, slice_index, slice_index_or}
use Rattle.passes.specs.declared.model.Pass.{Pass}
use Rattle.capacity.specs.Order.{Successors, Successors-prop}

-- each dish has in front of its list, for each pass, the first pass that it can follow after it
abbrev pub AllSuccessors : (turns : List ℕ) → List Pass → (after : List (List ℕ)) → Type 0
AllSuccessors turns ps after = (d : ℕ) → d < length turns → Successors (slice_index turns d) ps (take (length ps) (slice_index_or after d []))

-- any two proofs that each dish has such a list are the same
pub AllSuccessors-prop : (turns : List ℕ) (ps : List Pass) (after : List (List ℕ)) → IsProp (AllSuccessors turns ps after)
AllSuccessors-prop turns ps after a b = λ t d l. Successors-prop (slice_index turns d) ps (take (length ps) (slice_index_or after d [])) (a d l) (b d l) t
