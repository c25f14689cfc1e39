-- Passes in order of time. Assumes nothing: these are definitions, and of one it is proved that any two proofs of it are the same.
use Rattle.std.specs.Prelude.{◌≡◌, ℕ, ◌+◌, ◌<◌, ◌≤◌, List, length, slice_index}
use Rattle.passes.specs.declared.model.Pass.{Pass}
use Rattle.passes.specs.Rule.{nth}
use Rattle.std.proofs.Props.{props}

-- each pass of a list ends after it begins
abbrev pub EachEnds : List Pass → Type 0
EachEnds ps = (i : ℕ) → i < length ps → (nth ps i).from < (nth ps i).to

-- each pass of a list ends after it begins, and none begins before one that stands before it
pub record InTime (ps : List Pass) : Type 0 where
  pub ends : EachEnds ps
  pub order : (i j : ℕ) → i ≤ j → j < length ps → (nth ps i).from ≤ (nth ps j).from

-- any two proofs that passes are in order of time are the same
pub InTime-prop : (ps : List Pass) → IsProp (InTime ps)
InTime-prop ps a b =
    let ends : IsProp (EachEnds ps) = Prim.hlevel props in
    let order : IsProp ((i j : ℕ) → i ≤ j → j < length ps → (nth ps i).from ≤ (nth ps j).from) = Prim.hlevel props in
    λ t. record { ends = ends a.ends b.ends t; order = order a.order b.order t }

-- r is the first pass of a list that begins in the second x or later, or the number of passes if none does
pub record FirstFrom (ps : List Pass) (x r : ℕ) : Type 0 where
  pub within : r ≤ length ps
  pub before : (k : ℕ) → k < r → (nth ps k).from < x
  pub after : (k : ℕ) → r ≤ k → k < length ps → x ≤ (nth ps k).from

-- entry i of a list is the first pass that a dish that takes t seconds to turn can follow after pass i: the first that begins late enough
pub record Successors (t : ℕ) (ps : List Pass) (after : List ℕ) : Type 0 where
  pub one_each : length after ≡ length ps
  pub each : (i : ℕ) → i < length ps → FirstFrom ps ((nth ps i).to + t) (slice_index after i)

-- any two proofs that a pass is the first from a second on are the same
pub FirstFrom-prop : (ps : List Pass) (x r : ℕ) → IsProp (FirstFrom ps x r)
FirstFrom-prop ps x r a b =
    let within : IsProp (r ≤ length ps) = Prim.hlevel props in
    let before : IsProp ((k : ℕ) → k < r → (nth ps k).from < x) = Prim.hlevel props in
    let after : IsProp ((k : ℕ) → r ≤ k → k < length ps → x ≤ (nth ps k).from) = Prim.hlevel props in
    λ t. record { within = within a.within b.within t; before = before a.before b.before t; after = after a.after b.after t }

-- any two proofs that a list has each pass's successor are the same
pub Successors-prop : (t : ℕ) (ps : List Pass) (after : List ℕ) → IsProp (Successors t ps after)
Successors-prop t ps after a b =
    let one_each : IsProp (length after ≡ length ps) = Prim.hlevel props in
    λ u. record { one_each = one_each a.one_each b.one_each u; each = λ i l. FirstFrom-prop ps ((nth ps i).to + t) (slice_index after i) (a.each i l) (b.each i l) u }
