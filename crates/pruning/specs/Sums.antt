-- Tables of what is left of a list, added up. Assumes nothing: these are definitions.
use Rattle.std.specs.Prelude.{◌≡◌, ℕ, ◌≤◌, List, length, drop, sum_by, slice_index}

-- from entry i on, entry k of a table is what the elements from place k on have together, by f; the last one stands behind all
abbrev pub AddsUp : {X : Type 0} → (X → ℕ) → List X → ℕ → (table : List ℕ) → Type 0
AddsUp f xs i table = (k : ℕ) → i ≤ k → k ≤ length xs → slice_index table k ≡ sum_by f (drop k xs)
