use Rattle.std.proofs.Common.{◌≡◌, ℕ, ◌<◌, ◌≤◌, All, vec_len, slice_index}
use Rattle.effort.specs.Shapes.{BeginOf}
use Rattle.effort.proofs.cases.random_begins.Given as goal

-- as many begins as turns, each of which may be drawn for its place, and none of which is later than the last that may be
abbrev pub invariant-loop-place : goal.invariant-loop-place
invariant-loop-place l =
    (vec_len l.begins ≡ l.place) × (l.place-end ≤ 48) × ((i : ℕ) → i < l.place → BeginOf l.shape i (slice_index l.begins.items i)) × All (λ x. x ≤ l.last) l.begins.items
