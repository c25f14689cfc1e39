-- Levels for the passes that aren't followed, one pass after the other. Assumes nothing.
use Rattle.std.proofs.Common.{◌≡◌, ℕ, ◌+◌, ◌<◌, ◌≤◌, List, [], ◌∷◌, ◌++◌, ◌⊎◌, inl, inr, length, refl, sym, ap, ◌∙◌, arith}
use Rattle.std.specs.Prelude.{slice_index}
use Rattle.std.proofs.lemmas.Bool.{cases_lt, cases_eq}
use Rattle.std.proofs.lemmas.List.{get_or_append_left, get_or_push, length-append}
use Rattle.passes.specs.Plans.{Plan}
use Rattle.passes.specs.Rule.{nth, says}
use Rattle.drawing.specs.Areas.{bar_area}
use Rattle.drawing.specs.Shown.{Shown}

-- where the bar of pass i begins, in whatever row
abbrev pub bar_begin : Shown → ℕ → ℕ
bar_begin shown i = (bar_area shown 0 (nth shown.passes i)).x

-- and where it ends
abbrev pub bar_end : Shown → ℕ → ℕ
bar_end shown i = (bar_area shown 0 (nth shown.passes i)).x + (bar_area shown 0 (nth shown.passes i)).width

-- the passes before place n have levels, where the bar of pass i goes from `from i` to `to i`; and for each level it is known where the last bar on it ends
pub record Levelled (from to : ℕ → ℕ) (ds : Plan) (n : ℕ) (levels ends : List ℕ) : Type 0 where
  pub each : length levels ≡ n
  pub some : 0 < length ends
  pub few : length ends ≤ n + 1
  pub below : (i : ℕ) → i < n → slice_index levels i < length ends
  pub ended : (i : ℕ) → i < n → says ds i ≡ 0 → to i ≤ slice_index ends (slice_index levels i)
  pub apart : (i j : ℕ) → i < j → j < n → says ds i ≡ 0 → says ds j ≡ 0 → slice_index levels i ≡ slice_index levels j → to i ≤ from j

-- a bar is put on the level k
pub record Taken (from to : ℕ) (ends after : List ℕ) (k : ℕ) : Type 0 where
  pub within : k < length after
  pub now : slice_index after k ≡ to
  pub free : k < length ends → slice_index ends k ≤ from
  pub others : (m : ℕ) → m < length ends → (m ≡ k → ⊥) → slice_index after m ≡ slice_index ends m
  pub longer : length ends ≤ length after
  pub little : length after ≤ length ends + 1

-- one more level in the list
module _ (levels : List ℕ) (k n : ℕ) (len : length levels ≡ n) where
  before : (i : ℕ) → i < n → slice_index (levels ++ k ∷ []) i ≡ slice_index levels i
  before i lt = get_or_append_left levels (k ∷ []) 0 i (omega arith)

  last : slice_index (levels ++ k ∷ []) n ≡ k
  last = get_or_push levels k 0 n len

  longer : length (levels ++ k ∷ []) ≡ n + 1
  longer = simp length-append (omega arith)

-- a place is one of the first n, or the last of n + 1
one_of : (i n : ℕ) → i < n + 1 → (i < n) ⊎ (i ≡ n)
one_of i n lt =
    elim (cases_lt i n) [
      | inl less ↦ inl less
      | inr more ↦ inr (omega arith)
    ]

module _ (from to : ℕ → ℕ) (ds : Plan) (n : ℕ) (levels ends : List ℕ) (h : Levelled from to ds n levels ends) where
  -- a pass that isn't followed is put on a level
  module _ (after : List ℕ) (k : ℕ) (lasts : from n ≤ to n) (t : Taken (from n) (to n) ends after k) where
    still_ended : (i m : ℕ) → i < n → says ds i ≡ 0 → slice_index levels i ≡ m → to i ≤ slice_index after m
    still_ended i m lt left on =
        let ended : to i ≤ slice_index ends m = rw on at (h.ended i lt left) in
        let there : m < length ends = rw on at (h.below i lt) in
        elim (cases_eq m k) [
          | inl same ↦
              let free : slice_index ends m ≤ from n = rw (← same) at (t.free (rw (← same) there)) in
              let now : slice_index after m ≡ to n = rw same t.now in
              omega arith
          | inr other ↦ rw (t.others m there other) ended
        ]

    ended_after : (i : ℕ) → i < n + 1 → says ds i ≡ 0 → to i ≤ slice_index after (slice_index (levels ++ k ∷ []) i)
    ended_after i lt left =
        elim (one_of i n lt) [
          | inl less ↦ rw (before levels k n h.each i less) (still_ended i (slice_index levels i) less left refl)
          | inr same ↦ rw (same, last levels k n h.each) (omega (arith, t.now))
        ]

    apart_after :
        (i j : ℕ) → i < j → j < n + 1 → says ds i ≡ 0 → says ds j ≡ 0 → slice_index (levels ++ k ∷ []) i ≡ slice_index (levels ++ k ∷ []) j → to i ≤ from j
    apart_after i j lt within left_i left_j on =
        let first = before levels k n h.each i (omega arith) in
        elim (one_of j n within) [
          | inl less ↦ h.apart i j lt less left_i left_j (sym first ∙ on ∙ before levels k n h.each j less)
          | inr same ↦
              let level : slice_index levels i ≡ k = sym first ∙ on ∙ ap (slice_index (levels ++ k ∷ [])) same ∙ last levels k n h.each in
              let ended : to i ≤ slice_index ends k = rw level at (h.ended i (omega arith) left_i) in
              let there : k < length ends = rw level at (h.below i (omega arith)) in
              rw same (omega (arith, t.free there))
        ]

    below_after : (i : ℕ) → i < n + 1 → slice_index (levels ++ k ∷ []) i < length after
    below_after i lt =
        elim (one_of i n lt) [
          | inl less ↦ rw (before levels k n h.each i less) (omega (arith, h.below i less, t.longer))
          | inr same ↦ rw (same, last levels k n h.each) t.within
        ]

    pub put : Levelled from to ds (n + 1) (levels ++ k ∷ []) after
    put =
        record {
          each = longer levels k n h.each;
          some = omega (arith, h.some, t.longer);
          few = omega (arith, h.few, t.little);
          below = below_after;
          ended = ended_after;
          apart = apart_after;
        }

  -- a pass that is followed needs no level
  module _ (followed : says ds n ≡ 0 → ⊥) where
    ended_still : (i : ℕ) → i < n + 1 → says ds i ≡ 0 → to i ≤ slice_index ends (slice_index (levels ++ 0 ∷ []) i)
    ended_still i lt left =
        elim (one_of i n lt) [
          | inl less ↦ rw (before levels 0 n h.each i less) (h.ended i less left)
          | inr same ↦ absurd (followed (ap (says ds) (sym same) ∙ left))
        ]

    apart_still :
        (i j : ℕ) → i < j → j < n + 1 → says ds i ≡ 0 → says ds j ≡ 0 → slice_index (levels ++ 0 ∷ []) i ≡ slice_index (levels ++ 0 ∷ []) j → to i ≤ from j
    apart_still i j lt within left_i left_j on =
        elim (one_of j n within) [
          | inl less ↦ h.apart i j lt less left_i left_j (sym (before levels 0 n h.each i (omega arith)) ∙ on ∙ before levels 0 n h.each j less)
          | inr same ↦ absurd (followed (ap (says ds) (sym same) ∙ left_j))
        ]

    below_still : (i : ℕ) → i < n + 1 → slice_index (levels ++ 0 ∷ []) i < length ends
    below_still i lt =
        elim (one_of i n lt) [
          | inl less ↦ rw (before levels 0 n h.each i less) (h.below i less)
          | inr same ↦ rw (same, last levels 0 n h.each) h.some
        ]

    pub skipped : Levelled from to ds (n + 1) (levels ++ 0 ∷ []) ends
    skipped =
        record {
          each = longer levels 0 n h.each;
          some = h.some;
          few = omega (arith, h.few);
          below = below_still;
          ended = ended_still;
          apart = apart_still;
        }
