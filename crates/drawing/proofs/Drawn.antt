-- The letter of each pass stands in the row of its lane, and in no other row. Assumes nothing.
use Rattle.std.proofs.Common.{◌≡◌, ℕ, zero, suc, ◌+◌, ◌<◌, ◌≤◌, ◌≢◌, Bool, true, false, cond, ◌==◌, List, [], ◌∷◌, length, refl, sym, ap, ◌∙◌, arith, ◌⊎◌, inl, inr, eq-eqb}
use Rattle.std.specs.Prelude.{slice_index}
use Rattle.std.specs.List.{fold}
use Rattle.std.proofs.lemmas.Bool.{cases_Bool, eqb-true}
use Rattle.std.proofs.lemmas.List.Sums.{count_by-le-length}
use Rattle.std.proofs.lemmas.Bool.Decides.{nat_tests}
use Rattle.std.proofs.lemmas.List.FromFn.{get_or-map-range_with_len}
use Rattle.passes.specs.declared.model.Pass.{Pass}
use Rattle.passes.specs.Plans.{Plan}
use Rattle.passes.specs.Rule.{says}
use Rattle.drawing.specs.declared.bars.Bar.{Bar}
use Rattle.drawing.specs.declared.scale.Scale.{Scale}
use Rattle.drawing.specs.Columns.{columns, place_on, scale_of}
use Rattle.drawing.specs.Rows.{letter, in_lane, begin_column, bar_from, bars_from, over, cell, bars_of, row}
use Rattle.drawing.specs.Shown.{Shown}
use Rattle.drawing.specs.Turning.{turning_after}
use Rattle.drawing.specs.Timelines.{LettersInTheirRows}
use Rattle.drawing.proofs.LaneBars.{in_lane-cons}

-- ---- one bar

begin_after : (c free left k : ℕ) → left ≡ suc k → free + left ≤ columns → (free ≤ begin_column c free left) × (begin_column c free left + left ≤ columns)
unfolding begin_column
begin_after c free left k some room = (omega arith, omega arith)

over_before : (turning : ℕ) (s : Scale) (i b : ℕ) (p : Pass) (c under : ℕ) → c < b → over c under (bar_from turning s i b p) ≡ under
unfolding over bar_from
over_before turning s i b p c under lt = grind (arith, nat_tests)

over_begin : (turning : ℕ) (s : Scale) (i b : ℕ) (p : Pass) (under : ℕ) → over b under (bar_from turning s i b p) ≡ letter i
unfolding over bar_from
over_begin turning s i b p under = grind (arith, nat_tests)

-- what stands in a column after a bar: what stood there, a dot, or the bar's letter
abbrev Stands : ℕ → ℕ → ℕ → Type 0
Stands x under i = (x ≡ under) ⊎ ((x ≡ 46) ⊎ (x ≡ letter i))

picks : (p q r : Bool) (under i : ℕ) → Stands (cond p under (cond q (letter i) (cond r 46 under))) under i
picks true q r under i = inl refl
picks false true r under i = inr (inr refl)
picks false false true under i = inr (inl refl)
picks false false false under i = inl refl

over_stands : (turning : ℕ) (s : Scale) (i b : ℕ) (p : Pass) (c under : ℕ) → Stands (over c under (bar_from turning s i b p)) under i
unfolding over bar_from
over_stands turning s i b p c under = picks _ _ _ under i

-- ---- all bars of a lane

module _ (turning : ℕ → ℕ) (s : Scale) (d : ℕ) where
  -- a bar, and those of the passes after it
  abbrev with_bar : (free i : ℕ) → Pass → List Pass → (e : ℕ) → Plan → List Bar
  with_bar free i p ps e ds =
      let b : ℕ = begin_column (place_on columns s p.from) free (in_lane d (e ∷ ds)) in
      bar_from (turning i) s i b p ∷ bars_from turning s d (suc b) (suc i) ps ds

  made : (free i : ℕ) (p : Pass) (ps : List Pass) (e : ℕ) (ds : Plan) → (e == d) ≡ true → bars_from turning s d free i (p ∷ ps) (e ∷ ds) ≡ with_bar free i p ps e ds
  unfolding bars_from
  made free i p ps e ds its = rw its refl

  passed_by :
      (free i : ℕ) (p : Pass) (ps : List Pass) (e : ℕ) (ds : Plan) → (e == d) ≡ false →
      bars_from turning s d free i (p ∷ ps) (e ∷ ds) ≡ bars_from turning s d free (suc i) ps ds
  unfolding bars_from
  passed_by free i p ps e ds other = rw other refl

  one_left : (e : ℕ) (ds : Plan) → (e == d) ≡ true → in_lane d (e ∷ ds) ≡ suc (in_lane d ds)
  one_left e ds its = in_lane-cons d e ds ∙ rw its (omega arith)

  none_left : (e : ℕ) (ds : Plan) → (e == d) ≡ false → in_lane d (e ∷ ds) ≡ in_lane d ds
  none_left e ds other = in_lane-cons d e ds ∙ rw other (omega arith)

  -- bars begin at the first free column or later, so they leave what stands before it
  later :
      (c under free i : ℕ) (ps : List Pass) (ds : Plan) → c < free → free + in_lane d ds ≤ columns →
      fold (over c) under (bars_from turning s d free i ps ds) ≡ under
  unfolding bars_from
  later c under free i [] ds lt room = refl
  later c under free i (p ∷ ps) [] lt room = refl
  later c under free i (p ∷ ps) (e ∷ ds) lt room =
      elim (cases_Bool (e == d)) [
        | inl its ↦
            let b = begin_column (place_on columns s p.from) free (in_lane d (e ∷ ds)) in
            let one = one_left e ds its in
            let at = begin_after (place_on columns s p.from) free (in_lane d (e ∷ ds)) (in_lane d ds) one room in
            rw (made free i p ps e ds its)
            (later c (over c under (bar_from (turning i) s i b p)) (suc b) (suc i) ps ds (omega arith) (omega arith) ∙ over_before (turning i) s i b p c under (omega arith))
        | inr other ↦ rw (passed_by free i p ps e ds other) (later c under free (suc i) ps ds lt (omega (arith, none_left e ds other)))
      ]

  -- a pass that the plan gives the lane has a column in which its letter stands, whatever stood there
  drawn :
      (free i : ℕ) (ps : List Pass) (ds : Plan) (j : ℕ) →
      j < length ps → length ds ≡ length ps → says ds j ≡ d → free + in_lane d ds ≤ columns →
      (c : ℕ) × (c < columns) × ((under : ℕ) → fold (over c) under (bars_from turning s d free i ps ds) ≡ letter (i + j))
  drawn free i [] ds j lt len is room = absurd (omega arith)
  drawn free i (p ∷ ps) [] j lt len is room = absurd (omega arith)
  drawn free i (p ∷ ps) (e ∷ ds) zero lt len is room =
      let its = eq-eqb e d is in
      let b = begin_column (place_on columns s p.from) free (in_lane d (e ∷ ds)) in
      let one = one_left e ds its in
      let at = begin_after (place_on columns s p.from) free (in_lane d (e ∷ ds)) (in_lane d ds) one room in
      let same : i + 0 ≡ i = omega arith in (
        b,
        omega arith,
        λ under. rw (
          made free i p ps e ds its,
          later b (over b under (bar_from (turning i) s i b p)) (suc b) (suc i) ps ds (omega arith)
              (omega arith),
          same,
        ) (over_begin (turning i) s i b p under),
      )
  drawn free i (p ∷ ps) (e ∷ ds) (suc j) lt len is room =
      let next : suc i + j ≡ i + suc j = omega arith in
      elim (cases_Bool (e == d)) [
        | inl its ↦
            let b = begin_column (place_on columns s p.from) free (in_lane d (e ∷ ds)) in
            let one = one_left e ds its in
            let at = begin_after (place_on columns s p.from) free (in_lane d (e ∷ ds)) (in_lane d ds) one room in
            let r = drawn (suc b) (suc i) ps ds j (omega arith) (omega arith) is (omega arith) in
            (r.0, r.1, λ under. rw (made free i p ps e ds its) (r.2 (over r.0 under (bar_from (turning i) s i b p)) ∙ ap letter next))
        | inr other ↦
            let r = drawn free (suc i) ps ds j (omega arith) (omega arith) is (omega (arith, none_left e ds other)) in
            (r.0, r.1, λ under. rw (passed_by free i p ps e ds other) (r.2 under ∙ ap letter next))
      ]

  -- what may stand in a column: what stood there, a dot, or the letter of a pass that the plan gives the lane
  abbrev Among : (x under i : ℕ) → List Pass → Plan → Type 0
  Among x under i ps ds = (x ≡ under) ⊎ ((x ≡ 46) ⊎ ((j : ℕ) × (j < length ps) × (says ds j ≡ d) × (x ≡ letter (i + j))))

  among_later : (x under i : ℕ) (p : Pass) (ps : List Pass) (e : ℕ) (ds : Plan) → Among x under (suc i) ps ds → Among x under i (p ∷ ps) (e ∷ ds)
  among_later x under i p ps e ds (inl same) = inl same
  among_later x under i p ps e ds (inr (inl dot)) = inr (inl dot)
  among_later x under i p ps e ds (inr (inr r)) =
      let next : suc i + r.0 ≡ i + suc r.0 = omega arith in
      inr (inr (suc r.0, omega arith, r.2, r.3 ∙ ap letter next))

  among_over :
      (x below under i : ℕ) (p : Pass) (ps : List Pass) (e : ℕ) (ds : Plan) →
      (e == d) ≡ true → Stands below under i → Among x below (suc i) ps ds → Among x under i (p ∷ ps) (e ∷ ds)
  among_over x below under i p ps e ds its (inl kept) (inl same) = inl (same ∙ kept)
  among_over x below under i p ps e ds its (inr (inl dot)) (inl same) = inr (inl (same ∙ dot))
  among_over x below under i p ps e ds its (inr (inr mine)) (inl same) =
      let here : i ≡ i + 0 = omega arith in
      inr (inr (0, omega arith, eqb-true e d its, same ∙ mine ∙ ap letter here))
  among_over x below under i p ps e ds its stands (inr (inl dot)) = inr (inl dot)
  among_over x below under i p ps e ds its stands (inr (inr r)) = among_later x under i p ps e ds (inr (inr r))

  only : (c under free i : ℕ) (ps : List Pass) (ds : Plan) → Among (fold (over c) under (bars_from turning s d free i ps ds)) under i ps ds
  unfolding bars_from
  only c under free i [] ds = inl refl
  only c under free i (p ∷ ps) [] = inl refl
  only c under free i (p ∷ ps) (e ∷ ds) =
      elim (cases_Bool (e == d)) [
        | inl its ↦
            let b = begin_column (place_on columns s p.from) free (in_lane d (e ∷ ds)) in
            let below = over c under (bar_from (turning i) s i b p) in
            rw (made free i p ps e ds its)
            (among_over _ below under i p ps e ds its (over_stands (turning i) s i b p c under) (only c below (suc b) (suc i) ps ds))
        | inr other ↦ rw (passed_by free i p ps e ds other) (among_later _ under i p ps e ds (only c under free (suc i) ps ds))
      ]

-- ---- the row

letter_same : (i j : ℕ) → i < 48 → j < 48 → letter i ≡ letter j → i ≡ j
unfolding letter
letter_same i j lt lt_j same = grind (arith, nat_tests)

letter_ink : (i : ℕ) → (letter i ≢ 32) × (letter i ≢ 46)
unfolding letter
letter_ink i = (grind (arith, nat_tests), grind (arith, nat_tests))

in_lane-le : (d : ℕ) (ds : Plan) → in_lane d ds ≤ length ds
unfolding in_lane
in_lane-le d ds = count_by-le-length (λ e. e == d) ds

row_at : (shown : Shown) (d c : ℕ) → c < columns → slice_index (row shown d) c ≡ cell (bars_of shown d) c
unfolding row
row_at shown d c lt = get_or-map-range_with_len (cell (bars_of shown d)) 0 columns c c 0 lt (omega arith)

module _ (shown : Shown) (few : length shown.passes ≤ 48) (planned : length shown.plan ≡ length shown.passes) where
  its_letter : (i d : ℕ) → i < length shown.passes → says shown.plan i ≡ d → (c : ℕ) × (c < columns) × (slice_index (row shown d) c ≡ letter i)
  its_letter i d lt is =
      let r = drawn (turning_after shown) (scale_of shown.passes) d 0 0 shown.passes shown.plan i lt planned is (omega (arith, in_lane-le d shown.plan)) in
      let same : 0 + i ≡ i = omega arith in
      (r.0, r.1, row_at shown d r.0 r.1 ∙ r.2 32 ∙ ap letter same)

  its_lane : (i d c : ℕ) → i < length shown.passes → c < columns → slice_index (row shown d) c ≡ letter i → says shown.plan i ≡ d
  its_lane i d c lt column stands =
      let is : cell (bars_of shown d) c ≡ letter i = sym (row_at shown d c column) ∙ stands in
      elim (only (turning_after shown) (scale_of shown.passes) d c 32 0 0 shown.passes shown.plan) [
        | inl blank ↦ absurd ((letter_ink i).0 (sym is ∙ blank))
        | inr (inl dot) ↦ absurd ((letter_ink i).1 (sym is ∙ dot))
        | inr (inr r) ↦
            let place : 0 + r.0 ≡ r.0 = omega arith in
            let same : i ≡ r.0 = letter_same i r.0 (omega arith) (omega arith) (sym is ∙ r.3 ∙ ap letter place) in
            ap (says shown.plan) same ∙ r.2
      ]

  pub letters_in_rows : LettersInTheirRows shown
  letters_in_rows i lt d = (λ h. its_lane i d h.0 lt h.1 h.2, λ is. its_letter i d lt is)
