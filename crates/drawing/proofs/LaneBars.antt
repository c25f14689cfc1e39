-- The bars of a lane, one more at a time. Assumes nothing.
use Rattle.std.proofs.Common.{◌≡◌, ℕ, suc, ◌+◌, ◌-◌, ◌<◌, ◌≤◌, true, false, cond, ◌==◌, List, [], ◌∷◌, ◌++◌, length, drop, refl, sym, ◌∙◌, add-one, append_assoc, arith, drop-cons, eq-eqb, ne_eqb, min, max, ◌≢◌}
use Rattle.std.proofs.lemmas.List.Sums.{sum_by-cons, sum_by-drop_more}
use Rattle.passes.specs.declared.model.Pass.{Pass}
use Rattle.passes.specs.Plans.{Plan}
use Rattle.passes.specs.Rule.{nth, says, no_pass}
use Rattle.drawing.specs.declared.bars.Bar.{Bar}
use Rattle.drawing.specs.declared.scale.Scale.{Scale}
use Rattle.drawing.specs.Columns.{columns, place_on}
use Rattle.drawing.specs.Rows.{in_lane, begin_column, bar_from, bars_from}

pub in_lane-cons : (d e : ℕ) (ds : Plan) → in_lane d (e ∷ ds) ≡ cond (e == d) 1 0 + in_lane d ds
unfolding in_lane
in_lane-cons d e ds = sum_by-cons (λ x. cond (x == d) 1 0) e ds

pub in_lane-drop : (d : ℕ) (ds : Plan) (i : ℕ) → i < length ds → in_lane d (drop i ds) ≡ cond (says ds i == d) 1 0 + in_lane d (drop (i + 1) ds)
unfolding in_lane
in_lane-drop d ds i lt = sum_by-drop_more (λ x. cond (x == d) 1 0) ds i 0 lt

module _ (turning : ℕ → ℕ) (s : Scale) (d free i : ℕ) (ps : List Pass) (ds : Plan) (in_ps : i < length ps) (in_ds : i < length ds) where
  -- the bars of the passes from pass i on, where the plan gives pass i the lane
  pub bars-yes :
      (b : ℕ) → (says ds i == d) ≡ true → b ≡ begin_column (place_on columns s (nth ps i).from) free (in_lane d (drop i ds))
      → bars_from turning s d free i (drop i ps) (drop i ds) ≡ bar_from (turning i) s i b (nth ps i) ∷ bars_from turning s d (b + 1) (i + 1) (drop (i + 1) ps) (drop (i + 1) ds)
  unfolding bars_from
  bars-yes b its begins =
      rw (begins, add-one, add-one, drop-cons ps i no_pass, drop-cons ds i 0, its) refl

  -- and where it doesn't
  pub bars-no : (says ds i == d) ≡ false → bars_from turning s d free i (drop i ps) (drop i ds) ≡ bars_from turning s d free (i + 1) (drop (i + 1) ps) (drop (i + 1) ds)
  unfolding bars_from
  bars-no other = rw (add-one, drop-cons ps i no_pass, drop-cons ds i 0, other) refl

  -- one more bar is made
  pub placed :
      (all made : List Bar) (left b : ℕ) →
      all ≡ made ++ bars_from turning s d free i (drop i ps) (drop i ds) → left ≡ in_lane d (drop i ds) → free + left ≤ columns →
      says ds i ≡ d → b ≡ min (max (place_on columns s (nth ps i).from) free) (columns - left) →
      (all ≡ (made ++ bar_from (turning i) s i b (nth ps i) ∷ []) ++ bars_from turning s d (b + 1) (i + 1) (drop (i + 1) ps) (drop (i + 1) ds))
      × (left - 1 ≡ in_lane d (drop (i + 1) ds))
      × ((b + 1) + (left - 1) ≤ columns)
  unfolding begin_column
  placed all made left b so_far many room its begins =
      let test : (says ds i == d) ≡ true = eq-eqb (says ds i) d its in
      let more : in_lane d (drop i ds) ≡ suc (in_lane d (drop (i + 1) ds)) = in_lane-drop d ds i in_ds ∙ rw test (omega arith) in
      let at : b ≡ begin_column (place_on columns s (nth ps i).from) free (in_lane d (drop i ds)) = rw (← many) begins in (
        rw (so_far, bars-yes b test at) (sym (append_assoc made (bar_from (turning i) s i b (nth ps i) ∷ []) _)),
        omega arith,
        omega arith,
      )

  -- none is made
  pub passed :
      (all made : List Bar) (left : ℕ) →
      all ≡ made ++ bars_from turning s d free i (drop i ps) (drop i ds) → left ≡ in_lane d (drop i ds) → says ds i ≢ d →
      (all ≡ made ++ bars_from turning s d free (i + 1) (drop (i + 1) ps) (drop (i + 1) ds)) × (left ≡ in_lane d (drop (i + 1) ds))
  passed all made left so_far many other =
      let test : (says ds i == d) ≡ false = ne_eqb (says ds i) d other in
      let more : in_lane d (drop i ds) ≡ in_lane d (drop (i + 1) ds) = in_lane-drop d ds i in_ds ∙ rw test (omega arith) in
      (rw (so_far, bars-no test) refl, many ∙ more)
