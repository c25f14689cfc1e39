use Rattle.std.proofs.Common.{ℕ, ◌≡◌, ◌<◌, ◌≤◌, ◌-◌, ◌++◌, ◌∷◌, ◌∙◌, List, [], length, drop, min, max, refl, sym, ap, arith}
use Rattle.std.specs.Global.{Vec}
use Rattle.std.proofs.lemmas.Bool.Decides.{nat_tests}
use Rattle.std.proofs.lemmas.List.{append-nil, length-drop, nil_from_length}
use Rattle.std.proofs.lemmas.List.Elements.{All-push}
use Rattle.passes.specs.declared.model.Pass.{Pass}
use Rattle.passes.specs.Plans.{Plan}
use Rattle.passes.specs.Rule.{nth}
use Rattle.drawing.specs.declared.bars.Bar.{Bar}
use Rattle.drawing.specs.declared.scale.Scale.{Scale}
use Rattle.drawing.specs.Columns.{place_on, scale_of}
use Rattle.drawing.specs.Rows.{bar_from, bars_from, bars_of}
use Rattle.drawing.specs.Shown.{view}
use Rattle.drawing.specs.Turning.{turning_after}
use Rattle.drawing.proofs.LaneBars.{in_lane-drop, placed, passed}
use Rattle.drawing.proofs.picture.Picture.bars.Goals as goal
use Rattle.drawing.proofs.picture.Picture.bars.Goals.{then-self-place+in_ok-push, else-self-place}

pub bar_from-requires-clause-free : goal.bar_from-requires-clause-free
bar_from-requires-clause-free c =
    let more = in_lane-drop c.args.lane c.args.self.now.plan.now c.loop-place.place (omega arith) in
    grind (arith, nat_tests, more, c.loop-place.invariant)

pub overflow_sub-left-then-self-place : goal.overflow_sub-left-then-self-place
overflow_sub-left-then-self-place c =
    let more = in_lane-drop c.args.lane c.args.self.now.plan.now c.loop-place.place (omega arith) in
    grind (arith, nat_tests, more, c.loop-place.invariant)

pub loop-place-preserved : goal.loop-place-preserved
loop-place-preserved c =
    let shown = c.args.self.now in
    let scale = scale_of shown.passes.now in
    let free = c.loop-place.free in
    let i = c.loop-place.place in
    let left = c.loop-place.left in
    let made = c.loop-place.bars.items in
    let inv = c.loop-place.invariant in
    let in_ps : i < length shown.passes.now = omega arith in
    let in_ds : i < length shown.plan.now = omega arith in
    elim c.if-self-place.branch [
      | then-self-place+in_ok-push w ↦
          let b = w.min-begin.result in
          let column : w.place-column.result ≡ place_on 64 scale (nth shown.passes.now i).from =
          w.place-column.ensures ∙ ap (λ (s : Scale). place_on 64 s (nth shown.passes.now i).from) c.of-scale.ensures.value in
          let begins : b ≡ min (max (place_on 64 scale (nth shown.passes.now i).from) free) (64 - left) =
          w.min-begin.ensures ∙ ap (λ (m : ℕ). min m (64 - left)) (w.max.ensures ∙ ap (λ (k : ℕ). max k free) column) in
          let p = placed (turning_after (view shown)) scale c.args.lane free i shown.passes.now shown.plan.now in_ps in_ds (bars_of (view shown) c.args.lane) made left b inv.0 inv.1 inv.2 w.if-self-place.true begins in
          let pushed : c.if-self-place.bars.items ≡ made ++ w.bar_from.result ∷ [] = ap (λ (v : Vec Bar). v.items) w.bars-is ∙ w.in_ok-push.ensures.items in
          let items : c.if-self-place.bars.items ≡ made ++ bar_from (turning_after (view shown) i) scale i b (nth shown.passes.now i) ∷ [] =
          pushed ∙ ap (λ (bar : Bar). made ++ bar ∷ []) w.bar_from.ensures.value in
          (rw (items, w.free-is) p.0, rw w.left-is p.1, rw (w.free-is, w.left-is) p.2, rw pushed (All-push (λ bar. bar.letter < 128) made w.bar_from.result inv.3 w.bar_from.ensures.ascii))
      | else-self-place w ↦
          let p = passed (turning_after (view shown)) scale c.args.lane free i shown.passes.now shown.plan.now in_ps in_ds (bars_of (view shown) c.args.lane) made left inv.0 inv.1 w.if-self-place.false in
          (rw (w.bars-is, w.free-is) p.0, rw w.left-is p.1, rw (w.free-is, w.left-is) inv.2, rw w.bars-is inv.3)
    ]

past_end : (turning : ℕ → ℕ) (s : Scale) (d free i : ℕ) (ps : List Pass) (ds : Plan) → length ps ≤ i → bars_from turning s d free i (drop i ps) (drop i ds) ≡ []
unfolding bars_from
past_end turning s d free i ps ds le = let none : drop i ps ≡ [] = nil_from_length (drop i ps) (omega (arith, length-drop i ps)) in rw none refl

pub returns-clause-value : goal.returns-clause-value
returns-clause-value c =
    let shown = c.args.self.now in
    let none = past_end (turning_after (view shown)) (scale_of shown.passes.now) c.args.lane c.loop-place.free c.loop-place.place shown.passes.now shown.plan.now c.loop-place-test.false in
    sym (c.loop-place.invariant.0 ∙ rw none (append-nil c.loop-place.bars.items))
