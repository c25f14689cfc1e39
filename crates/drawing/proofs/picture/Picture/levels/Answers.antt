use Rattle.std.proofs.Common.{◌≡◌, ◌+◌, ◌++◌, ◌∷◌, [], ◌∙◌, ap, arith}
use Rattle.drawing.specs.declared.areas.Area.{Area}
use Rattle.drawing.specs.Shown.{view}
use Rattle.drawing.proofs.Levelling.{Taken, bar_begin, bar_end, put, skipped}
use Rattle.drawing.proofs.picture.Picture.levels.Goals as goal
use Rattle.drawing.proofs.picture.Picture.levels.Goals.{then-self-place-eq0+in_ok-level, else-self-place-eq0}

pub loop-place-preserved : goal.loop-place-preserved
loop-place-preserved c =
    let night = c.args.self.now in
    let from = bar_begin (view night) in
    let to = bar_end (view night) in
    let n = c.loop-place.place in
    let made = c.loop-place.of_passes.items in
    let ends = c.loop-place.ends.items in
    let pushed : c.push.new.self.items ≡ made ++ c.if-self-place-eq0.level ∷ [] = c.in_ok-push.ensures.items in
    elim c.if-self-place-eq0.branch [
      | then-self-place-eq0+in_ok-level w ↦
          let found = w.in_ok-level.ensures in
          let bar = w.bar_area.ensures.value in
          let begins = ap (λ (a : Area). a.x) bar in
          let ends_at = ap (λ (a : Area). a.x + a.width) bar in
          let taken : Taken (from n) (to n) ends w.take_level.new.ends.items w.in_ok-level.level =
          record {
            within = found.taken.0;
            now = found.taken.1 ∙ ends_at;
            free = λ lt. rw (← begins) (found.free lt);
            others = found.others;
            longer = found.more.0;
            little = found.more.1;
          } in
          rw (pushed, w.level-is, w.ends-is) (put from to night.plan.now n made ends c.loop-place.invariant w.take_level.new.ends.items w.in_ok-level.level (omega arith) taken)
      | else-self-place-eq0 w ↦
          rw (pushed, w.level-is, w.ends-is) (skipped from to night.plan.now n made ends c.loop-place.invariant w.if-self-place-eq0.false)
    ]
