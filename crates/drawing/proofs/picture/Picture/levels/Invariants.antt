use Rattle.drawing.specs.Shown.{view}
use Rattle.drawing.proofs.Levelling.{Levelled, bar_begin, bar_end}
use Rattle.drawing.proofs.picture.Picture.levels.Given as goal

-- the passes so far have levels, by their bars
abbrev pub invariant-loop-place : goal.invariant-loop-place
invariant-loop-place l = Levelled (bar_begin (view l.self)) (bar_end (view l.self)) l.self.plan.now l.place l.of_passes.items l.ends.items
