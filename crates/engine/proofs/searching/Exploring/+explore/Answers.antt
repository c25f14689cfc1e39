use Rattle.std.proofs.Common.{◌≡◌, ◌<◌, ap, ◌∙◌, inl, arith, rules}
use Rattle.engine.specs.Problems.{in_order}
use Rattle.engine.proofs.Ways.{came_more, came_front, front_kept}
use Rattle.engine.proofs.Trying.{improved_more, tried_refused, tried_more, tried_all, known_more}
use Rattle.engine.proofs.searching.Exploring.+explore.Goals as goal
use Rattle.engine.proofs.searching.Exploring.+explore.Goals.{in-Some, in_default}

pub explore-requires : goal.explore-requires
explore-requires g t c κs within =
    let a = c.args in
    let l = c.loop-turn in
    let v = g.P.Decisions.moves a.self.now.problem.now in
    let came = came_front v a.stage a.state a.made.now l.made (omega (arith, c.requires.came.a_place_each)) l.invariant.same_front c.requires.came in
    let more = came_more v (g.met.P.Decisions.move_laws a.self.now.problem.now c.requires.valid) a.stage a.state l.made c.choice_at-choice.result c.in-Some.next (omega (arith, c.requires.came.within, c.stages.ensures, c.if-stage-stages.false)) came (search rules) in
    let same = l.invariant.same_problem in
    let stages = ap (λ q. (g.P.Decisions.moves q.now).stages) same in
    (omega (arith, c.decreases, stages, c.requires.came.within, c.stages.ensures, c.if-stage-stages.false), (within.0, (within.1, (rw same c.requires.valid, (rw same more, (rw same l.invariant.improved.holds, rw same l.invariant.known))))))

pub loop-turn-preserved : goal.loop-turn-preserved
loop-turn-preserved g t c =
    let a = c.args in
    let l = c.loop-turn in
    let p = a.self.now.problem.now in
    let m = in_order (g.P.Decisions.moves p) (g.P.Problem.ahead p) in
    elim c.match-step.branch [
      | in-Some w ↦
          let told = w.explore.ensures in
          let better = rw l.invariant.same_problem at told.improved in
          rw (w.self-is, w.made-is) (record {
            same_problem = told.same_problem ∙ l.invariant.same_problem;
            same_room = told.same_room ∙ l.invariant.same_room;
            same_best = told.same_best ∙ l.invariant.same_best;
            same_table = told.same_table ∙ l.invariant.same_table;
            improved = improved_more m (g.met.P.Problem.order_laws p c.requires.valid) a.self.now.best.now l.self.best.now w.explore.new.self.best.now a.self.now.room.now l.self.room.now w.explore.new.self.room.now l.invariant.improved better;
            known = rw l.invariant.same_problem at told.known;
            tried = tried_more m a.stage a.state c.min-first.result l.turn w.in-Some.next (search rules) better (rw l.invariant.same_problem at told.unbeaten) l.invariant.tried;
            counted = told.counted (inl l.invariant.counted);
            same_front = front_kept a.stage a.made.now l.made w.explore.new.made c.choice_at-choice.result told.same_front l.invariant.same_front;
          })
      | in_default w ↦ rw (w.self-is, w.made-is) (record {
        same_problem = l.invariant.same_problem;
        same_room = l.invariant.same_room;
        same_best = l.invariant.same_best;
        same_table = l.invariant.same_table;
        improved = l.invariant.improved;
        known = l.invariant.known;
        tried = tried_refused m a.stage a.state c.min-first.result l.turn l.self.best.now (search rules) l.invariant.tried;
        same_front = l.invariant.same_front;
        counted = search rules;
      })
    ]

pub returns : goal.returns
returns g t c =
    let a = c.args in
    let l = c.loop-turn in
    let p = a.self.now.problem.now in
    let m = in_order (g.P.Decisions.moves p) (g.P.Problem.ahead p) in
    let end : l.turn ≡ m.moves.choices a.stage = omega arith in
    let before : a.stage < m.moves.stages = omega (arith, c.requires.came.within, c.stages.ensures, c.if-stage-stages.false) in
    let fine = c.requires.came.fine in
    let none = tried_all m (g.met.P.Decisions.move_laws p c.requires.valid) a.stage a.state c.min-first.result l.self.best.now before fine (omega arith) (rw end at l.invariant.tried) in
    record {
      same_problem = l.invariant.same_problem;
      same_room = l.invariant.same_room;
      same_best = l.invariant.same_best;
      same_table = search rules;
      improved = l.invariant.improved;
      unbeaten = none;
      known = known_more m l.self.seen.now c.remember.new.table c.remember.ensures.0 (record { stage = a.stage; state = a.state }) l.self.best.now c.remember.ensures.1 (record { within = before; fine = fine; unbeaten = none }) l.invariant.known;
      same_front = l.invariant.same_front;
      counted = search rules;
    }
