use Rattle.engine.specs.Problems.{in_order}
use Rattle.engine.proofs.Trying.{known_at, unbeaten_covered}
use Rattle.engine.proofs.searching.Exploring.is_covered.Goals as goal

pub returns-then-seen-stage-clause-sure : goal.returns-then-seen-stage-clause-sure
returns-then-seen-stage-clause-sure g c told =
    let a = c.args in
    let p = a.self.now.problem.now in
    let m = in_order (g.P.Decisions.moves p) (g.P.Problem.ahead p) in
    let passed = known_at m a.self.now.seen.now c.place.result _ c.in-Some.seen a.self.now.best.now c.place.ensures c.in-Some.is c.requires.known in
    unbeaten_covered m a.stage c.in-Some.seen.state a.state a.self.now.best.now (c.covers.ensures told) (rw c.if-seen-stage.true at passed.unbeaten)
