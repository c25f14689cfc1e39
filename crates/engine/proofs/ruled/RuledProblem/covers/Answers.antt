use Rattle.engine.specs.Problems.{in_order}
use Rattle.engine.proofs.Ruling.{ruled_covers}
use Rattle.engine.proofs.ruled.RuledProblem.covers.Goals as goal

pub returns-then-covers : goal.returns-then-covers
returns-then-covers g c granted =
    let a = c.args in
    let p = a.self.now in
    ruled_covers (in_order (g.P.Decisions.moves p.problem) (g.P.Problem.ahead p.problem)) (g.R.Rule.automaton p.rule) a.stage a.seen a.state (c.covers.ensures c.if-covers.true) (c.grants.ensures granted)
