use Rattle.engine.specs.Problems.{in_order}
use Rattle.engine.proofs.Ruling.{ruled_hopeless}
use Rattle.engine.proofs.ruled.RuledProblem.is_hopeless.Goals as goal

pub returns : goal.returns
returns g c sure =
    let a = c.args in
    let p = a.self.now in
    ruled_hopeless (in_order (g.P.Decisions.moves p.problem) (g.P.Problem.ahead p.problem)) (g.R.Rule.automaton p.rule) a.stage a.state a.best (c.is_hopeless.ensures sure)
