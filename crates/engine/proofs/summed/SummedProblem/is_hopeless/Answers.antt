use Rattle.std.proofs.Common.{arith}
use Rattle.std.proofs.lemmas.Bool.{leb-true}
use Rattle.engine.specs.Gaining.{gaining}
use Rattle.engine.proofs.Tallies.{bound_hopeless}
use Rattle.engine.proofs.summed.SummedProblem.is_hopeless.Goals as goal

pub returns-then-at-best : goal.returns-then-at-best
returns-then-at-best g c low =
    let a = c.args in
    let p = a.self.now.gains in
    bound_hopeless (gaining (g.G.Decisions.moves p) (g.G.Gains.gain p) (g.G.Gains.most p)) a.stage a.at a.best c.bound.result c.bound.ensures (omega (arith, leb-true _ _ low))
