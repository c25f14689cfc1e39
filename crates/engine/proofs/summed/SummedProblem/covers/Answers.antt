use Rattle.std.proofs.Common.{arith}
use Rattle.engine.specs.Gaining.{gaining}
use Rattle.engine.proofs.Tallies.{keeps_up_covers}
use Rattle.engine.proofs.summed.SummedProblem.covers.Goals as goal

pub returns-then-seen-at : goal.returns-then-seen-at
returns-then-seen-at g c told =
    let a = c.args in
    let p = a.self.now.gains in
    keeps_up_covers (gaining (g.G.Decisions.moves p) (g.G.Gains.gain p) (g.G.Gains.most p)) a.stage a.seen a.at (c.covers.ensures told) (omega arith)
