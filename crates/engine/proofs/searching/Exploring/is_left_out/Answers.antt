use Rattle.engine.specs.Problems.{in_order}
use Rattle.engine.proofs.Trying.{fine_best}
use Rattle.engine.proofs.searching.Exploring.is_left_out.Goals as goal

pub is_hopeless-requires-clause-best_fine : goal.is_hopeless-requires-clause-best_fine
is_hopeless-requires-clause-best_fine g c =
    let a = c.args.self.now in
    let p = a.problem.now in
    let m = in_order (g.P.Decisions.moves p) (g.P.Problem.ahead p) in
    rw c.in-Some.is at (fine_best m (g.met.P.Decisions.move_laws p c.requires.valid) a.best.now a.room.now c.requires.holds)
