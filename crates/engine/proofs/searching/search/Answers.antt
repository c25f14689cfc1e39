use Rattle.std.proofs.Common.{arith, rules}
use Rattle.engine.specs.Problems.{in_order}
use Rattle.engine.specs.Runs.{leads}
use Rattle.engine.proofs.Trying.{answered, holds_first}
use Rattle.engine.proofs.searching.search.Goals as goal

pub explore-requires-clause-came : goal.explore-requires-clause-came
unfolding leads
explore-requires-clause-came g c = record { within = omega arith; a_place_each = c.requires.a_place_each; fine = rw c.start.ensures (g.met.P.Decisions.move_laws c.args.problem.now c.lawful.ensures).fine_start; leads_here = search rules }

pub explore-requires-clause-holds : goal.explore-requires-clause-holds
explore-requires-clause-holds g c =
    let p = c.args.problem.now in
    holds_first (in_order (g.P.Decisions.moves p) (g.P.Problem.ahead p)) c.args.room.now c.end_of-best.result c.requires.one_each c.end_of-best.ensures

pub returns-clause-answered : goal.returns-clause-answered
returns-clause-answered g c =
    let p = c.args.problem.now in
    let m = in_order (g.P.Decisions.moves p) (g.P.Problem.ahead p) in
    let told = c.explore.ensures in
    answered m c.end_of-best.result c.args.room.now _ _ c.explore.new.self.room.now c.explore.new.self.best.now (search rules) (search rules) told.improved (rw c.start.ensures at told.unbeaten)
