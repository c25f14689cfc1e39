use Rattle.std.proofs.Common.{◌≡◌, ◌-◌, ◌<◌, take}
use Rattle.engine.specs.Problems.{in_order}
use Rattle.engine.specs.Searching.{Improved, Known}
use Rattle.engine.proofs.Trying.{Tried}
use Rattle.engine.proofs.searching.Exploring.+explore.Given as goal

abbrev pub decreases-explore : goal.decreases-explore
decreases-explore g l = (g.P.Decisions.moves l.self.now.problem.now).stages - l.stage

-- the choices of the turns before `turn` have been tried
abbrev pub invariant-loop-turn : goal.invariant-loop-turn
invariant-loop-turn g l =
    let p = l.initial.self in
    let m = in_order (g.P.Decisions.moves p.problem.now) (g.P.Problem.ahead p.problem.now) in record {
      same_problem : l.self.problem ≡ p.problem;
      same_room : l.self.room.ghost_name ≡ p.room.ghost_name;
      same_best : l.self.best.ghost_name ≡ p.best.ghost_name;
      same_table : l.self.seen.ghost_name ≡ p.seen.ghost_name;
      improved : Improved m p.best.now p.room.now l.self.best.now l.self.room.now;
      known : Known m l.self.seen.now l.self.best.now;
      tried : Tried m l.stage l.state l.first l.turn l.self.best.now;
      counted : 0 < l.self.visited;
      same_front : take l.stage l.made ≡ take l.stage l.initial.made;
    }
