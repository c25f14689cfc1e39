use Rattle.std.proofs.Common.{arith}
use Rattle.planner.proofs.Following.{bound_all}
use Rattle.planner.proofs.scheduling.SchedulingGains.bound.Goals as goal

pub returns : goal.returns
returns c =
    let p = c.args.self.now in
    bound_all p.night.turns.now p.night.passes.now c.args.stage c.args._state _ (p.sums c.args.stage (omega arith) (omega (arith, c.requires.within)))
