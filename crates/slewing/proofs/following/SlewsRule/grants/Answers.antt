use Rattle.passes.specs.Rule.{no_pass}
use Rattle.slewing.proofs.Granting.{granted}
use Rattle.slewing.proofs.Legs.{late_from}
use Rattle.slewing.proofs.following.SlewsRule.grants.Goals as goal

pub returns-in-Some : goal.returns-in-Some
returns-in-Some c =
    let r = c.args.self.now in
    let pass = c.in-Some.ensures.lookup in
    λ good cs.
    granted r.turn r.step c.in-Some.pass.now.from _ cs c.args.stage c.args.seen c.args.state
    (λ j b. late_from r.passes.now r.sweeps.now c.args.stage j c.in-Some.pass.now b r.in_time pass.3.0 (pass.3.1 no_pass))
    (c.are_as_good.ensures good)
