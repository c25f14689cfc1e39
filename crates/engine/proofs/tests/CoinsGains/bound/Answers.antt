use Rattle.engine.specs.Gaining.{gaining}
use Rattle.engine.specs.contracts.tests.CoinsDecisions.TheImpl.{moves-value}
use Rattle.engine.specs.contracts.tests.CoinsDecisions.TheImpl.Laws.{move_laws-law}
use Rattle.engine.specs.contracts.tests.CoinsGains.TheImpl.{gain-value, most-value}
use Rattle.engine.specs.contracts.tests.CoinsGains.TheImpl.Laws.{sum_laws-law}
use Rattle.engine.proofs.Tallies.{most_bound}
use Rattle.engine.proofs.tests.CoinsGains.bound.Goals as goal

pub returns : goal.returns
returns c =
    let p = c.args.self.now in
    most_bound (gaining (moves-value.it p) (gain-value.it p) (most-value.it p)) (move_laws-law p c.lawful.ensures) (sum_laws-law p c.lawful.ensures) c.args.stage c.args._state c.requires.fine
