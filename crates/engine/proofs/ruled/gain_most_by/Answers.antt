use Rattle.std.proofs.Common.{◌≡◌, rules}
use Rattle.std.specs.Option.{option_map}
use Rattle.engine.specs.Gaining.{gaining}
use Rattle.engine.proofs.Ruling.{accepted_answered}
use Rattle.engine.proofs.ruled.gain_most_by.Goals as goal

pub returns : goal.returns
returns g c =
    let p = c.args.problem.now.problem.gains in
    let told : c.map.result ≡ option_map (λ b. b.one.gained) c.search-found.result.best = search rules in
    rw told (accepted_answered (gaining (g.G.Decisions.moves p) (g.G.Gains.gain p) (g.G.Gains.most p)) (g.R.Rule.automaton c.args.problem.now.rule) c.args.room.now c.search-found.new.room c.search-found.result.best c.search-found.ensures.answered)
