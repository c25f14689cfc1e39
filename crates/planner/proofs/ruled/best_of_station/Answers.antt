use Rattle.std.proofs.lemmas.List.{take-replicate}
use Rattle.planner.proofs.ByRule.{planned_for_station}
use Rattle.planner.proofs.ruled.best_of_station.Goals as goal

pub returns : goal.returns
returns g c =
    let s = c.args.station in
    let r = g.R.Rule.automaton c.args.rule in
    let same_turns = take-replicate s.dishes 8 s.turn c.requires.few_dishes in
    planned_for_station s r c.args.passes.now c.args.room.now c.best_by.new.room c.best_by.result.most (rw same_turns at c.best_by.ensures)
