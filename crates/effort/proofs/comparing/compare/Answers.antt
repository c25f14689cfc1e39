use Rattle.effort.proofs.comparing.compare.Goals as goal

pub returns : goal.returns
returns c =
    let front = c.in_ok-front.ensures in
    let planned = c.in_ok-planned.ensures in
    let searched = c.in_ok-searched.ensures in
    record {
      planned = c.in_ok-planned.planned.worth;
      planned_best = rw (front.turn, front.numbers) at planned;
      searched = c.in_ok-searched.searched.most;
      searched_some = searched.some;
      searched_best = rw (front.turn, front.numbers) at searched.worth;
      says = c.of.ensures;
    }
