use Rattle.trials.proofs.trying.try_night.Goals as goal

pub returns : goal.returns
returns c =
    let night = c.requires.read in
    record {
      room = c.args.room.now;
      one_each = rw (← night.same_passes) c.requires.one_each;
      done = c.plan-done.result;
      plan = c.plan-done.new.room;
      came = rw c.as_slice.ensures.value at c.plan-done.ensures;
      says = rw (← night.same_station, ← night.same_passes) (rw c.requires.no_directions at c.compare.ensures);
    }
