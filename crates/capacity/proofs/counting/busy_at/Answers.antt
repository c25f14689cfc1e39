use Rattle.std.proofs.Common.{rules}
use Rattle.std.proofs.lemmas.List.Sums.{count_by-le-length}
use Rattle.std.proofs.iter.runs.Made.{chains}
use Rattle.passes.specs.Busy.{holds}
use Rattle.capacity.proofs.Begins.{busy-count_by}
use Rattle.capacity.proofs.counting.busy_at.Goals as goal

pub sum-requires-clause-fits : goal.sum-requires-clause-fits
sum-requires-clause-fits c =
    let few = count_by-le-length (λ p. holds c.args.turn p c.args.second) c.args.passes.now in
    search (rules, chains)

pub returns : goal.returns
returns c = rw (busy-count_by c.args.turn c.args.passes.now c.args.second) (search (rules, chains))
