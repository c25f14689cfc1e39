use Rattle.std.proofs.Common.{◌≡◌, length, rules}
use Rattle.pruning.specs.Lawful.{rounded_moves}
use Rattle.pruning.specs.Rounding.{rounded_night}
use Rattle.pruning.proofs.Bounding.{nothing_bound}
use Rattle.pruning.proofs.auction.Auction.bound.Goals as goal

pub returns-then-is_empty : goal.returns-then-is_empty
returns-then-is_empty c =
    let night = c.args.self.now.prepared.night in
    let none : length night.passes.now ≡ 0 = search rules in
    nothing_bound night.turns.now night.passes.now (rounded_night night.turns.now night.passes.now).moves.start none

pub bound-requires-clause-fine : goal.bound-requires-clause-fine
bound-requires-clause-fine c =
    let night = c.prepared-priced.result.night in
    rw c.start.ensures (rounded_moves night.turns.now night.passes.now).fine_start

pub returns : goal.returns
returns c =
    let same = c.prepared-priced.ensures in
    rw (c.start.ensures, same.same_turns, same.same_passes) at c.bound.ensures
