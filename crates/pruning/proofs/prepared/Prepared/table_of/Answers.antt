use Rattle.std.proofs.Common.{◌<◌, length, rules}
use Rattle.std.proofs.Math.ListN.{get_or-append}
use Rattle.pruning.proofs.prepared.Prepared.table_of.Goals as goal

pub returns : goal.returns
returns c k low high =
    let front : k < length c.fill_table.new.table = search rules in
    let one = c.alone.ensures in
    let right = rw (one.station, one.same_dish, one.same_passes) at c.fill_table.ensures in
    rw (get_or-append c.fill_table.new.table _ 0 k front) (right k low high)
