use Rattle.std.proofs.Common.{◌≡◌, ℕ, ◌<◌, length, rules, tests}
use Rattle.std.proofs.iter.runs.Made.{chains}
use Rattle.passes.specs.Busy.{busy}
use Rattle.passes.specs.Rule.{nth}
use Rattle.capacity.proofs.Begins.{Behind, busiest_from}
use Rattle.capacity.proofs.counting.busiest.Goals as goal

pub returns : goal.returns
returns c =
    let t = c.args.turn in
    let ps = c.args.passes.now in
    let m = c.unwrap.result in
    let is_peak : busy t ps m.second ≡ m.count = search (rules, chains) in
    let start : Behind t ps m.second m.count 0 = search (rules, chains, tests) in
    let begins : (k : ℕ) → k < length ps → Behind t ps m.second m.count (nth ps k).from = λ k l. search (rules, chains, tests) in
    busiest_from t ps m.second m.count is_peak start begins
