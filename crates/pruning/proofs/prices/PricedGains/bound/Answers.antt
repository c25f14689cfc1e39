use Rattle.std.proofs.Common.{◌≡◌, ◌/◌, ◌≤◌, length, get_or, ap, arith}
use Rattle.engine.specs.Gaining.{gained}
use Rattle.pruning.specs.Rounding.{rounded_night}
use Rattle.pruning.specs.Prices.{together, entry}
use Rattle.pruning.proofs.Together.{together_none, together_more}
use Rattle.pruning.proofs.Bounding.{bounded}
use Rattle.pruning.proofs.Whole.{gained_whole, whole_below}
use Rattle.pruning.proofs.prices.PricedGains.bound.Goals as goal

pub loop-dish-init : goal.loop-dish-init
loop-dish-init c =
    let p = c.args.self.now in (
      omega (arith, together_none (λ d. entry p.tables d (get_or c.args.state.next d 0))),
      omega (arith, p.left_low c.args.stage (omega (arith, c.requires.within))),
    )

pub loop-dish-preserved : goal.loop-dish-preserved
loop-dish-preserved c =
    let p = c.args.self.now in
    let l = c.loop-dish in
    let next = c.requires.fine.each l.dish (omega (arith, p.night.few_dishes)) in
    let low = p.tables_low l.dish c.next_of.result (omega arith) (omega (arith, c.next_of.ensures, next.within)) in (
      omega (arith, l.invariant.0, together_more l.dish (λ d. entry p.tables d (get_or c.args.state.next d 0)), ap (λ k. entry p.tables l.dish k) c.next_of.ensures),
      omega (arith, low, l.invariant.1),
    )

pub returns : goal.returns
returns c cs e w =
    let p = c.args.self.now in
    let turns = p.night.turns.now in
    let ps = p.night.passes.now in
    let end : c.loop-dish.dish ≡ length turns = omega arith in
    let most = bounded turns ps p.night.few_dishes 1024 (λ k. get_or p.left k 0) (entry p.tables) (record { left_falls = p.left_falls; falls = p.tables_fall; takes = p.falls_pay }) cs c.args.stage c.args.state e c.requires.fine w in
    let gain = gained (rounded_night turns ps).moves.step (rounded_night turns ps).gain c.args.stage c.args.state cs in
    let low : gain ≤ c.loop-dish.bound / 1024 = omega (arith, most, c.loop-dish.invariant.0, ap (λ k. together k (λ d. entry p.tables d (get_or c.args.state.next d 0))) end) in
    whole_below gain (c.loop-dish.bound / 1024) p.unit p.some_unit (gained_whole turns ps p.unit p.whole cs c.args.stage c.args.state e w) low
