use Rattle.std.proofs.Common.{◌≡◌, ◌≤◌, map, length, rules, nat_eq, vec_len, ap, arith, IfOk}
use Rattle.std.proofs.lemmas.Iterator.Consumers.{map_from_collect}
use Rattle.std.proofs.lemmas.Iterator.Splits.{YieldsList-from_slice_split}
use Rattle.std.proofs.lemmas.List.{length-map}
use Rattle.std.proofs.lemmas.List.Splits.{length-slice_split}
use Rattle.std.proofs.lemmas.Result.{IfOk-weaker}
use borrow.Author.Tests.{tests}
use Rattle.text.specs.Words.{ends_line, lines_of}
use Rattle.damage.proofs.damaging.lines_of.Goals as goal

-- the parts between line feeds, of which there is one more than line feeds
pub returns : goal.returns
returns c =
    let text = c.args.text.now in
    let lines : IfOk c.collect.result (λ v. map (λ l. l.now) v.items ≡ lines_of text) =
    map_from_collect _ c.collect.ensures.ran (YieldsList-from_slice_split _ (λ b. nat_eq b 10) text c.split.ensures.rest c.split.ensures.done c.split.ensures.closure (λ x b q k. search (rules, tests))) in
    record {
      lines = lines;
      some_line = IfOk-weaker _ (λ v. map (λ l. l.now) v.items ≡ lines_of text) (λ v. 1 ≤ vec_len v) (λ v e. omega (arith, v.ok, length-map v.items (λ l. l.now), ap length e, length-slice_split ends_line text)) lines;
    }
