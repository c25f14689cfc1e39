use Rattle.std.proofs.Common.{rules, not, length, nat_eq}
use Rattle.std.proofs.lemmas.Iterator.Consumers.{YieldsList-at, map_from_collect, YieldsList-from_filter}
use Rattle.std.proofs.lemmas.Iterator.Splits.{YieldsList-from_slice_split}
use borrow.Author.Tests.{tests}
use Rattle.text.specs.Words.{is_blank}
use Rattle.text.proofs.words.words_of.Goals as goal

-- the parts between blanks, without the empty ones
pub returns : goal.returns
returns c =
    map_from_collect _ c.collect.ensures.ran (YieldsList-from_filter _ (λ w. not (nat_eq (length w) 0)) (YieldsList-at c.filter.ensures.source (YieldsList-from_slice_split _ is_blank c.args.line.now c.split.ensures.rest c.split.ensures.done c.split.ensures.closure (λ x b q k. search (rules, tests)))) c.filter.ensures.closure (λ x b q k. search (rules, tests)))
