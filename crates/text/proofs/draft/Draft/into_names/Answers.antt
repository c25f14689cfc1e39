use Rattle.std.proofs.Common.{rules, string_bytes, ◌∙◌}
use Rattle.std.proofs.lemmas.Iterator.Adapters.{YieldsList-from_vec}
use Rattle.std.proofs.lemmas.Iterator.{YieldsList-from_map_by}
use Rattle.std.proofs.lemmas.Iterator.Consumers.{YieldsList-at, map_from_collect}
use borrow.Author.Tests.{tests}
use Rattle.text.proofs.Entries.{names_collected}
use Rattle.text.proofs.draft.Draft.into_names.Goals as goal

pub returns : goal.returns
returns c =
    names_collected c.args.self.entries.items c.collect.result
    (map_from_collect _ c.collect.ensures.ran (YieldsList-from_map_by _ string_bytes (λ e. string_bytes e.name) (YieldsList-at c.map.ensures.source (YieldsList-from_vec _ c.into_iter.ensures.rest (c.into_iter.ensures.len ∙ c.args.self.entries.ok.0))) c.map.ensures.closure (λ x r q k. search (rules, tests))))
