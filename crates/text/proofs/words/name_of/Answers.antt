use Rattle.std.proofs.Common.{rules, sym, ◌∙◌}
use Rattle.text.proofs.Named.{no_name, named_text}
use Rattle.text.proofs.words.name_of.Goals as goal

pub returns-then-not-is_name-clause-read : goal.returns-then-not-is_name-clause-read
returns-then-not-is_name-clause-read c = no_name c.args.word.now (sym c.is_name.ensures ∙ c.if-not-is_name.true)

pub returns-clause-read : goal.returns-clause-read
returns-clause-read c = (named_text _ c.args.word.now c.from_utf8.result c.map_err.result (sym c.is_name.ensures ∙ c.if-not-is_name.false) c.from_utf8.ensures.cases (search rules)).0

pub returns-clause-named : goal.returns-clause-named
returns-clause-named c = (named_text _ c.args.word.now c.from_utf8.result c.map_err.result (sym c.is_name.ensures ∙ c.if-not-is_name.false) c.from_utf8.ensures.cases (search rules)).1
