use Rattle.std.proofs.Common.{sym, rules, arith}
use Rattle.std.proofs.lemmas.Str.Pattern.{starts_char}
use Rattle.text.proofs.Numbers.{not_text, signed, unsigned, parsed}
use Rattle.text.proofs.words.number_of.Goals as goal

pub returns-in_default : goal.returns-in_default
returns-in_default c = sym (not_text c.args.word.now c.in_default.ensures.cases.0)

pub returns-then-starts_with : goal.returns-then-starts_with
returns-then-starts_with c = sym (signed c.args.word.now (rw (sym c.in-Ok.ensures.cases.0) ((starts_char 43 c.in-Ok.digits.now _ c.starts_with.ensures.cases (omega arith) (omega arith)).0 c.if-starts_with.true)))

pub returns : goal.returns
returns c =
    let same = c.in-Ok.ensures.cases.0 in
    let plain = unsigned c.in-Ok.digits.now _ (starts_char 43 c.in-Ok.digits.now _ c.starts_with.ensures.cases (omega arith) (omega arith)).1 c.if-starts_with.false in
    rw (sym same) (parsed c.in-Ok.digits.now c.parse.result c.map_err.result plain c.parse.ensures.value.0 (search rules))
