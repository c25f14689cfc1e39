use Rattle.std.proofs.Common.{sym, ap, ◌∙◌, arith}
use Rattle.text.proofs.Entries.{field_at}
use Rattle.text.proofs.draft.Draft.line_of.Goals as goal

pub returns-then-pass-len : goal.returns-then-pass-len
returns-then-pass-len c =
    let entries = c.args.self.now.entries in
    ap (λ e. e.line) c.index.ensures ∙ sym (field_at (λ e. e.line) 0 entries.items c.args.pass c.index.result.now (omega (arith, c.if-pass-len.true, c.len.ensures, entries.ok.0)))
