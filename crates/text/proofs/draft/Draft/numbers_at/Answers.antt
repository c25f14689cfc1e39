use Rattle.std.proofs.Common.{sym, ap, ◌∙◌, arith}
use Rattle.text.proofs.Entries.{field_at}
use Rattle.text.proofs.draft.Draft.numbers_at.Goals as goal

pub returns-then-pass-len : goal.returns-then-pass-len
returns-then-pass-len c =
    let entries = c.args.self.now.entries in
    ap (λ e. e.numbers) c.index.ensures ∙ sym (field_at (λ e. e.pass.numbers) _ entries.items c.args.pass c.index.result.now (omega (arith, c.if-pass-len.true, c.len.ensures, entries.ok.0)))
