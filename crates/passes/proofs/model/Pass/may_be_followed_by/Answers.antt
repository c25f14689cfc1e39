use Rattle.std.proofs.Common.{sym, ap, eqb, ◌∙◌, arith}
use Rattle.std.proofs.lemmas.Bool.{le-ltb}
use Rattle.std.proofs.lemmas.Nat.Bits.{bit_at_above}
use Rattle.passes.proofs.model.Pass.may_be_followed_by.Goals as goal

pub returns-else-dish-lt8 : goal.returns-else-dish-lt8
returns-else-dish-lt8 c =
    let far = c.if-dish-lt8.false in
    le-ltb _ 8 far ∙ sym (ap (λ b. eqb b 1) (bit_at_above c.args.self.marks 8 c.args.dish (omega arith) far))
