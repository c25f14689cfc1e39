use Rattle.std.proofs.Common.{◌≡◌, List, ◌++◌, append_assoc, Result, Ok, Err, ◌∙◌, ap}
use Rattle.std.specs.Prelude.{ℕ, OnOk}
use Rattle.reasons.specs.Words.{words}
use Rattle.reasons.proofs.reason.Reason.write.Goals as goal

-- three texts that are written one after the other
in_three :
    {X E : Type 0} (t a b c t₁ t₂ t₃ : List ℕ) (r : Result X E) → t₁ ≡ t ++ a → t₂ ≡ t₁ ++ b → OnOk r (t₃ ≡ t₂ ++ c) → OnOk r (t₃ ≡ t ++ (a ++ (b ++ c)))
in_three t a b c t₁ t₂ t₃ (Ok x) first second third =
    let assoc : ((t ++ a) ++ b) ++ c ≡ t ++ (a ++ (b ++ c)) = simp append_assoc in
    third ∙ ap (λ s. s ++ c) (second ∙ ap (λ s. s ++ b) first) ∙ assoc
in_three t a b c t₁ t₂ t₃ (Err e) first second third = third

pub returns-in_ok-write_change-in-Needs : goal.returns-in_ok-write_change-in-Needs
unfolding words
returns-in_ok-write_change-in-Needs c =
    let worth = rw c.in_ok-write-in-Needs.was at c.write-in-Needs.ensures.bytes in
    let go = rw (c.in_ok-write_change-in-Needs.was, c.deref.ensures.value) at c.write_change.ensures in
    let come = rw c.deref-in-Needs.ensures.value at c.write_change-in-Needs.ensures in
    rw c.in-Needs.is (in_three _ _ _ _ _ _ _ _ worth go come)
