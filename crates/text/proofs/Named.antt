-- Words that are names. Assumes nothing.
use Rattle.std.proofs.Common.{◌≡◌, ℕ, zero, suc, ◌<◌, true, false, List, [], ◌∷◌, Bor, Ok, Err, Result, MatchResult, IfOk, refl, arith}
use Rattle.std.specs.Prelude.{IsUtf8, IsAscii}
use Rattle.std.proofs.lemmas.Bool.Decides.{nat_tests}
use Rattle.std.proofs.lemmas.Str.{IsUtf8-from_ascii}
use Rattle.text.specs.declared.faults.LineFault.{LineFault}
use Rattle.text.specs.declared.faults.LineFault.TheVariants.{BadName}
use Rattle.text.specs.Names.{is_name_byte, all_name_bytes, is_name}
use Rattle.text.specs.Results.{Gives}
use Rattle.text.specs.Words.{name_at}

ascii_byte : (b : ℕ) → is_name_byte b ≡ true → b < 128
unfolding is_name_byte
ascii_byte b h = grind (arith, nat_tests)

ascii_bytes : (w : List ℕ) → all_name_bytes w ≡ true → IsAscii w
ascii_bytes [] h i = omega arith
ascii_bytes (b ∷ bs) h zero = ascii_byte b (grind (arith, nat_tests))
ascii_bytes (b ∷ bs) h (suc i) = ascii_bytes bs (grind (arith, nat_tests)) i

pub is_text : (w : List ℕ) → is_name w ≡ true → IsUtf8 w
unfolding is_name
is_text w h = IsUtf8-from_ascii w (ascii_bytes w (grind (arith, nat_tests)))

pub no_name : (w : List ℕ) → is_name w ≡ false → name_at w ≡ Err BadName
unfolding name_at
no_name w h = rw h refl

pub named_text : {E : Type 0} (More : E → Type 0) (w : List ℕ) (r : Result (Bor (List ℕ)) E) (s : Result (Bor (List ℕ)) LineFault) → is_name w ≡ true
    → MatchResult r (λ t. (t.now ≡ w) × IsUtf8 w) (λ e. ¬ (IsUtf8 w) × More e) → MatchResult r (λ t. s ≡ Ok t) (λ _. s ≡ Err BadName)
    → Gives (λ t. t.now) s (name_at w) × IfOk s (λ t. is_name t.now ≡ true)
unfolding name_at
named_text more w (Ok t) s named same is = rw is (rw (named, same.0) refl, rw same.0 named)
named_text more w (Err e) s named isnt is = absurd (isnt.0 (is_text w named))
