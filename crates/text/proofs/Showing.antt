-- What is shown of a line is ASCII. Assumes nothing.
use Rattle.std.proofs.Common.{◌≡◌, ℕ, ◌<◌, List, [], ◌∷◌, map, Option, Some, None, Bor, refl, arith}
use Rattle.std.specs.Option.{unwrap_or, option_map}
use Rattle.std.specs.Str.{IsAscii}
use Rattle.std.proofs.lemmas.Bool.Decides.{nat_tests}
use Rattle.std.proofs.lemmas.Str.Ascii.{IsAscii-nil, IsAscii-cons}
use Rattle.text.specs.Messages.{shown_byte}

-- what is shown of a byte is ASCII
shown_small : (b : ℕ) → shown_byte b < 128
unfolding shown_byte
shown_small b = grind (arith, nat_tests)

-- and of bytes
pub shown_ascii : (bs : List ℕ) → IsAscii (map shown_byte bs)
shown_ascii [] = IsAscii-nil
shown_ascii (b ∷ bs) = IsAscii-cons (shown_byte b) (map shown_byte bs) (shown_small b) (shown_ascii bs)

-- what a reference points to, or else another one
pub pointed : {X : Type 0} (r : Option (Bor X)) (d : Bor X) → (unwrap_or r d).now ≡ unwrap_or (option_map (λ x. x.now) r) d.now
pointed None d = refl
pointed (Some x) d = refl
