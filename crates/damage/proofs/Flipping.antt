-- One bit of one byte is flipped, or a text without bytes is left. Assumes nothing.
use Rattle.std.proofs.Common.{◌≡◌, ◌^◌, ◌<◌, ℕ, List, length, get_or, set, bit_xor, refl, ap, ◌∙◌, arith}
use Rattle.std.proofs.lemmas.Grind.{get_or_default_zero}
use Rattle.std.proofs.lemmas.List.{length-set, get_or-set_same, get_or-set_other}
use Rattle.damage.specs.Damages.{Flipped}

-- the byte x at a place became y, which is x with one bit flipped
pub flipped_at : (old new : List ℕ) (place k x y : ℕ) → place < length old → k < 8 → x ≡ get_or old place x → y ≡ bit_xor x (2 ^ k) → new ≡ set old place y → Flipped old new
flipped_at old new place k x y within below was flipped is =
    let before : x ≡ get_or old place 0 = was ∙ get_or_default_zero old place x within in
    let after : get_or (set old place y) place 0 ≡ bit_xor (get_or old place 0) (2 ^ k) = get_or-set_same old place y 0 within ∙ flipped ∙ ap (λ b. bit_xor b (2 ^ k)) before in
    rw is (record { place = place; within = λ _. within; long = length-set old place y; others = λ i other. get_or-set_other old place i y 0 other; bit = λ _. (k, below, after) })

pub left_empty : (old new : List ℕ) → length old ≡ 0 → new ≡ old → Flipped old new
left_empty old new empty is =
    rw is (record { place = 0; within = λ some. omega (arith, some, empty); long = refl; others = λ i other. refl; bit = λ some. absurd (omega (arith, some, empty)) })
