-- What is written of a station and of a pass is words. Assumes nothing.
use Rattle.std.proofs.Common.{◌≡◌, ℕ, ◌^◌, ◌<◌, ◌≤◌, true, List, [], ◌∷◌, Some, None, Option, refl, arith}
use Rattle.std.specs.Prelude.{codes}
use Rattle.std.specs.Fmt.{decimal}
use Rattle.std.specs.Str.{all_ascii_digits}
use Rattle.std.proofs.lemmas.Bool.Decides.{nat_tests}
use Rattle.std.proofs.lemmas.Fmt.{digits_decimal, decimal_nonempty}
use Rattle.passes.specs.declared.model.Pass.{Pass}
use Rattle.passes.specs.declared.model.Station.{Station}
use Rattle.slewing.specs.declared.directions.Sweep.{Sweep}
use Rattle.text.specs.Names.{is_name_byte, all_name_bytes, is_name}
use Rattle.text.specs.Words.{is_blank}
use Rattle.text.specs.Writing.{step_words, station_words, dish_words, direction_words, pass_words}
use Rattle.text.proofs.Cutting.{is_word, all_plain, all_words, plain, all_words-append}
use Rattle.text.proofs.Numbers.{own}
use Rattle.text.proofs.Spelled.{SmallStep, SmallSweep, marked}

digits_plain : (w : List ℕ) → all_ascii_digits w ≡ true → all_plain w ≡ true
unfolding all_plain plain is_blank
digits_plain [] h = refl
digits_plain (b ∷ bs) h = rw (digits_plain bs (grind (arith, nat_tests))) (grind (arith, nat_tests))

name_plain : (w : List ℕ) → all_name_bytes w ≡ true → all_plain w ≡ true
unfolding all_plain plain is_blank is_name_byte
name_plain [] h = refl
name_plain (b ∷ bs) h = rw (name_plain bs (grind (arith, nat_tests))) (grind (arith, nat_tests))

number_word : (n : ℕ) → n < 2 ^ 32 → is_word (decimal n) ≡ true
unfolding is_word
number_word n small = rw (digits_plain (decimal n) (digits_decimal own n (omega arith))) (grind (arith, nat_tests, decimal_nonempty n (omega arith)))

name_word : (w : List ℕ) → is_name w ≡ true → is_word w ≡ true
unfolding is_word is_name
name_word w h = rw (name_plain w (grind (arith, nat_tests))) (grind (arith, nat_tests))

-- the words that the format has
record Keywords : Type 0 where
  dishes : is_word (codes "dishes") ≡ true
  turn : is_word (codes "turn") ≡ true
  pass : is_word (codes "pass") ≡ true
  worth : is_word (codes "worth") ≡ true
  step : is_word (codes "step") ≡ true
  directions : is_word (codes "directions") ≡ true

keywords : Keywords
unfolding is_word all_plain plain is_blank
keywords = record { dishes = refl; turn = refl; pass = refl; worth = refl; step = refl; directions = refl }

step_plain : (k : Option ℕ) → SmallStep k → all_words (step_words k) ≡ true
unfolding all_words
step_plain None small = refl
step_plain (Some k) small = rw (number_word k small, keywords.step) refl

pub station_plain : (s : Station) (k : Option ℕ) → s.dishes < 2 ^ 32 → s.turn < 2 ^ 32 → SmallStep k → all_words (station_words s k) ≡ true
unfolding all_words
station_plain s k few fast small = rw (number_word s.dishes few, number_word s.turn fast, keywords.dishes, keywords.turn, step_plain k small) refl

directions_plain : (v : Option Sweep) → SmallSweep v → all_words (direction_words v) ≡ true
unfolding all_words
directions_plain None small = refl
directions_plain (Some v) small = rw (number_word v.begin small.0, number_word v.end small.1, keywords.directions) refl

pub pass_plain : (name : List ℕ) (p : Pass) (v : Option Sweep) → is_name name ≡ true → p.from < 2 ^ 32 → p.to < 2 ^ 32 → p.worth < 2 ^ 32 → p.marks ≤ 15 → SmallSweep v → all_words (pass_words name p v) ≡ true
unfolding all_words
pass_plain name p v named from to worth few small =
    let last = all_words-append (dish_words p) (direction_words v) (marked p few).plain_words (directions_plain v small) in
    rw (name_word name named, number_word p.from from, number_word p.to to, number_word p.worth worth, last, keywords.pass, keywords.worth, keywords.dishes) refl
