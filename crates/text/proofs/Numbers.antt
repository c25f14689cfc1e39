-- Words that are numbers. Assumes nothing.
use Rattle.std.proofs.Common.{◌≡◌, ℕ, ◌^◌, ◌<◌, Bool, true, false, List, [], ◌∷◌, length, get_or, Ok, Err, Result, refl, sym, ap, ◌∙◌, ◌≢◌, arith, MatchResult}
use Rattle.std.specs.Prelude.{IsUtf8}
use Rattle.std.specs.Str.{all_ascii_digits}
use Rattle.std.specs.Str.Parse.{digits_value, ParsesUnsigned}
use Rattle.std.proofs.lemmas.Bool.Decides.{nat_tests}
use Rattle.std.proofs.lemmas.Fmt.{IsAscii-from_digits}
use Rattle.std.proofs.lemmas.Result.{OkIff-at_ok, OkIff-at_err}
use Rattle.std.proofs.lemmas.Str.{IsUtf8-from_ascii}
use Rattle.std.proofs.lemmas.Str.Parse.{IsNumeralModel, numerals_by_value, parse_plain, tells_all_ascii_digits}
use Rattle.text.specs.declared.faults.LineFault.{LineFault}
use Rattle.text.specs.declared.faults.LineFault.TheVariants.{BadNumber}
use Rattle.text.specs.Words.{number_at}

-- digits are told by our test, and their value is std's
pub own : IsNumeralModel (λ ds. all_ascii_digits ds ≡ true) (digits_value 10)
own = numerals_by_value _ tells_all_ascii_digits

first_digit : (w : List ℕ) → all_ascii_digits w ≡ true → get_or w 0 0 ≡ 43 → ⊥
first_digit [] d e = omega (arith, e)
first_digit (b ∷ bs) d e = grind (arith, nat_tests)

-- a word that isn't digits, or is none, or is too large
pub no_number : (w : List ℕ) → (all_ascii_digits w ≡ true → 0 < length w → digits_value 10 w < 2 ^ 32 → ⊥) → number_at w ≡ Err BadNumber
unfolding number_at
no_number w none = by_cases (all_ascii_digits w) refl
  where
    by_cases : (b : Bool) → all_ascii_digits w ≡ b → number_at w ≡ Err BadNumber
    by_cases true e = let h = none e in grind (arith, nat_tests)
    by_cases false e = grind (arith, nat_tests)

pub is_number : (w : List ℕ) → all_ascii_digits w ≡ true → 0 < length w → digits_value 10 w < 2 ^ 32 → number_at w ≡ Ok (digits_value 10 w)
unfolding number_at
is_number w d some fits = grind (arith, nat_tests)

pub not_text : (w : List ℕ) → ¬ (IsUtf8 w) → number_at w ≡ Err BadNumber
not_text w not = no_number w (λ d _ _. not (IsUtf8-from_ascii w (IsAscii-from_digits w (own.to w d))))

pub signed : (w : List ℕ) → get_or w 0 0 ≡ 43 → number_at w ≡ Err BadNumber
signed w plus = no_number w (λ d _ _. first_digit w d plus)

-- what `parse` answers of a text without a sign
pub parsed : {E : Type 0} (w : List ℕ) (r : Result ℕ E) (s : Result ℕ LineFault) → get_or w 0 0 ≢ 43 → ParsesUnsigned 32 10 w r
    → MatchResult r (λ n. s ≡ Ok n) (λ _. s ≡ Err BadNumber) → s ≡ number_at w
parsed {E} w (Ok n) s plain parses is =
    let r : Result ℕ E = Ok n in
    let same : r ≡ Ok n = refl in
    let h = OkIff-at_ok r _ (digits_value 10 w) n (parse_plain own {E = E} 32 w r parses plain) same in
    is ∙ ap Ok h.1 ∙ sym (is_number w h.0.0 h.0.1 h.0.2)
parsed {E} w (Err e) s plain parses is =
    let r : Result ℕ E = Err e in
    let same : r ≡ Err e = refl in
    is ∙ sym (no_number w (λ d some fits. OkIff-at_err r _ (digits_value 10 w) e (parse_plain own {E = E} 32 w r parses plain) same (d, some, fits)))

-- the test for a sign went the other way
pub unsigned : (w : List ℕ) (r : Bool) → (get_or w 0 0 ≡ 43 → r ≡ true) → r ≡ false → get_or w 0 0 ≢ 43
unsigned w r tests isnt e = let is = tests e in absurd cc
