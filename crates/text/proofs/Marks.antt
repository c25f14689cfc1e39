-- The dishes that words name, one word after the other. Assumes nothing.
use Rattle.std.proofs.Common.{◌≡◌, ℕ, ◌+◌, ◌/◌, ◌%◌, ◌^◌, ◌<◌, ◌≤◌, List, ◌∷◌, length, get_or, drop, map, Bor, Ok, Err, Result, bit_or, refl, ◌∙◌, arith}
use Rattle.std.proofs.lemmas.Bool.Decides.{nat_tests}
use Rattle.std.proofs.lemmas.List.{at_drop_more, at_drop_all}
use Rattle.text.specs.declared.faults.LineFault.{LineFault}
use Rattle.text.specs.declared.faults.LineFault.TheVariants.{BadDish, DishTwice}
use Rattle.text.specs.Lines.{marks_from}
use Rattle.text.specs.Words.{number_at}

-- what words give from word i on
abbrev pub from_word : ℕ → ℕ → List (Bor (List ℕ)) → Result ℕ LineFault
from_word marks i ws = marks_from marks (map (λ w. w.now) (drop i ws))

module _ (marks i : ℕ) (ws : List (Bor (List ℕ))) (d : Bor (List ℕ)) (within : i < length ws) where
  head : from_word marks i ws ≡ marks_from marks (map (λ w. w.now) (get_or ws i d ∷ drop (i + 1) ws))
  head = at_drop_more (λ vs. marks_from marks (map (λ w. w.now) vs)) ws i d within

  pub no_number : (e : LineFault) → number_at (get_or ws i d).now ≡ Err e → from_word marks i ws ≡ Err e
  unfolding marks_from
  no_number e h = head ∙ rw h refl

  module _ (dish : ℕ) (named : number_at (get_or ws i d).now ≡ Ok dish) where
    pub too_large : 32 ≤ dish → from_word marks i ws ≡ Err BadDish
    unfolding marks_from
    too_large large = head ∙ rw named (grind (arith, nat_tests))

    pub twice : dish < 32 → marks / 2 ^ dish % 2 ≡ 1 → from_word marks i ws ≡ Err DishTwice
    unfolding marks_from
    twice small there = head ∙ rw named (grind (arith, nat_tests))

    pub one_more : dish < 32 → (marks / 2 ^ dish % 2 ≡ 1 → ⊥) → from_word marks i ws ≡ from_word (bit_or marks (2 ^ dish)) (i + 1) ws
    unfolding marks_from
    one_more small new = head ∙ rw named (grind (arith, nat_tests))

pub no_more : (marks i : ℕ) (ws : List (Bor (List ℕ))) → length ws ≤ i → from_word marks i ws ≡ Ok marks
unfolding marks_from
no_more marks i ws all = at_drop_all (λ vs. marks_from marks (map (λ w. w.now) vs)) ws i all
