-- Lines that are read one after the other. Assumes nothing.
use Rattle.std.proofs.Common.{◌≡◌, ℕ, ◌+◌, ◌<◌, ◌≤◌, List, ◌∷◌, length, get_or, drop, map, Bor, Ok, Result, refl, ◌∙◌}
use Rattle.std.proofs.lemmas.List.{at_drop_more, at_drop_all}
use Rattle.text.specs.declared.faults.ReadError.{ReadError}
use Rattle.text.specs.declared.faults.ReadError.TheVariants as errors
use Rattle.text.specs.declared.faults.TurnedAway.{TurnedAway}
use Rattle.text.specs.Drafts.{Draft, at_line, with_line, with_lines}
use Rattle.text.specs.Results.{Fails}

-- what lines give from line i on
abbrev pub from_line : Draft → ℕ → List (Bor (List ℕ)) → Result Draft TurnedAway
from_line d i ls = with_lines i d (map (λ l. l.now) (drop i ls))

module _ (d : Draft) (i : ℕ) (ls : List (Bor (List ℕ))) (b : Bor (List ℕ)) (within : i < length ls) where
  head : from_line d i ls ≡ with_lines i d (map (λ l. l.now) (get_or ls i b ∷ drop (i + 1) ls))
  head = at_drop_more (λ ms. with_lines i d (map (λ l. l.now) ms)) ls i b within

  pub goes_on : (e : Draft) → at_line i (with_line i d (get_or ls i b).now) ≡ Ok e → from_line d i ls ≡ from_line e (i + 1) ls
  unfolding with_lines
  goes_on e h = head ∙ rw h refl

  pub fails : (e : ReadError) → Fails e (at_line i (with_line i d (get_or ls i b).now)) → Fails e (from_line d i ls)
  unfolding with_lines
  fails errors.Memory h = tt
  fails (errors.TurnedAway t) h = head ∙ rw h refl

pub no_more : (d : Draft) (i : ℕ) (ls : List (Bor (List ℕ))) → length ls ≤ i → from_line d i ls ≡ Ok d
unfolding with_lines
no_more d i ls all = at_drop_all (λ ms. with_lines i d (map (λ l. l.now) ms)) ls i all
