-- Why random directions are taken. Assumes nothing.
use Rattle.std.proofs.Common.{◌≡◌, ℕ, ◌+◌, ◌/◌, ◌*◌, ◌<◌, ◌≤◌, true, List, length, None, refl, arith}
use Rattle.std.specs.Prelude.{All}
use Rattle.std.proofs.lemmas.Bool.{le-leb}
use Rattle.std.proofs.lemmas.Bool.Decides.{nat_tests}
use Rattle.slewing.specs.Numbers.{sound_sweep, is_around}
use Rattle.slewing.specs.Refusals.{slewing_refused}
use Rattle.slewing.proofs.Taking.{looked_at, none_at_fault}
use Rattle.trials.specs.declared.ways.Way.{Way}
use Rattle.trials.specs.Headings.{Drawn}

module _ (way : Way) (c n k : ℕ) (vs : List ℕ) (twos : length vs ≡ 2 * n) (drawn : All (Drawn way c) vs) where
  -- no more passes are looked at than there are
  as_many : looked_at n vs ≡ n
  as_many = let half : (length vs + 1) / 2 ≡ n = omega arith in rw half (grind (arith, nat_tests))

  sound : (i : ℕ) → i < looked_at n vs → sound_sweep n vs i ≡ true
  unfolding sound_sweep is_around
  sound i l =
      let there : i < n = rw as_many at l in
      let begin = (drawn (2 * i) 0 (omega arith)).0 in
      let end = (drawn (2 * i + 1) 0 (omega arith)).0 in
      grind (arith, nat_tests)

  pub none_refused : k ≤ 1000000 → slewing_refused n k vs ≡ None
  unfolding slewing_refused
  none_refused small = rw (le-leb k 1000000 small, none_at_fault n vs sound) refl
