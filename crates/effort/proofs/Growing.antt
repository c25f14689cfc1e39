-- Why a list that grows by passes in order is taken. Assumes nothing.
use Rattle.std.proofs.Common.{◌≡◌, ℕ, ◌+◌, ◌-◌, ◌*◌, ◌<◌, ◌≤◌, true, List, ◌++◌, length, sym, refl, ◌∙◌, subst, arith, below_more, slice_index}
use Rattle.std.specs.Prelude.{is_none}
use Rattle.std.proofs.lemmas.List.{length-append}
use Rattle.passes.specs.declared.model.Pass.{Pass}
use Rattle.passes.specs.Checks.{in_range, dishes_ok, turning_ok}
use Rattle.passes.specs.Numbers.{pass_at, sound}
use Rattle.passes.specs.Refusals.{refused}
use Rattle.passes.proofs.Fours.{same_pass, four, number_before, pass_last}
use Rattle.passes.proofs.Taking.{sound_taken, sound_from}
use Rattle.effort.specs.declared.shapes.Shape.{Shape}
use Rattle.effort.specs.Shapes.{BeginsOf, PassOf}

-- what is asked of pass i
pub record GoodPass (shape : Shape) (begins : List ℕ) (i : ℕ) (p : Pass) : Type 0 where
  pub range : in_range p ≡ true
  pub begin : p.from ≡ slice_index begins i
  pub of_shape : PassOf shape i p

module _ (shape : Shape) (begins : List ℕ) where
  -- the numbers of so many good passes
  pub record Growing (xs : List ℕ) (count : ℕ) : Type 0 where
    pub long : length xs ≡ 4 * count
    pub each : (i : ℕ) → i < count → GoodPass shape begins i (pass_at xs i)

  module _ (xs : List ℕ) (count : ℕ) (h : Growing xs count) (p : Pass) where
    -- passes before it stay as they were
    same_before : (k : ℕ) → k < count → pass_at (xs ++ four p) k ≡ pass_at xs k
    same_before k l = same_pass xs (xs ++ four p) count k (number_before xs count h.long p) l

    pub one_more : GoodPass shape begins count p → Growing (xs ++ four p) (count + 1)
    one_more good = record {
      long = length-append xs (four p) ∙ omega (arith, h.long);
      each = below_more (λ i. GoodPass shape begins i (pass_at (xs ++ four p) i)) count
          (λ i l. subst (GoodPass shape begins i) (sym (same_before i l)) (h.each i l))
          (subst (GoodPass shape begins count) (sym (pass_last xs count h.long p)) good);
    }

  -- once there is a pass for each begin, no refusal applies
  pub taken : (turn : ℕ) (xs : List ℕ) → BeginsOf shape begins → Growing xs (length begins) → length begins ≤ 48 → turning_ok turn ≡ true → is_none (refused 4 turn xs) ≡ true
  unfolding dishes_ok
  taken turn xs from h few turns =
      let all : (i : ℕ) → i < length begins → sound xs i ≡ true = λ i l. sound_from xs i (record {
        early = omega arith;
        whole = omega (arith, h.long);
        range = (h.each i l).range;
        order = λ later. omega (arith, (h.each (i - 1) (omega arith)).begin, (h.each i l).begin, from.order (i - 1) i 0 (omega arith) l);
      }) in
      rw (sound_taken 4 turn xs refl turns (λ k l. all k (omega (arith, h.long)))) refl
