-- Why a list that grows by passes in order is taken. Assumes nothing.
use Rattle.std.proofs.Common.{◌≡◌, ℕ, zero, suc, ◌+◌, ◌-◌, ◌*◌, ◌<◌, ◌≤◌, true, List, ◌++◌, length, None, sym, refl, ap, ◌∙◌, subst, arith, below_more, slice_index}
use Rattle.std.proofs.lemmas.List.{length-append}
use Rattle.passes.specs.declared.model.Pass.{Pass}
use Rattle.passes.specs.Checks.{in_range, dishes_ok, turning_ok}
use Rattle.passes.specs.Numbers.{pass_at, sound}
use Rattle.passes.specs.Refusals.{refused}
use Rattle.trials.specs.declared.kinds.Kind.{Kind}
use Rattle.trials.specs.Kinds.{PassOf, begin_before}
use Rattle.passes.proofs.Fours.{same_pass, four, number_before, pass_last}
use Rattle.passes.proofs.Taking.{sound_taken, sound_from, sound_says}

-- the numbers of so many passes of a list of a kind, for k dishes, of which the last begins in a given second
pub record Growing (kind : Kind) (k : ℕ) (xs : List ℕ) (count from : ℕ) : Type 0 where
  pub long : length xs ≡ 4 * count
  pub sound_so_far : (i : ℕ) → i < count → sound xs i ≡ true
  pub kind_so_far : (i : ℕ) → i < count → PassOf kind k i (begin_before xs i) (pass_at xs i)
  pub last : from ≡ begin_before xs count
  pub early : from ≤ 100000 * count

-- where a pass before another begins
begins_at : (xs : List ℕ) (i : ℕ) → 0 < i → begin_before xs i ≡ slice_index xs (4 * (i - 1))
unfolding begin_before
begins_at xs zero l = absurd (omega arith)
begins_at xs (suc i) l = let back : suc i - 1 ≡ i = omega arith in rw back refl

-- one pass more
module _ (kind : Kind) (k : ℕ) (xs : List ℕ) (count from : ℕ) (p : Pass) (h : Growing kind k xs count from) where
  -- the numbers before it stay, and so do the passes
  before : (j : ℕ) → j < 4 * count → slice_index (xs ++ four p) j ≡ slice_index xs j
  before = number_before xs count h.long p

  same_before : (i : ℕ) → i < count → pass_at (xs ++ four p) i ≡ pass_at xs i
  same_before i l = same_pass xs (xs ++ four p) count i before l

  -- and then it comes
  here : pass_at (xs ++ four p) count ≡ p
  here = pass_last xs count h.long p

  longer : length (xs ++ four p) ≡ 4 * (count + 1)
  longer = length-append xs (four p) ∙ omega (arith, h.long)

  begins : slice_index (xs ++ four p) (4 * count) ≡ p.from
  begins = ap (λ q. q.from) here

  same_begin : (i : ℕ) → i ≤ count → begin_before (xs ++ four p) i ≡ begin_before xs i
  unfolding begin_before
  same_begin zero l = refl
  same_begin (suc i) l = before (4 * i) (omega arith)

  begins_last : begin_before (xs ++ four p) (count + 1) ≡ p.from
  unfolding begin_before
  begins_last =
      let next : count + 1 ≡ suc count = omega arith in
      rw next begins

  -- what holds of a pass holds where the same stands
  of_same : (i x y : ℕ) (q r : Pass) → x ≡ y → q ≡ r → PassOf kind k i y r → PassOf kind k i x q
  of_same i x y q r same_x same_q = subst (λ z. z) (λ t. PassOf kind k i (sym same_x t) (sym same_q t))

  sound_before : (i : ℕ) → i < count → sound (xs ++ four p) i ≡ true
  sound_before i l =
      let old = sound_says xs i (h.sound_so_far i l) in
      sound_from (xs ++ four p) i (record {
        early = old.early;
        whole = omega (arith, old.whole, longer, h.long);
        range = ap in_range (same_before i l) ∙ old.range;
        order = λ more. omega (arith, old.order more, before (4 * (i - 1)) (omega arith), before (4 * i) (omega arith));
      })

  module _ (few : count < 48) (later : from ≤ p.from) (range : in_range p ≡ true) where
    sound_here : sound (xs ++ four p) count ≡ true
    sound_here =
        sound_from (xs ++ four p) count (record {
          early = few;
          whole = omega (arith, longer);
          range = ap in_range here ∙ range;
          order = λ more. omega (arith, h.last, begins_at xs count more, later, before (4 * (count - 1)) (omega arith), begins);
        })

    pub one_more : p.from ≤ from + 100000 → PassOf kind k count from p → Growing kind k (xs ++ four p) (count + 1) p.from
    one_more soon of_kind = record {
      long = longer;
      sound_so_far = below_more (λ i. sound (xs ++ four p) i ≡ true) count sound_before sound_here;
      kind_so_far =
          below_more (λ i. PassOf kind k i (begin_before (xs ++ four p) i) (pass_at (xs ++ four p) i)) count
          (λ i l. of_same i _ _ _ _ (same_begin i (omega arith)) (same_before i l) (h.kind_so_far i l))
          (of_same count _ _ _ _ (same_begin count (omega arith) ∙ sym h.last) here of_kind);
      last = sym begins_last;
      early = omega (arith, h.early, soon);
    }

-- the list is taken
pub taken : (kind : Kind) (dishes turn : ℕ) (xs : List ℕ) (count from : ℕ) → Growing kind dishes xs count from → dishes_ok dishes ≡ true → turning_ok turn ≡ true → refused dishes turn xs ≡ None
taken kind dishes turn xs count from h can turns = sound_taken dishes turn xs can turns (λ k l. h.sound_so_far k (omega (arith, h.long)))
