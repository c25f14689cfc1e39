-- That the decisions of a night over rounded states are lawful. Assumes nothing.
use Rattle.std.proofs.Common.{◌≡◌, ℕ, ◌+◌, ◌<◌, ◌≤◌, true, List, length, Some, sym, refl, subst, ⊎_elim, ◌≢◌, arith}
use Rattle.std.specs.Prelude.{slice_index}
use Rattle.std.proofs.lemmas.Bool.{cases_eq}
use Rattle.std.proofs.lemmas.Bool.Decides.{nat_tests}
use Rattle.engine.specs.Runs.{MoveLaws}
use Rattle.engine.specs.Gaining.{SumLaws}
use Rattle.passes.specs.declared.model.Pass.{Pass}
use Rattle.passes.specs.Rule.{nth}
use Rattle.pruning.specs.declared.rounding.TheConstants.{WIDE_PASSES}
use Rattle.pruning.specs.declared.rounding.NextPasses.{NextPasses}
use Rattle.pruning.specs.Rounding.{next_pass, each_dish, free_after, next_then, allowed, go_on, NextFor, Small, rounded_night}
use Rattle.pruning.specs.Suiting.{next_for, each_dish_at}

-- where a decision that is allowed leads
pub went_on : (turns : List ℕ) (ps : List Pass) (i c : ℕ) (s t : NextPasses) → go_on turns ps i c s ≡ Some t → (allowed turns i c s ≡ true) × (t ≡ each_dish (next_then turns ps i c s))
went_on turns ps i c s t h = (grind arith, grind arith)

-- the next pass of a dish after a decision is one of three
module _ (turns : List ℕ) (ps : List Pass) (i c : ℕ) (s : NextPasses) (d : ℕ) where
  -- it follows the pass
  pub then_followed : c ≡ d + 1 → next_then turns ps i c s d ≡ next_pass turns ps d (i + 1) (free_after turns (nth ps i) d)
  then_followed same = grind (arith, nat_tests)

  -- the pass was its next one, and it doesn't follow it
  pub then_waits : c ≢ d + 1 → slice_index s.next d ≡ i → next_then turns ps i c s d ≡ next_pass turns ps d (i + 1) 0
  then_waits other here = grind (arith, nat_tests)

  -- a dish that does not follow the pass, and whose next one it was not, keeps its next one
  pub then_kept : c ≢ d + 1 → slice_index s.next d ≢ i → next_then turns ps i c s d ≡ slice_index s.next d
  then_kept other later = grind (arith, nat_tests)

  -- what holds of a dish's next pass in each of the three cases holds of it
  pub then_cases :
      (P : ℕ → Type 0) →
      (c ≡ d + 1 → P (next_pass turns ps d (i + 1) (free_after turns (nth ps i) d))) →
      (c ≢ d + 1 → slice_index s.next d ≡ i → P (next_pass turns ps d (i + 1) 0)) →
      (c ≢ d + 1 → slice_index s.next d ≢ i → P (slice_index s.next d)) →
      P (next_then turns ps i c s d)
  then_cases P followed waits kept =
      ⊎_elim
      (λ same. subst P (sym (then_followed same)) (followed same))
      (λ other. ⊎_elim
      (λ here. subst P (sym (then_waits other here)) (waits other here))
      (λ later. subst P (sym (then_kept other later)) (kept other later))
      (cases_eq (slice_index s.next d) i))
      (cases_eq c (d + 1))

  -- it can be the next one there
  pub then_for : i < length ps → NextFor turns ps i d (slice_index s.next d) → NextFor turns ps (i + 1) d (next_then turns ps i c s d)
  then_for l h =
      let after : i + 1 ≤ length ps = omega arith in
      then_cases (NextFor turns ps (i + 1) d)
      (λ same. next_for turns ps d (free_after turns (nth ps i) d) (i + 1) after)
      (λ other here. next_for turns ps d 0 (i + 1) after)
      (λ other later. record { later = omega (arith, h.later); within = h.within; suited = h.suited })

-- decisions keep a next pass for each dish, and no more is allowed than is offered
pub rounded_moves : (turns : List ℕ) (ps : List Pass) → MoveLaws (rounded_night turns ps).moves
rounded_moves turns ps = record {
  fine_start = record {
    one_each = refl;
    each = λ d l. rw (each_dish_at (λ e. next_pass turns ps e 0 0) d l) (next_for turns ps d 0 0 (omega arith));
  };
  fine_step = λ i c s t l fine h.
      let went = went_on turns ps i c s t h in
      rw went.1
      (record {
        one_each = refl;
        each = λ d m. rw (each_dish_at (next_then turns ps i c s) d m) (then_for turns ps i c s d l (fine.each d m));
      });
  offered = λ i c s t l fine h. let may = (went_on turns ps i c s t h).0 in grind (arith, nat_tests);
}

-- no pass is worth more than is said of any, and all together fit
pub rounded_sums : (turns : List ℕ) (ps : List Pass) → Small ps → length ps ≤ WIDE_PASSES → SumLaws (rounded_night turns ps)
rounded_sums turns ps small few = record {
  at_most = λ i c s t l fine h. let one = small i l in grind (arith, nat_tests);
  fits = omega arith;
}
