-- Dishes given to passes in order of time, by the seconds from which each dish is free. Assumes nothing.
use Rattle.std.proofs.Common.{◌≡◌, ℕ, suc, ◌+◌, ◌<◌, ◌≤◌, true, ◌≢◌, List, length, get_or, set, sym, ◌∙◌, ⊎_elim, arith, get_or-set_other, get_or-set_same}
use Rattle.std.proofs.lemmas.Bool.{cases_eq, cases_lt}
use Rattle.std.proofs.lemmas.Bool.Decides.{nat_tests}
use Rattle.passes.specs.declared.model.Pass.{Pass}
use Rattle.passes.specs.declared.model.Station.{Station}
use Rattle.passes.specs.Follow.{may}
use Rattle.passes.specs.Plans.{Plan}
use Rattle.passes.specs.Rule.{nth, says, GoodPlan}
use Rattle.passes.proofs.Goodness.{fits_from}
use Rattle.capacity.specs.Assignments.{FirstOverfull, FollowsAll}
use Rattle.capacity.specs.Order.{InTime}
use Rattle.capacity.proofs.Greedy.{says_new, enough_dishes, given_good, none_free}

-- a plan that follows the first i passes and no others; each dish is free from the second in which it has turned from all that it follows
pub record Given (s : Station) (ps : List Pass) (free : List ℕ) (ds : Plan) (i : ℕ) : Type 0 where
  pub good : GoodPlan s ps ds
  pub done : (j : ℕ) → j < i → 0 < says ds j
  pub rest : (j : ℕ) → i ≤ j → says ds j ≡ 0
  pub turned : (j d : ℕ) → says ds j ≡ suc d → (nth ps j).to + s.turn ≤ get_or free d 0
  pub until : (d : ℕ) → 0 < get_or free d 0 → (j : ℕ) × (says ds j ≡ suc d) × (get_or free d 0 ≡ (nth ps j).to + s.turn)

-- at last all passes are followed
pub all_given : (s : Station) (ps : List Pass) (free : List ℕ) (ds : Plan) → Given s ps free ds (length ps) → FollowsAll s ps ds
all_given s ps free ds h = record { good = fits_from s ps ds h.good; each = h.done }

module _ (s : Station) (ps : List Pass) (in_time : InTime ps) (free : List ℕ) (ds : Plan) (i : ℕ) (within : i < length ps) (given : Given s ps free ds i) where
  -- what is followed stands before pass i, and begins no later
  followed_before : (j : ℕ) → 0 < says ds j → j < i
  followed_before j more = ⊎_elim (λ less. less) (λ past. absurd (omega (arith, given.rest j past))) (cases_lt j i)

  earlier : (j : ℕ) → 0 < says ds j → (nth ps j).from ≤ (nth ps i).from
  earlier j more = in_time.order j i (omega (arith, followed_before j more)) within

  -- where no dish is free for pass i, too many passes hold one as it begins, and for the first time
  pub too_many : ((d : ℕ) → d < s.dishes → (nth ps i).from < get_or free d 0) → FirstOverfull s ps (nth ps i).from
  too_many none = record {
    over = none_free s ps ds given.good i within (given.rest i (omega arith)) (in_time.ends i within) earlier (λ d l.
        let late = none d l in
        let last = given.until d (omega arith) in
        (last.0, last.1, omega (arith, last.2)));
    before = λ y l. enough_dishes s ps ds given.good y (λ j m h.
        ⊎_elim
        (λ less. given.done j less)
        (λ past. let later = in_time.order i j past m in absurd (grind (arith, nat_tests)))
        (cases_lt j i));
  }

  -- dish d is free for pass i, and may follow it
  module _ (d : ℕ) (there : d < s.dishes) (within_free : d < length free) (hears : may (nth ps i) d ≡ true) (is_free : get_or free d 0 ≤ (nth ps i).from) where
    -- what the new plan says
    says_here : says (set ds i (suc d)) i ≡ suc d
    says_here = says_new s ps ds given.good i within (suc d)

    says_other : (j : ℕ) → j ≢ i → says (set ds i (suc d)) j ≡ says ds j
    says_other j other = get_or-set_other ds i j (suc d) 0 other

    -- the second from which dish d is free now
    abbrev last : ℕ
    last = (nth ps i).to + s.turn

    free_from_last : get_or (set free d last) d 0 ≡ last
    free_from_last = get_or-set_same free d last 0 within_free

    -- each dish has turned from all that it follows in the second from which it is free, as before
    turned_more : (j e : ℕ) → says (set ds i (suc d)) j ≡ suc e → (nth ps j).to + s.turn ≤ get_or (set free d last) e 0
    turned_more j e gives =
        ⊎_elim
        (λ (here : j ≡ i). let same : e ≡ d = omega (arith, says_here, rw here at gives) in rw (same, free_from_last, here) (omega arith))
        (λ other.
        let before = given.turned j e (sym (says_other j other) ∙ gives) in
        ⊎_elim
        (λ (same : e ≡ d). rw (same, free_from_last) (omega (arith, in_time.ends i within, rw same at before)))
        (λ another. rw (get_or-set_other free d e last 0 another) before)
        (cases_eq e d))
        (cases_eq j i)

    -- and not earlier
    until_more : (e : ℕ) → 0 < get_or (set free d last) e 0 → (j : ℕ) × (says (set ds i (suc d)) j ≡ suc e) × (get_or (set free d last) e 0 ≡ (nth ps j).to + s.turn)
    until_more e more =
        ⊎_elim
        (λ same. (i, rw same says_here, rw same free_from_last))
        (λ another.
        let as_before = get_or-set_other free d e last 0 another in
        let before = given.until e (omega arith) in
        let earlier_one = followed_before before.0 (omega (arith, before.1)) in
        (before.0, says_other before.0 (omega arith) ∙ before.1, as_before ∙ before.2))
        (cases_eq e d)

    -- so one pass more is followed
    pub give_one : Given s ps (set free d last) (set ds i (suc d)) (i + 1)
    give_one = record {
      good = given_good s ps ds given.good i within d there hears (λ j same. omega (arith, given.turned j d same));
      done = λ j l. ⊎_elim (λ (same : j ≡ i). rw (same, says_here) (omega arith)) (λ other. rw (says_other j other) (given.done j (omega arith))) (cases_eq j i);
      rest = λ j l. rw (says_other j (omega arith)) (given.rest j (omega arith));
      turned = turned_more;
      until = until_more;
    }
