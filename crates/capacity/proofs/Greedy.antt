-- Giving one more pass a dish, and why there is none for it only where too many passes hold one. Assumes nothing.
use Rattle.std.proofs.Common.{◌≡◌, ℕ, zero, suc, ◌+◌, ◌-◌, ◌<◌, ◌≤◌, true, false, eqb, ltb, ◌≢◌, List, length, set, replicate, sym, ◌∙◌, ⊎_elim, arith, length-set, get_or-set_other, get_or-set_same}
use lib.ListN.{length-replicate}
use Rattle.std.proofs.lemmas.List.{get_or_past, get_or-replicate}
use Rattle.std.proofs.lemmas.Bool.{both_ways, cases_Bool, cases_eq, cases_lt, le-leb, lt-ltb}
use Rattle.std.proofs.lemmas.Bool.Decides.{nat_tests}
use Rattle.passes.specs.declared.model.Pass.{Pass}
use Rattle.passes.specs.declared.model.Station.{Station}
use Rattle.passes.specs.Busy.{holds, busy}
use Rattle.passes.specs.Follow.{may, one_after}
use Rattle.passes.specs.Plans.{Plan}
use Rattle.passes.specs.Rule.{nth, says, SoundAt, GoodPlan}
use Rattle.passes.proofs.Goodness.{one_after_sym}
use Rattle.capacity.proofs.Crowd.{counts, held, crowd_le_busy, crowd_is_busy, crowd_some, crowd_none, crowd_one, among_at_least, among_at_most}

-- of two passes that one dish can follow, only one holds it in a second
hold_apart : (t : ℕ) (p q : Pass) (x : ℕ) → one_after t p q ≡ true → holds t p x ≡ true → holds t q x ≡ false
hold_apart t p q x after h = grind (arith, nat_tests)

-- one dish can follow both passes if it has turned from the second when the first begins
over_after : (t : ℕ) (p q : Pass) → q.to + t ≤ p.from → one_after t p q ≡ true
over_after t p q h = grind (arith, nat_tests)

-- a list of zeros has no other number, and none past its end
pub all_zero : (n i : ℕ) → says (replicate n 0) i ≡ 0
all_zero n i =
    ⊎_elim
    (λ less. get_or-replicate n i 0 0 less)
    (λ past. get_or_past (replicate n 0) i 0 (rw length-replicate past))
    (cases_lt i n)

-- a plan that follows no pass is good
pub none_followed : (s : Station) (ps : List Pass) (ds : Plan) → length ds ≡ length ps → ((i : ℕ) → says ds i ≡ 0) → GoodPlan s ps ds
none_followed s ps ds one_each none = record {
  one_each = one_each;
  each = λ i l.
      let e = none i in
      record { there = omega arith; hears = λ more. absurd (omega arith); no_clash = λ j c. omega (arith, c.followed) };
}

-- dish d has turned from all that it follows when pass i begins
abbrev pub Free : Station → List Pass → Plan → (i d : ℕ) → Type 0
Free s ps ds i d = (j : ℕ) → says ds j ≡ suc d → (nth ps j).to + s.turn ≤ (nth ps i).from

-- dish d follows a pass from which it has not turned when pass i begins
abbrev pub Held : Station → List Pass → Plan → (i d : ℕ) → Type 0
Held s ps ds i d = (j : ℕ) × (says ds j ≡ suc d) × ((nth ps i).from < (nth ps j).to + s.turn)

module _ (s : Station) (ps : List Pass) (ds : Plan) (good : GoodPlan s ps ds) where
  -- a pass that a plan follows is in the list
  pub followed_within : (j : ℕ) → 0 < says ds j → j < length ps
  followed_within j more =
      ⊎_elim (λ less. less) (λ past. absurd (omega (arith, get_or_past ds j 0 (omega (arith, good.one_each))))) (cases_lt j (length ps))

  -- a number that is written into a plan stands there
  pub says_new : (i : ℕ) → i < length ps → (e : ℕ) → says (set ds i e) i ≡ e
  says_new i within e = get_or-set_same ds i e 0 (omega (arith, good.one_each))

  -- two passes with one dish don't hold it in the same second
  one_holds : (x e : ℕ) → 0 < e → (i j : ℕ) → i < j → j < length ps → counts s.turn x (eqb e) ps ds i ≡ true → counts s.turn x (eqb e) ps ds j ≡ false
  one_holds x e more i j less l h =
      ⊎_elim
      (λ after. let no = hold_apart s.turn (nth ps i) (nth ps j) x after in grind (arith, nat_tests))
      (λ near.
      ⊎_elim
      (λ same.
      absurd ((good.each i (omega arith)).no_clash j (record { two = omega arith; within = l; followed = grind (arith, nat_tests); same_dish = grind (arith, nat_tests); too_near = near })))
      (λ other. other)
      (cases_Bool _))
      (cases_Bool (one_after s.turn (nth ps i) (nth ps j)))

  -- no more passes hold a dish than there are dishes, in a second in which a plan follows each that does
  pub enough_dishes : (x : ℕ) → ((j : ℕ) → j < length ps → holds s.turn (nth ps j) x ≡ true → 0 < says ds j) → busy s.turn ps x ≤ s.dishes
  enough_dishes x each =
      let none = crowd_none s.turn x (eqb 0) ps ds (λ j l. ⊎_elim (λ yes. let more = each j l yes in grind (arith, nat_tests)) (λ no. grind (arith, nat_tests)) (cases_Bool (holds s.turn (nth ps j) x))) in
      let most = among_at_most s.turn x ps ds none s.dishes (λ e more l. crowd_one s.turn x (eqb e) ps ds (one_holds x e more)) in
      let all = crowd_is_busy s.turn x (λ d. ltb d (suc s.dishes)) ps ds good.one_each (λ j l h. lt-ltb _ _ (omega (arith, (good.each j l).there))) in
      omega arith

  -- dish d may follow pass i, and has turned from all that it follows when that begins; so it can be given to it
  module _ (i : ℕ) (within : i < length ps) (d : ℕ) (there : d < s.dishes) (hears : may (nth ps i) d ≡ true) (free : Free s ps ds i d) where
    -- then nothing is wrong with pass i
    sound_here : SoundAt s ps (set ds i (suc d)) i
    sound_here =
        let says_i = says_new i within (suc d) in
        record {
          there = omega arith;
          hears = λ more. let e : suc d - 1 ≡ d = omega arith in rw (says_i, e) hears;
          no_clash = λ j c.
              let says_j = get_or-set_other ds i j (suc d) 0 (λ e. c.two (sym e)) in
              both_ways _ c.too_near (over_after s.turn (nth ps i) (nth ps j) (free j (omega (arith, c.same_dish))));
        }

    -- nor with any other
    sound_there : (k : ℕ) → k < length ps → k ≢ i → SoundAt s ps (set ds i (suc d)) k
    sound_there k l other =
        let says_k = get_or-set_other ds i k (suc d) 0 other in
        let old = good.each k l in
        record {
          there = rw says_k old.there;
          hears = rw says_k old.hears;
          no_clash = λ j c.
              ⊎_elim
              (λ new.
              let says_j : says (set ds i (suc d)) j ≡ suc d = rw new (says_new i within (suc d)) in
              let near = rw new at c.too_near in
              both_ways _ near (one_after_sym s.turn (nth ps k) (nth ps i) ∙ over_after s.turn (nth ps i) (nth ps k) (free k (omega (arith, c.same_dish)))))
              (λ same.
              let says_j = get_or-set_other ds i j (suc d) 0 same in
              old.no_clash j (record { two = c.two; within = c.within; followed = rw says_k at c.followed; same_dish = rw (says_k, says_j) at c.same_dish; too_near = c.too_near }))
              (cases_eq j i);
        }

    -- so the plan is good that gives the dish to the pass
    pub given_good : GoodPlan s ps (set ds i (suc d))
    given_good = record {
      one_each = length-set ds i (suc d) ∙ good.one_each;
      each = λ k l. ⊎_elim (λ same. rw same sound_here) (λ other. sound_there k l other) (cases_eq k i);
    }

  -- pass i is not followed yet, and none that is begins later
  module _ (i : ℕ) (within : i < length ps) (unfollowed : says ds i ≡ 0) (ends : (nth ps i).from < (nth ps i).to) (earlier : (j : ℕ) → 0 < says ds j → (nth ps j).from ≤ (nth ps i).from) where
    module _ (each : (d : ℕ) → d < s.dishes → Held s ps ds i d) where
      -- where each dish is held as it begins, some pass holds each, and pass i has none
      held_each : (e : ℕ) → e < suc s.dishes → 0 < held s.turn (nth ps i).from e ps ds
      held_each zero l =
          let begun = le-leb (nth ps i).from (nth ps i).from (omega arith) in
          crowd_some s.turn (nth ps i).from (eqb 0) ps ds good.one_each i within (grind (arith, nat_tests))
      held_each (suc d) l =
          let (j, gives, later) = each d (omega arith) in
          let begun = earlier j (omega arith) in
          crowd_some s.turn (nth ps i).from (eqb (suc d)) ps ds good.one_each j (followed_within j (omega arith)) (grind (arith, nat_tests))

      -- so too many passes hold a dish
      pub none_free : s.dishes < busy s.turn ps (nth ps i).from
      none_free =
          let least = among_at_least s.turn (nth ps i).from ps ds (suc s.dishes) held_each in
          omega (arith, crowd_le_busy s.turn (nth ps i).from (λ d. ltb d (suc s.dishes)) ps ds)
