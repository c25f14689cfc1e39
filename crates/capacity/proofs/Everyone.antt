-- Why passes that all dishes may follow can all be followed exactly if never too many hold a dish. Assumes nothing.
use Rattle.std.proofs.Common.{◌≡◌, ℕ, zero, suc, ◌+◌, ◌<◌, ◌≤◌, Bool, not, ◌&&◌, ◌||◌, eqb, ltb, ◌≢◌, ◌⊎◌, List, length, set, replicate, sum_by, sym, refl, subst, inl, inr, ⊎_elim, arith, get_or-set_other}
use lib.ListN.{length-replicate}
use Rattle.std.proofs.lemmas.List.Sums.{get_or-le-sum_by}
use Rattle.std.proofs.lemmas.Bool.{cases_eq, cases_lt}
use Rattle.std.proofs.lemmas.Bool.Decides.{nat_tests}
use Rattle.passes.specs.declared.model.Pass.{Pass}
use Rattle.passes.specs.declared.model.Station.{Station}
use Rattle.passes.specs.Busy.{busy}
use Rattle.passes.specs.Plans.{Plan}
use Rattle.passes.specs.Rule.{no_pass, nth, says, GoodPlan}
use Rattle.passes.proofs.Goodness.{fits_from, fits_says}
use Rattle.capacity.specs.Assignments.{AllOpen, FollowsAll}
use Rattle.capacity.specs.Order.{EachEnds}
use Rattle.capacity.specs.Statements.{AllCanBeFollowed}
use Rattle.capacity.proofs.Greedy.{Free, Held, all_zero, none_followed, followed_within, says_new, enough_dishes, given_good, none_free}

-- if of each number P or Q holds, P holds of some number below n, or Q of all of them
some_or_all : (P Q : ℕ → Type 0) → ((k : ℕ) → P k ⊎ Q k) → (n : ℕ) → ((k : ℕ) × (k < n) × P k) ⊎ ((k : ℕ) → k < n → Q k)
some_or_all P Q either zero = inr (λ k l. absurd (omega arith))
some_or_all P Q either (suc n) =
    ⊎_elim
    (λ here. inl (n, omega arith, here))
    (λ here.
    ⊎_elim
    (λ some. inl (some.0, omega (arith, some.1), some.2))
    (λ all. inr (λ k l. ⊎_elim (λ less. all k less) (λ last. let same : k ≡ n = omega arith in rw same here) (cases_lt k n)))
    (some_or_all P Q either n))
    (either n)

-- pass j begins before the second x, or begins in it and stands before i
abbrev before : List Pass → (x i j : ℕ) → Bool
before ps x i j = ltb (nth ps j).from x || (eqb (nth ps j).from x && ltb j i)

-- a good plan that follows those passes and no others
record FollowsBefore (s : Station) (ps : List Pass) (x i : ℕ) : Type 0 where
  plan : Plan
  good : GoodPlan s ps plan
  those : (j : ℕ) → j < length ps → eqb (says plan j) 0 ≡ not (before ps x i j)

-- a step to the next place changes this of pass i alone, and only if that begins in the second x
before_next : (ps : List Pass) (x i j : ℕ) → (j ≡ i → (nth ps i).from ≡ x → ⊥) → before ps x (suc i) j ≡ before ps x i j
before_next ps x i j other =
    ⊎_elim
    (λ same. let late : (nth ps j).from ≢ x = λ e. other same (rw same at e) in grind (arith, nat_tests))
    (λ elsewhere. grind (arith, nat_tests))
    (cases_eq j i)

module _ (s : Station) (ps : List Pass) (ds : Plan) (good : GoodPlan s ps ds) (i d : ℕ) where
  -- pass j has dish d, which has not turned from it when pass i begins
  abbrev HeldBy : ℕ → Type 0
  HeldBy j = (says ds j ≡ suc d) × ((nth ps i).from < (nth ps j).to + s.turn)

  -- it has, or dish d has turned from it if it follows it
  held_or_not : (j : ℕ) → HeldBy j ⊎ (says ds j ≡ suc d → (nth ps j).to + s.turn ≤ (nth ps i).from)
  held_or_not j =
      ⊎_elim
      (λ same. ⊎_elim (λ later. inl (same, later)) (λ over. inr (λ _. over)) (cases_lt _ _))
      (λ other. inr (λ same. absurd (other same)))
      (cases_eq (says ds j) (suc d))

  -- so a dish is free for pass i, or some pass holds it
  free_or_held : Free s ps ds i d ⊎ Held s ps ds i d
  free_or_held =
      ⊎_elim
      (λ some. inr (some.0, some.2.0, some.2.1))
      (λ all. inl (λ j same. all j (followed_within s ps ds good j (omega arith)) same))
      (some_or_all HeldBy _ held_or_not (length ps))

module _ (s : Station) (ps : List Pass) (ends : EachEnds ps) (hear : AllOpen s.dishes ps) (few : (x : ℕ) → busy s.turn ps x ≤ s.dishes) where
  -- a pass gets a dish after all that begin before it, or with it and stand before it
  follow_one : (i : ℕ) → i < length ps → FollowsBefore s ps (nth ps i).from i → FollowsBefore s ps (nth ps i).from (suc i)
  follow_one i within h =
      let x = (nth ps i).from in
      let ds = h.plan in
      let those_i = h.those i within in
      let unfollowed : says ds i ≡ 0 = grind (arith, nat_tests) in
      let earlier : (j : ℕ) → 0 < says ds j → (nth ps j).from ≤ x = λ j more. let those_j = h.those j (followed_within s ps ds h.good j more) in grind (arith, nat_tests) in
      let free : (d : ℕ) × (d < s.dishes) × Free s ps ds i d = ⊎_elim
      (λ some. some)
      (λ none. absurd (omega (arith, few x, none_free s ps ds h.good i within unfollowed (ends i within) earlier none)))
      (some_or_all (Free s ps ds i) (Held s ps ds i) (free_or_held s ps ds h.good i) s.dishes) in
      record {
        plan = set ds i (suc free.0);
        good = given_good s ps ds h.good i within free.0 free.1 (hear i within free.0 free.1) free.2;
        those = λ j l.
            ⊎_elim
            (λ same.
            let says_j : says (set ds i (suc free.0)) j ≡ suc free.0 = rw same (says_new s ps ds h.good i within (suc free.0)) in
            let begins : (nth ps j).from ≡ x = rw same refl in
            grind (arith, nat_tests))
            (λ other. rw (get_or-set_other ds i j (suc free.0) 0 other, before_next ps x i j (λ same. absurd (other same))) (h.those j l))
            (cases_eq j i);
      }

  -- one place more in the second x
  follow_next : (x i : ℕ) → i < length ps → FollowsBefore s ps x i → FollowsBefore s ps x (suc i)
  follow_next x i within h =
      ⊎_elim
      (λ here. subst (λ y. FollowsBefore s ps y (suc i)) here (follow_one i within (subst (λ y. FollowsBefore s ps y i) (sym here) h)))
      (λ other. record { plan = h.plan; good = h.good; those = λ j l. rw (before_next ps x i j (λ _ e. other e)) (h.those j l) })
      (cases_eq (nth ps i).from x)

  -- all passes that begin in the second x, one place after the other
  follow_second : (x : ℕ) → FollowsBefore s ps x 0 → (i : ℕ) → i ≤ length ps → FollowsBefore s ps x i
  follow_second x h zero l = h
  follow_second x h (suc i) l = follow_next x i (omega arith) (follow_second x h i (omega arith))

  -- and so one second after the other
  follow_until : (x : ℕ) → FollowsBefore s ps x 0
  follow_until zero =
      record {
        plan = replicate (length ps) 0;
        good = none_followed s ps (replicate (length ps) 0) (length-replicate (length ps) 0) (all_zero (length ps));
        those = λ j l. let e = all_zero (length ps) j in grind (arith, nat_tests);
      }
  follow_until (suc x) =
      let h = follow_second x (follow_until x) (length ps) (omega arith) in
      record { plan = h.plan; good = h.good; those = λ j l. let those_j = h.those j l in grind (arith, nat_tests) }

  -- up to a second by which all have begun
  follow_all : (ds : Plan) × FollowsAll s ps ds
  follow_all =
      let h = follow_until (suc (sum_by (λ p. p.from) ps)) in (
        h.plan,
        record {
          good = fits_from s ps h.plan h.good;
          each = λ j l. let begins = get_or-le-sum_by (λ p. p.from) ps j no_pass l in let those_j = h.those j l in grind (arith, nat_tests);
        },
      )

pub all_can_be_followed : AllCanBeFollowed
all_can_be_followed s ps ends hear =
    (follow_all s ps ends hear, λ some x. enough_dishes s ps some.0 (fits_says s ps some.0 some.1.good) x (λ j l _. some.1.each j l))
