-- Why a state of the rule grants what another one does. Assumes nothing.
use Rattle.std.proofs.Common.{◌≡◌, ◌≢◌, ℕ, zero, suc, ◌+◌, ◌-◌, ◌*◌, ◌<◌, ◌≤◌, Bool, true, false, List, [], ◌∷◌, length, Some, None, Option, get_or, sym, refl, ap, ◌∙◌, ⊎_elim, arith, length-set, get_or-set_other, get_or-set_same}
use Rattle.std.specs.Prelude.{cond, min, nat_le, slice_get, slice_index_or, slice_set, ◌==◌, option_and_then}
use Rattle.std.specs.Option.{is_some}
use Rattle.std.proofs.lemmas.Bool.{and_from, and_parts, both_ways, cases_Bool, cases_lt, cases_order, le-leb, or_cases}
use Rattle.std.proofs.lemmas.Bool.Decides.{nat_tests}
use Rattle.std.proofs.Math.Nat.{min-le_left, min-le_right, mul-le-mul_left}
use Rattle.engine.specs.Rules.{Grants}
use Rattle.engine.specs.Runs.{leads}
use Rattle.slewing.specs.declared.directions.Leg.{Leg}
use Rattle.slewing.specs.declared.following.Last.{Last}
use Rattle.slewing.specs.declared.following.LastPasses.{LastPasses}
use Rattle.slewing.specs.Directions.{steps, one_way, arrives}
use Rattle.slewing.specs.Following.{last_of, can_follow, once_followed, is_in_time, go_on, slew_automaton, had_time, no_later, as_good, AllAsGood}

-- no direction is farther than 32 steps
pub steps_few : (a b : ℕ) → steps a b ≤ 32
steps_few a b =
    let low = min-le_left (one_way a b) (64 - one_way a b) in
    let high = min-le_right (one_way a b) (64 - one_way a b) in
    ⊎_elim (λ (near : one_way a b < 32). omega arith) (λ (far : 32 ≤ one_way a b). omega arith) (cases_lt (one_way a b) 32)

-- so many steps take no longer than the most
pub within_time : (k a b : ℕ) → k * steps a b ≤ k * 32
within_time k a b = mul-le-mul_left k (steps_few a b)

module _ (t k x : ℕ) (b : Leg) (late : x ≤ b.pass.from) where
  -- a dish that has had time for any turning is there
  there_in_time : (l : Last) → had_time t k x l ≡ true → arrives t k l.to l.end b ≡ true
  there_in_time l had =
      let most = within_time k l.end b.sweep.begin in
      let sum : l.to + (t + k * 32) ≤ x = grind (arith, nat_tests) in
      le-leb _ _ (omega (arith, most))

  -- and so is one that ended at the same direction no later than one that is
  there_no_later : (l : Last) (o : Option Last) → no_later l o ≡ true → can_follow t k b o ≡ true → arrives t k l.to l.end b ≡ true
  there_no_later l None sooner can = absurd (both_ways false refl sooner)
  there_no_later l (Some m) sooner can =
      let same : l.end ≡ m.end = grind (arith, nat_tests) in
      let before : l.to ≤ m.to = grind (arith, nat_tests) in
      let sum : m.to + (t + k * steps m.end b.sweep.begin) ≤ b.pass.from = grind (arith, nat_tests) in
      rw same (le-leb _ _ (omega arith))

  -- whatever a dish can follow from the second x on, one whose last pass is as good can
  pub follows_too : (o u : Option Last) → as_good t k x o u ≡ true → can_follow t k b u ≡ true → can_follow t k b o ≡ true
  follows_too None u good can = refl
  follows_too (Some l) u good can = ⊎_elim (there_in_time l) (λ sooner. there_no_later l u sooner can) (or_cases (had_time t k x l) (no_later l u) good)

-- a last pass is as good as itself
as_good_itself : (t k x : ℕ) (o : Option Last) → as_good t k x o o ≡ true
as_good_itself t k x None = refl
as_good_itself t k x (Some l) = grind (arith, nat_tests)

-- a pass of the list from pass i on begins in the second x or later
abbrev pub LateFrom : ℕ → List Leg → ℕ → Type 0
LateFrom x bs i = (j : ℕ) (b : Leg) → i ≤ j → slice_get bs j ≡ Some b → x ≤ b.pass.from

module _ (t k x : ℕ) where
  -- where both have the same last pass of a dish now, the one is as good as the other
  same_place :
      (xs ys : List (Option Last)) (j : ℕ) (o : Option Last) → j < length xs → j < length ys →
      as_good t k x (get_or (slice_set xs j o) j None) (get_or (slice_set ys j o) j None) ≡ true
  same_place xs ys j o l l₁ = rw (get_or-set_same xs j o None l, get_or-set_same ys j o None l₁) (as_good_itself t k x o)

  -- once the same dish has followed the same pass, the one is as good as the other still
  pub still : (a b : LastPasses) (leg : Leg) (d : ℕ) → d ≤ 4 → 0 < d → AllAsGood t k x a b → AllAsGood t k x (once_followed leg d a) (once_followed leg d b)
  still a b leg d few some g = record {
    places = length-set a.of_dish (d - 1) _ ∙ g.places;
    same_places = length-set b.of_dish (d - 1) _ ∙ g.same_places;
    each = λ i l.
        ⊎_elim
        (λ (here : i ≡ d - 1). rw here (same_place a.of_dish b.of_dish (d - 1) (Some (record { to = leg.pass.to; end = leg.sweep.end })) (omega (arith, g.places)) (omega (arith, g.same_places))))
        (λ other. let ne : i ≢ d - 1 = λ same. ⊎_elim (λ l. omega arith) (λ l. omega arith) other in rw (get_or-set_other a.of_dish (d - 1) i _ None ne, get_or-set_other b.of_dish (d - 1) i _ None ne) (g.each i l))
        (cases_order i (d - 1));
  }

  -- where both states of a dish may go on, the one is in time too
  in_time_too : (a b : LastPasses) (leg : Leg) (d : ℕ) → x ≤ leg.pass.from → 0 < d → AllAsGood t k x a b → is_in_time t k leg d b ≡ true → is_in_time t k leg d a ≡ true
  in_time_too a b leg d late some g h =
      let parts = and_parts (nat_le d 4) _ h in
      let few : d ≤ 4 = grind (arith, nat_tests) in
      and_from _ _ parts.0 (follows_too t k x leg late (last_of a d) (last_of b d) (g.each (d - 1) (omega arith)) parts.1)

  -- a decision after which the second state goes on in some way is one after which the first does, if it does wherever the second does
  one_step :
      (rest : LastPasses → Option LastPasses) → ((a b : LastPasses) → AllAsGood t k x a b → is_some (rest b) ≡ true → is_some (rest a) ≡ true) →
      (a b : LastPasses) (d : ℕ) (o : Option Leg) → ((leg : Leg) → o ≡ Some leg → x ≤ leg.pass.from) → AllAsGood t k x a b →
      is_some (option_and_then rest (option_and_then (go_on t k d b) o)) ≡ true → is_some (option_and_then rest (option_and_then (go_on t k d a) o)) ≡ true
  one_step rest on a b d None late g h = h
  one_step rest on a b d (Some leg) late g h = by (d == 0) (is_in_time t k leg d b) refl refl h
    where
      by :
          (z y : Bool) → (d == 0) ≡ z → is_in_time t k leg d b ≡ y → is_some (option_and_then rest (cond z (Some b) (cond y (Some (once_followed leg d b)) None))) ≡ true →
          is_some (option_and_then rest (go_on t k d a leg)) ≡ true
      by true y is is₁ h = rw is (on a b g h)
      by false true is is₁ h =
          let some : 0 < d = grind (arith, nat_tests) in
          let few : d ≤ 4 = grind (arith, nat_tests) in
          rw (is, in_time_too a b leg d (late leg refl) some g is₁) (on _ _ (still a b leg d few some g) h)
      by false false is is₁ h = absurd (both_ways false refl h)

  module _ (bs : List Leg) where
    -- so whatever choices the second state accepts, the first one accepts
    pub granted :
        (cs : List ℕ) (i : ℕ) (a b : LastPasses) → LateFrom x bs i → AllAsGood t k x a b →
        is_some (leads (slew_automaton t k bs).step i b cs) ≡ true → is_some (leads (slew_automaton t k bs).step i a cs) ≡ true
    unfolding leads
    granted [] i a b late g h = refl
    granted (d ∷ cs) i a b late g h =
        one_step
        (λ s. leads (slew_automaton t k bs).step (i + 1) s cs)
        (λ c e. granted cs (i + 1) c e (λ j leg l. late j leg (omega arith)))
        a b d (slice_get bs i) (λ leg is. late i leg (omega arith) is) g h
