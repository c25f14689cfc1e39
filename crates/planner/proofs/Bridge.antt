-- Why, for passes in order of begin, the good plans are those whose decisions can be made one after the other. Assumes nothing.
use Rattle.std.proofs.Common.{◌≡◌, ℕ, zero, suc, ◌+◌, ◌-◌, ◌<◌, ◌≤◌, true, false, List, [], ◌∷◌, length, get_or, Some, sym, refl, ap, ◌∙◌, ⊎_elim, arith}
use Rattle.std.proofs.lemmas.List.{get_or-set_same, get_or-set_other, length-set}
use Rattle.std.proofs.lemmas.Bool.{and_from, and_parts, both_ways, cases_eq}
use Rattle.std.proofs.lemmas.Bool.Decides.{nat_tests}
use Rattle.passes.specs.declared.model.Pass.{Pass}
use Rattle.passes.specs.Follow.{may}
use Rattle.passes.specs.Plans.{Plan, free_for, fits_one}
use Rattle.passes.specs.Rule.{nth, says}
use Rattle.passes.proofs.Goodness.{free_says, free_from, fits_one_says, fits_one_from}
use Rattle.capacity.specs.Order.{InTime}
use Rattle.planner.specs.declared.scheduling.FreeFrom.{FreeFrom}
use Rattle.planner.specs.Dishes.{seen_by, fits_each}
use Rattle.planner.specs.Nights.{after_following, decide}
use Rattle.planner.proofs.Following.{follow, follow_first}

-- what is left of passes in order of time is so too
pub in_time_tail : (p : Pass) (ps : List Pass) → InTime (p ∷ ps) → InTime ps
in_time_tail p ps h = record {
  ends = λ i l. h.ends (suc i) (omega arith);
  order = λ i j l m. h.order (suc i) (suc j) (omega arith) (omega arith);
}

-- when a dish is free
abbrev pub free_at : FreeFrom → ℕ → ℕ
free_at s d = get_or s.seconds (d - 1) 0

-- each pass that is followed begins no sooner than its dish is free
abbrev pub InReach : FreeFrom → List Pass → Plan → Type 0
InReach s ps ds = (j : ℕ) → j < length ps → 0 < says ds j → free_at s (says ds j) ≤ (nth ps j).from

-- a pass that isn't followed is no matter
reach_past : (p : Pass) (ps : List Pass) (s : FreeFrom) (ds : Plan) → InReach s ps ds → InReach s (p ∷ ps) (0 ∷ ds)
reach_past p ps s ds reach zero l some = absurd (omega arith)
reach_past p ps s ds reach (suc j) l some = reach j (omega arith) some

module _ (turns : List ℕ) where
  -- a plan has a number for each pass
  pub one_each : (ps : List Pass) (ds : Plan) → fits_each turns ps ds ≡ true → length ds ≡ length ps
  unfolding fits_each
  one_each [] [] h = refl
  one_each [] (d ∷ ds) h = absurd (both_ways false refl h)
  one_each (p ∷ ps) [] h = absurd (both_ways false refl h)
  one_each (p ∷ ps) (d ∷ ds) h = ap suc (one_each ps ds (and_parts (fits_one (seen_by turns d) p d ps ds) _ h).1)

  -- what a decision to follow says, and what has to be said for it
  pub record Followed (p : Pass) (d : ℕ) (s t : FreeFrom) : Type 0 where
    pub there : d ≤ length turns
    pub hears : may p (d - 1) ≡ true
    pub free : free_at s d ≤ p.from
    pub then : t ≡ after_following turns p d s

  decide_says : (p : Pass) (d : ℕ) (s t : FreeFrom) → 0 < d → decide turns p d s ≡ Some t → Followed p d s t
  decide_says p d s t more h = record { there = grind (arith, nat_tests); hears = grind (arith, nat_tests); free = grind (arith, nat_tests); then = grind (arith, nat_tests) }

  decide_from : (p : Pass) (d : ℕ) (s : FreeFrom) → 0 < d → d ≤ length turns → may p (d - 1) ≡ true → free_at s d ≤ p.from → decide turns p d s ≡ Some (after_following turns p d s)
  decide_from p d s more there hears free = grind (arith, nat_tests)

  -- a dish follows a pass: it is free again when it has turned, and the others when they were
  module _ (p : Pass) (ps : List Pass) (d : ℕ) (ds : Plan) (s : FreeFrom) (more : 0 < d) (room : d ≤ length s.seconds) (time : InTime (p ∷ ps)) (long : length ds ≡ length ps) where
    free_again : free_at (after_following turns p d s) d ≡ p.to + get_or turns (d - 1) 0
    free_again = get_or-set_same s.seconds (d - 1) _ 0 (omega arith)

    free_as_before : (e : ℕ) → 0 < e → (e ≡ d → ⊥) → free_at (after_following turns p d s) e ≡ free_at s e
    free_as_before e some other = get_or-set_other s.seconds (d - 1) (e - 1) _ 0 (omega arith)

    -- what it can follow then it could have followed before, and has time to turn to
    reach_back : InReach (after_following turns p d s) ps ds → free_at s d ≤ p.from → InReach s (p ∷ ps) (d ∷ ds)
    reach_back reach free zero l some = free
    reach_back reach free (suc j) l some =
        ⊎_elim
        (λ same. rw same (omega (arith, time.order 0 (suc j) (omega arith) l)))
        (λ other. omega (arith, reach j (omega arith) some, free_as_before (says ds j) some other))
        (cases_eq (says ds j) d)

    turned_to : InReach (after_following turns p d s) ps ds → free_for (seen_by turns d) p d ps ds ≡ true
    turned_to reach = free_from (seen_by turns d) p d ps ds long (λ j l same.
        let at = reach j l (omega arith) in
        let is = rw (← same) at at in
        let far : p.to + get_or turns (d - 1) 0 ≤ (nth ps j).from = omega (arith, free_again) in
        grind (arith, nat_tests))

    -- and what it has time to turn to it can follow then
    reach_on : InReach s (p ∷ ps) (d ∷ ds) → free_for (seen_by turns d) p d ps ds ≡ true → InReach (after_following turns p d s) ps ds
    reach_on reach free j l some =
        ⊎_elim
        (λ same.
        let far = free_says (seen_by turns d) p d ps ds long free j l (sym same) in
        let later = time.order 0 (suc j) (omega arith) (omega arith) in
        let ends = time.ends (suc j) (omega arith) in
        rw (same, free_again) (grind (arith, nat_tests)))
        (λ other. omega (arith, reach (suc j) (omega arith) some, free_as_before (says ds j) some other))
        (cases_eq (says ds j) d)

  module _ (n : ℕ) (few : length turns ≤ n) where
    -- decisions that can be made one after the other make a good plan
    pub good_from_follow : (ps : List Pass) (ds : Plan) (s e : FreeFrom) → length s.seconds ≡ n → InTime ps → length ds ≡ length ps → follow turns ps s ds ≡ Some e → (fits_each turns ps ds ≡ true) × InReach s ps ds
    unfolding follow fits_each fits_one
    good_from_follow [] [] s e room time long h = (refl, λ j l. absurd (omega arith))
    good_from_follow [] (d ∷ ds) s e room time long h = absurd (omega arith)
    good_from_follow (p ∷ ps) [] s e room time long h = absurd (omega arith)
    good_from_follow (p ∷ ps) (zero ∷ ds) s e room time long h =
        let rest = good_from_follow ps ds s e room (in_time_tail p ps time) (omega arith) h in
        (rest.0, reach_past p ps s ds rest.1)
    good_from_follow (p ∷ ps) (suc c ∷ ds) s e room time long h =
        let d = suc c in
        let first = follow_first turns p ps d ds s e h in
        let said = decide_says p d s first.0 (omega arith) first.1 in
        let rest = good_from_follow ps ds first.0 e (ap (λ t. length t.seconds) said.then ∙ length-set s.seconds (d - 1) _ ∙ room) (in_time_tail p ps time) (omega arith) first.2 in
        let reach = rw said.then at rest.1 in
        let turned = turned_to p ps d ds s (omega arith) (omega (arith, said.there)) time (omega arith) reach in (
          and_from _ _ (fits_one_from (seen_by turns d) p d ps ds (record { there = said.there; hears = λ _. said.hears; free = λ _. turned })) rest.0,
          reach_back p ps d ds s (omega arith) (omega (arith, said.there)) time (omega arith) reach said.free,
        )

    pub follow_from_good : (ps : List Pass) (ds : Plan) (s : FreeFrom) → length s.seconds ≡ n → InTime ps → fits_each turns ps ds ≡ true → InReach s ps ds → (e : FreeFrom) × (follow turns ps s ds ≡ Some e)
    unfolding follow fits_each fits_one
    follow_from_good [] [] s room time h reach = (s, refl)
    follow_from_good [] (d ∷ ds) s room time h reach = absurd (both_ways false refl h)
    follow_from_good (p ∷ ps) [] s room time h reach = absurd (both_ways false refl h)
    follow_from_good (p ∷ ps) (zero ∷ ds) s room time h reach = follow_from_good ps ds s room (in_time_tail p ps time) h (λ j l. reach (suc j) (omega arith))
    follow_from_good (p ∷ ps) (suc c ∷ ds) s room time h reach =
        let d = suc c in
        let parts = and_parts (fits_one (seen_by turns d) p d ps ds) (fits_each turns ps ds) h in
        let here = fits_one_says (seen_by turns d) p d ps ds parts.0 in
        let some : 0 < d = omega arith in
        let on = reach_on p ps d ds s some (omega (arith, here.there)) time (one_each ps ds parts.1) reach (here.free some) in
        let rest = follow_from_good ps ds (after_following turns p d s) (length-set s.seconds (d - 1) _ ∙ room) (in_time_tail p ps time) parts.1 on in
        let step = decide_from p d s some here.there (here.hears some) (reach 0 (omega arith) some) in
        (rest.0, rw step rest.1)
