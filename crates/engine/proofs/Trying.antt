-- The best so far while choices are tried. Assumes nothing.
use Rattle.std.proofs.Common.{◌≡◌, ℕ, ◌+◌, ◌-◌, ◌<◌, ◌≤◌, true, false, List, length, get_or, set, IfSome, Some, None, Option, sym, refl, ◌∙◌, ⊎_elim, arith, below_more}
use Rattle.std.proofs.lemmas.List.Elements.{All-set}
use Rattle.std.proofs.lemmas.Bool.Decides.{nat_tests}
use Rattle.std.proofs.lemmas.Bool.{both_ways, cases_Bool}
use Rattle.engine.specs.Runs.{MoveLaws, leads}
use Rattle.engine.specs.Problems.{Model, OrderLaws, Final, Covers, Answered}
use Rattle.engine.specs.declared.seen.Seen.{Seen}
use Rattle.engine.specs.Searching.{beats, Unbeaten, Holds, Improved, Exhausted, Known, choice_at}
use Rattle.engine.proofs.Ways.{way_end, way_first, fine_run}

-- two exchanges of the same choices leave all as they were
pub choice_twice : (first c : ℕ) → choice_at first (choice_at first c) ≡ c
choice_twice first c = grind (arith, nat_tests)

-- and the choices of all turns are choices
pub choice_offered : (first c n : ℕ) → c < n → first ≤ n - 1 → choice_at first c < n
choice_offered first c n l first_l = grind (arith, nat_tests)

module _ {S : Type 0} (m : Model S) where
  -- whatever doesn't beat the old best doesn't beat the new one
  pub still_unbeaten : {best best₁ : Option S} {room room₁ : List ℕ} → Improved m best room best₁ room₁ → (i : ℕ) (s : S) → Unbeaten m i s best → Unbeaten m i s best₁
  still_unbeaten {best} {best₁} better i s none cs e w =
      ⊎_elim (λ yes₁. absurd (both_ways _ (none cs e w) (better.no_worse e yes₁))) (λ no₁. no₁) (cases_Bool (beats m e best₁))

  pub improved_more : OrderLaws m.ahead → (best best₁ best₂ : Option S) (room room₁ room₂ : List ℕ) → Improved m best room best₁ room₁ → Improved m best₁ room₁ best₂ room₂ → Improved m best room best₂ room₂
  improved_more order best None best₂ room room₁ room₂ first second = record {
    holds = second.holds;
    no_worse = λ e h. first.no_worse e (second.no_worse e h);
    untouched = λ none. second.untouched none ∙ first.untouched refl;
  }
  improved_more order best (Some b) None room room₁ room₂ first second = absurd (both_ways _ (order.not_itself b) (second.no_worse b refl))
  improved_more order best (Some b) (Some b₂) room room₁ room₂ first second = record {
    holds = second.holds;
    no_worse = λ e h. first.no_worse e (second.no_worse e h);
    untouched = λ none. absurd (grind arith);
  }

  -- past the last stage nothing beats what the state itself doesn't beat
  pub unbeaten_end : (s : S) (best : Option S) → beats m s best ≡ false → Unbeaten m m.moves.stages s best
  unbeaten_end s best behind cs e w = rw (way_end m.moves s cs e w) behind

  -- the best so far is a final state
  pub fine_best : MoveLaws m.moves → (best : Option S) (room : List ℕ) → Holds m best room → IfSome best (Final m)
  fine_best laws None room holds = tt
  fine_best laws (Some b) room holds = fine_run m.moves laws room b holds

  -- from whatever state a choice leads to, no way on beats the best so far
  abbrev pub Passing : ℕ → S → ℕ → Option S → Type 0
  Passing i s c best = (t : S) → m.moves.step i c s ≡ Some t → Unbeaten m (i + 1) t best

  -- so it is with the choices of all turns before turn k
  abbrev pub Tried : ℕ → S → (first k : ℕ) → Option S → Type 0
  Tried i s first k best = (turn : ℕ) → turn < k → Passing i s (choice_at first turn) best

  -- a turn more, whose choice isn't allowed
  pub tried_refused : (i : ℕ) (s : S) (first k : ℕ) (best : Option S) → m.moves.step i (choice_at first k) s ≡ None → Tried i s first k best → Tried i s first (k + 1) best
  tried_refused i s first k best nowhere tried =
      below_more (λ turn. Passing i s (choice_at first turn) best) k tried (λ t h. let there : None ≡ Some t = sym nowhere ∙ h in absurd (grind arith))

  -- a turn more, whose choice is
  pub tried_more : (i : ℕ) (s : S) (first k : ℕ) (t : S) {best best₁ : Option S} {room room₁ : List ℕ} → m.moves.step i (choice_at first k) s ≡ Some t → Improved m best room best₁ room₁ → Unbeaten m (i + 1) t best₁ → Tried i s first k best → Tried i s first (k + 1) best₁
  tried_more i s first k t {best} {best₁} step better here tried =
      below_more
      (λ turn. Passing i s (choice_at first turn) best₁)
      k
      (λ turn l u h. still_unbeaten better (i + 1) u (tried turn l u h))
      (λ u h. let both : Some t ≡ Some u = sym step ∙ h in let there : t ≡ u = grind arith in rw (← there) here)

  -- once all are tried
  pub tried_all : MoveLaws m.moves → (i : ℕ) (s : S) (first : ℕ) (best : Option S) → i < m.moves.stages → m.moves.fine i s → first ≤ m.moves.choices i - 1 → Tried i s first (m.moves.choices i) best → Unbeaten m i s best
  tried_all laws i s first best l fine is_choice tried cs e w =
      let next = way_first m.moves i s cs e l w in
      let offered = laws.offered i next.choice s next.next l fine next.step in
      let turn = choice_at first next.choice in
      let back = choice_twice first next.choice in
      tried turn (choice_offered first next.choice (m.moves.choices i) offered is_choice) next.next (rw back next.step) next.rest e next.way

  -- what stands at a place of the table
  pub known_at : (table : List (Option (Seen S))) (k : ℕ) (d : Option (Seen S)) (x : Seen S) (best : Option S) → k < length table → get_or table k d ≡ Some x → Known m table best → Exhausted m best x
  known_at table k d x best l is known = rw is at (known k d l)

  -- one state more in the table
  pub known_more : (table table₁ : List (Option (Seen S))) (k : ℕ) (x : Seen S) (best : Option S) → table₁ ≡ set table k (Some x) → Exhausted m best x → Known m table best → Known m table₁ best
  known_more table table₁ k x best same passed known = rw same (All-set (λ o. IfSome o (Exhausted m best)) table k (Some x) passed known)

  -- a state that one before it covers
  pub unbeaten_covered : (i : ℕ) (a b : S) (best : Option S) → Covers m i a b → Unbeaten m i a best → Unbeaten m i b best
  unbeaten_covered i a b None covers none cs e w = let f = covers cs e w in absurd (both_ways true (none cs f.0 f.1) refl)
  unbeaten_covered i a b (Some best) covers none cs e w =
      let f = covers cs e w in
      ⊎_elim (λ yes. absurd (both_ways _ (none cs f.0 f.1) (f.2 best yes))) (λ no. no) (cases_Bool (m.ahead e best))

  -- what the room holds before the search, if it is a run
  pub holds_first : (room : List ℕ) (first : Option S) → length room ≡ m.moves.stages → first ≡ leads m.moves.step 0 m.moves.start room → Holds m first room
  holds_first room None long is = tt
  holds_first room (Some b) long is = record { one_each = omega (arith, long); ends = sym is }

  -- what the search ends with, and hands on
  pub answered :
      (first : Option S) (room after : List ℕ) (end : Option S) (room₁ : List ℕ) (best : Option S) → after ≡ room₁ → end ≡ best →
      Improved m first room best room₁ → Unbeaten m 0 m.moves.start best → Answered m room end after
  answered first room after end room₁ best same same₁ better none = rw (same, same₁) (by_best best better none)
    where
      by_best : (best : Option S) → Improved m first room best room₁ → Unbeaten m 0 m.moves.start best → Answered m room best room₁
      by_best None better none = (λ cs e r. both_ways true (none cs e r) refl, better.untouched refl)
      by_best (Some b) better none = record { run = better.holds; best = none }
