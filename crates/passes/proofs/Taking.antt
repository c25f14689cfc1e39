-- Why a list whose passes are all sound is taken, and as what. Assumes nothing.
use Rattle.std.proofs.Common.{◌≡◌, ℕ, ◌+◌, ◌-◌, ◌*◌, ◌<◌, ◌≤◌, true, false, List, length, get_or, take, Some, None, Option, Ok, Err, Result, sym, refl, ap, ◌∙◌, ⊎_elim, arith, rules, MatchOption}
use Rattle.std.proofs.lemmas.List.{same_lists, length-take-le, get_or-take, get_or_default}
use Rattle.std.proofs.lemmas.Bool.{and_from, cases_lt, eq-eqb, le-leb, lt-ltb, or_left, or_right}
use Rattle.std.proofs.lemmas.Bool.Decides.{nat_tests}
use Rattle.std.specs.Option.{option_map}
use Rattle.std.specs.Result.{result_err, IsOk}
use Rattle.passes.specs.declared.model.Pass.{Pass}
use Rattle.passes.specs.declared.model.Station.{Station}
use Rattle.passes.specs.declared.nights.Night.{Night}
use Rattle.passes.specs.declared.refusals.Refusal.{Refusal}
use Rattle.passes.specs.declared.refusals.Refusal.TheVariants.{BadPass}
use Rattle.passes.specs.Checks.{in_range, checked, dishes_ok, turning_ok}
use Rattle.passes.specs.Numbers.{passes_in, pass_at, begun, in_order, sound, first_fault}
use Rattle.passes.specs.Nights.{station_of, passes_of, NightOf}
use Rattle.passes.specs.Refusals.{or_else, station_refused, list_refused, room_refused, refused, refused_with_room}
use Rattle.passes.specs.Rule.{no_pass, nth}
use Rattle.passes.specs.Statements.{PlaceIsFirst, TakenIfChecked}
use Rattle.passes.proofs.Checking.{checked_says, checked_from}
use Rattle.passes.proofs.Firsts.{IsFirst, first_says, one_first}
use Rattle.passes.proofs.Fours.{length-passes_in, get_or-passes_in}

-- what the checks of the numbers say of a pass
pub record SoundNumbers (xs : List ℕ) (i : ℕ) : Type 0 where
  pub early : i < 48
  pub whole : 4 * i + 4 ≤ length xs
  pub range : in_range (pass_at xs i) ≡ true
  pub order : 0 < i → get_or xs (4 * (i - 1)) 0 ≤ get_or xs (4 * i) 0

pub sound_says : (xs : List ℕ) (i : ℕ) → sound xs i ≡ true → SoundNumbers xs i
unfolding sound in_order
sound_says xs i h = record {
  early = grind (arith, nat_tests);
  whole = grind (arith, nat_tests);
  range = grind (arith, nat_tests);
  order = λ later. grind (arith, nat_tests);
}

pub sound_from : (xs : List ℕ) (i : ℕ) → SoundNumbers xs i → sound xs i ≡ true
unfolding sound in_order
sound_from xs i h =
    and_from _ _ (lt-ltb _ _ h.early) (and_from _ _ (le-leb _ _ h.whole) (and_from _ _ h.range
    (⊎_elim (λ later. or_right _ _ (le-leb _ _ (h.order later))) (λ first. or_left _ _ (eq-eqb i 0 (omega arith))) (cases_lt 0 i))))

module _ (xs : List ℕ) (all : (k : ℕ) → k < begun xs → sound xs k ≡ true) where
  -- the numbers come in fours, of which there are few enough
  pub fours : (length xs ≡ 4 * begun xs) × (begun xs ≤ 48)
  fours =
      ⊎_elim
      (λ some. let last = sound_says xs (begun xs - 1) (all (begun xs - 1) (omega arith)) in (omega arith, omega arith))
      (λ none. (omega arith, omega arith))
      (cases_lt 0 (begun xs))

  -- a pass of the list by its numbers
  nth_is : (i : ℕ) → i < begun xs → nth (passes_in xs) i ≡ pass_at xs i
  nth_is i l = get_or-passes_in xs i no_pass (omega (arith, fours))

  -- a room that holds these passes in front holds the list
  pub room_is : (room : List Pass) → length room ≡ 48 → ((k : ℕ) → k < begun xs → get_or room k no_pass ≡ pass_at xs k) → take (begun xs) room ≡ passes_in xs
  room_is room long filled =
      let long_take = length-take-le (begun xs) room (omega (arith, fours)) in
      same_lists _ _
      (long_take ∙ omega (arith, fours, length-passes_in xs))
      (λ k d h.
      let l : k < begun xs = omega arith in
      get_or-take (begun xs) room k d l ∙ get_or_default room k d no_pass (omega (arith, fours)) ∙ filled k l ∙ sym (get_or-passes_in xs k d (omega (arith, fours))))

  -- and the list passes the checks
  pub list_checked : (s : Station) → dishes_ok s.dishes ≡ true → turning_ok s.turn ≡ true → checked s (passes_in xs) ≡ true
  list_checked s dishes turning =
      let long = length-passes_in xs in
      checked_from s (passes_in xs) (record {
        dishes = dishes;
        turning = turning;
        few = omega (arith, fours);
        ranges = λ i h. ap in_range (nth_is i (omega (arith, fours))) ∙ (sound_says xs i (all i (omega (arith, fours)))).range;
        order = λ i h.
            let back : i + 1 - 1 ≡ i = omega arith in
            let l : i + 1 < begun xs = omega (arith, fours) in
            let before = ap (λ p. p.from) (nth_is i (omega arith)) in
            let after = ap (λ p. p.from) (nth_is (i + 1) l) in
            omega (arith, rw back at ((sound_says xs (i + 1) (all (i + 1) l)).order (omega arith)));
      })

  pub none_at_fault : first_fault xs ≡ None
  unfolding first_fault
  none_at_fault = one_first (sound xs) 0 (begun xs) _ None (first_says (sound xs) 0 (begun xs)) (λ k low high. all k (omega arith))

-- a pass at fault after sound ones is the first
pub first_at_fault : (xs : List ℕ) (i : ℕ) → i < begun xs → ((k : ℕ) → k < i → sound xs k ≡ true) → sound xs i ≡ false → first_fault xs ≡ Some i
unfolding first_fault
first_at_fault xs i l all fails =
    one_first (sound xs) 0 (begun xs) _ (Some i) (first_says (sound xs) 0 (begun xs)) (omega arith, omega arith, fails, λ k low high. all k high)

-- a station that is not turned away passes its checks
pub station_ok : (k t : ℕ) → station_refused k t ≡ None → (dishes_ok k ≡ true) × (turning_ok t ≡ true)
unfolding station_refused
station_ok k t h = grind (arith, nat_tests)

-- a room that is not turned away has a number for each pass
pub room_ok : (n room : ℕ) → room_refused n room ≡ None → room ≡ n
unfolding room_refused
room_ok n room h = grind (arith, nat_tests)

-- and a room with a number for each of n passes isn't
pub room_taken : {X : Type 0} (n room : ℕ) (r : Result X Refusal) → room ≡ n → result_err r ≡ room_refused n room → IsOk r
unfolding room_refused
room_taken n room (Ok w) same told = search rules
room_taken n room (Err why) same told = grind (arith, nat_tests)

-- what is refused without a room is refused with any
pub refused_anyway : (k t : ℕ) (xs : List ℕ) (room : ℕ) (r : Refusal) → Some r ≡ refused k t xs → Some r ≡ refused_with_room k t xs room
unfolding refused_with_room
refused_anyway k t xs room r told = ap (λ o. or_else o (room_refused (length (passes_in xs)) room)) told

-- once a night is read, what is refused is the room, if anything
pub room_refusal : (k t : ℕ) (xs : List ℕ) (n : Night) (room : ℕ) (o : Option Refusal) → None ≡ refused k t xs → NightOf k t xs n → o ≡ room_refused (length (passes_of n)) room → o ≡ refused_with_room k t xs room
unfolding refused_with_room
room_refusal k t xs n room o taken night told =
    told ∙ ap (λ ps. room_refused (length ps) room) night.same_passes ∙ ap (λ p. or_else p (room_refused (length (passes_in xs)) room)) taken

pub place_is_first : PlaceIsFirst
unfolding first_fault
place_is_first xs = by_cases (first_fault xs) (first_says (sound xs) 0 (begun xs))
  where
    by_cases : (o : Option ℕ) → IsFirst (sound xs) 0 (begun xs) o → MatchOption o ((k : ℕ) → k < begun xs → sound xs k ≡ true) (λ i. (i < begun xs) × (sound xs i ≡ false) × ((k : ℕ) → k < i → sound xs k ≡ true))
    by_cases None h = λ k l. h k (omega arith) (omega arith)
    by_cases (Some i) h = (omega (arith, h.1), h.2, λ k l. h.3 k (omega arith) l)

-- where neither of two refusals applies, each is none
or_else_none : (a b : Option Refusal) → or_else a b ≡ None → (a ≡ None) × (b ≡ None)
or_else_none None b h = (refl, h)
or_else_none (Some a) b h = absurd (grind arith)

no_fault : (o : Option ℕ) → option_map BadPass o ≡ None → o ≡ None
no_fault None h = refl
no_fault (Some i) h = absurd (grind arith)

-- a station in range and sound passes are refused nothing
pub sound_taken : (k t : ℕ) (xs : List ℕ) → dishes_ok k ≡ true → turning_ok t ≡ true → ((i : ℕ) → i < begun xs → sound xs i ≡ true) → refused k t xs ≡ None
unfolding refused list_refused station_refused
sound_taken k t xs can turns all = rw (can, turns, none_at_fault xs all) refl

-- and where nothing is refused, neither the station nor a pass is at fault
pub none_refused : (k t : ℕ) (xs : List ℕ) → refused k t xs ≡ None → (station_refused k t ≡ None) × (first_fault xs ≡ None)
unfolding refused list_refused
none_refused k t xs h = let parts = or_else_none (station_refused k t) (list_refused xs) h in (parts.0, no_fault (first_fault xs) parts.1)

taken_checked : (k t : ℕ) (xs : List ℕ) → refused k t xs ≡ None → (length xs ≡ 4 * length (passes_in xs)) × (checked (station_of k t) (passes_in xs) ≡ true)
taken_checked k t xs h =
    let parts = none_refused k t xs h in
    let ok = station_ok k t parts.0 in
    let all = rw parts.1 at (place_is_first xs) in
    (omega (arith, fours xs all, length-passes_in xs), list_checked xs all (station_of k t) ok.0 ok.1)

checked_taken : (k t : ℕ) (xs : List ℕ) → length xs ≡ 4 * length (passes_in xs) → checked (station_of k t) (passes_in xs) ≡ true → refused k t xs ≡ None
checked_taken k t xs in_fours h =
    let ps = passes_in xs in
    let ok = checked_says (station_of k t) ps h in
    let long = length-passes_in xs in
    let all : (i : ℕ) → i < begun xs → sound xs i ≡ true = λ i l. sound_from xs i (record {
      early = omega (arith, ok.few);
      whole = omega arith;
      range = ap in_range (sym (get_or-passes_in xs i no_pass (omega arith))) ∙ ok.ranges i (omega arith);
      order = λ later.
          let back : i - 1 + 1 ≡ i = omega arith in
          let before = ap (λ p. p.from) (get_or-passes_in xs (i - 1) no_pass (omega arith)) in
          let here = ap (λ p. p.from) (get_or-passes_in xs i no_pass (omega arith)) in
          omega (arith, rw back at (ok.order (i - 1) (omega arith)));
    }) in
    sound_taken k t xs ok.dishes ok.turning all

pub taken_if_checked : TakenIfChecked
taken_if_checked k t xs = (taken_checked k t xs, checked_taken k t xs)
