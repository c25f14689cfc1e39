-- Why the front of a list that is taken is taken too, and what may be planned. Assumes nothing.
use Rattle.std.proofs.Common.{◌≡◌, ℕ, ◌-◌, ◌*◌, ◌/◌, ◌<◌, true, List, length, take, eq-eqb, Some, None, Option, Ok, Err, Result, sym, refl, ap, ◌∙◌, arith, slice_index}
use Rattle.std.specs.Prelude.{is_none, IsOk}
use Rattle.std.specs.Result.{result_err}
use Rattle.std.proofs.lemmas.List.{get_or-take, length-take}
use Rattle.sensitivity.specs.Answers.{refused_with_rooms}
use Rattle.passes.specs.declared.refusals.Refusal.{Refusal}
use Rattle.passes.specs.Checks.{in_range, dishes_ok, turning_ok}
use Rattle.passes.specs.Numbers.{passes_in, sound, begun, first_fault}
use Rattle.passes.specs.Refusals.{refused, refused_with_room, room_refused, station_refused, list_refused}
use Rattle.passes.proofs.Fours.{length-passes_in, same_pass}
use Rattle.passes.proofs.Taking.{fours, place_is_first, sound_says, sound_from, sound_taken, none_refused, station_ok}

-- what is not there is none
none_of : {X : Type 0} (o : Option X) → is_none o ≡ true → o ≡ None
none_of None h = refl
none_of (Some x) h = absurd (grind arith)

-- what is not refused comes out well
pub ok_if_not_refused : {X : Type 0} (r : Result X Refusal) → result_err r ≡ None → IsOk r
ok_if_not_refused (Ok x) h = refl
ok_if_not_refused (Err why) h = absurd (grind arith)

module _ (turn : ℕ) (xs : List ℕ) (taken : is_none (refused 4 turn xs) ≡ true) where
  pub not_refused : refused 4 turn xs ≡ None
  not_refused = none_of (refused 4 turn xs) taken

  parts : (station_refused 4 turn ≡ None) × (first_fault xs ≡ None)
  parts = none_refused 4 turn xs not_refused

  station : (dishes_ok 4 ≡ true) × (turning_ok turn ≡ true)
  station = station_ok 4 turn parts.0

  -- the numbers of a list that is taken are those of sound passes
  all : (k : ℕ) → k < begun xs → sound xs k ≡ true
  all = rw parts.1 at (place_is_first xs)

  module _ (n : ℕ) where
    same : (j : ℕ) → j < 4 * n → slice_index (take (4 * n) xs) j ≡ slice_index xs j
    same j l = get_or-take (4 * n) xs j 0 l

    sound_front : (k : ℕ) → k < begun (take (4 * n) xs) → sound (take (4 * n) xs) k ≡ true
    sound_front k l =
        let long = length-take (4 * n) xs in
        let in_fours = (fours xs all).0 in
        let old = sound_says xs k (all k (omega (arith, long))) in
        let there : k < n = omega (arith, long) in
        sound_from _ k (record {
          early = old.early;
          whole = omega (arith, long, old.whole);
          range = ap in_range (same_pass xs (take (4 * n) xs) n k same there) ∙ old.range;
          order = λ later. omega (arith, old.order later, same (4 * (k - 1)) (omega arith), same (4 * k) (omega arith));
        })

    pub front_taken : is_none (refused 4 turn (take (4 * n) xs)) ≡ true
    front_taken = rw (sound_taken 4 turn (take (4 * n) xs) station.0 station.1 sound_front) refl

  -- nor is any room with a number for each pass refused
  pub room_taken : (room : ℕ) → room ≡ length xs / 4 → refused_with_room 4 turn xs room ≡ None
  unfolding refused_with_room room_refused
  room_taken room h =
      let same : room ≡ length (passes_in xs) = h ∙ sym (length-passes_in xs) in
      rw (not_refused, same, eq-eqb (length (passes_in xs)) (length (passes_in xs)) refl) refl

  -- nor are two such rooms
  pub rooms_taken : (room second : ℕ) → room ≡ length xs / 4 → second ≡ length xs / 4 → refused_with_rooms 4 turn xs room second ≡ None
  unfolding room_refused
  rooms_taken room second h k =
      let same : second ≡ length (passes_in xs) = k ∙ sym (length-passes_in xs) in
      rw (room_taken room h, same, eq-eqb (length (passes_in xs)) (length (passes_in xs)) refl) refl

  -- nor is it for one dish
  pub alone_taken : (room : ℕ) → room ≡ length xs / 4 → refused_with_room 1 turn xs room ≡ None
  unfolding refused_with_room room_refused refused list_refused station_refused dishes_ok
  alone_taken room h =
      let same : room ≡ length (passes_in xs) = h ∙ sym (length-passes_in xs) in
      rw (station.1, parts.1, same, eq-eqb (length (passes_in xs)) (length (passes_in xs)) refl) refl
