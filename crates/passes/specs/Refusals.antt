-- What is turned away, with its number and its place. Assumes nothing: these are definitions.
use Rattle.std.specs.Prelude.{ℕ, cond, List, length, Some, None, Option, ◌==◌}
use Rattle.std.specs.Option.{option_map}
use Rattle.passes.specs.declared.refusals.Refusal.{Refusal}
use Rattle.passes.specs.declared.refusals.Refusal.TheVariants.{BadDishes, BadTurning, BadPass, BadRoom}
use Rattle.passes.specs.Checks.{dishes_ok, turning_ok}
use Rattle.passes.specs.Numbers.{passes_in, first_fault}

-- the number by which users know a refusal
abbrev pub number_of : Refusal → ℕ
number_of BadDishes = 1
number_of BadTurning = 1
number_of (BadPass i) = 2
number_of (BadRoom n) = 3

-- where the fault is: 0 for the dishes and 1 for the turning, the pass, or the length of the room
abbrev pub place_of : Refusal → ℕ
place_of BadDishes = 0
place_of BadTurning = 1
place_of (BadPass i) = i
place_of (BadRoom n) = n

-- the first of two refusals that applies
abbrev pub or_else : Option Refusal → Option Refusal → Option Refusal
or_else None b = b
or_else (Some a) b = Some a

-- the refusal that applies to a station: its dishes are looked at before the time that they take to turn
unfoldable pub station_refused : (k t : ℕ) → Option Refusal
station_refused k t = cond (dishes_ok k) (cond (turning_ok t) None (Some BadTurning)) (Some BadDishes)

-- a list is turned away at its first pass at fault
unfoldable pub list_refused : List ℕ → Option Refusal
list_refused xs = option_map BadPass (first_fault xs)

-- a room is turned away if it doesn't have a number for each of n passes
unfoldable pub room_refused : (n room : ℕ) → Option Refusal
room_refused n room = cond (room == n) None (Some (BadRoom room))

-- the refusal that applies to a station of k dishes that take t seconds to turn and to a list of numbers, if any does
unfoldable pub refused : (k t : ℕ) → List ℕ → Option Refusal
refused k t xs = or_else (station_refused k t) (list_refused xs)

-- the refusal that applies to a station, a list of numbers and a room of the given length: the room is looked at last
unfoldable pub refused_with_room : (k t : ℕ) → List ℕ → (room : ℕ) → Option Refusal
refused_with_room k t xs room = or_else (refused k t xs) (room_refused (length (passes_in xs)) room)
