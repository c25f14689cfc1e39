-- What a line says. Assumes nothing: these are definitions.
use Rattle.std.specs.Prelude.{ℕ, ◌/◌, ◌%◌, ◌^◌, ◌&&◌, List, [], ◌∷◌, length, drop, take, get_or, bit_or, bytes_eq, codes, slice_index, ◌==◌, nat_le, nat_lt, Some, None, Option, Ok, Err, Result, if◌then◌else◌}
use Rattle.std.specs.List.{position_or_len}
use Rattle.text.specs.declared.faults.LineFault.{LineFault}
use Rattle.text.specs.declared.faults.LineFault.TheVariants.{UnknownWord, NotStation, NotPass, BadDish, DishTwice}
use Rattle.text.specs.declared.line.Ends.{Ends}
use Rattle.text.specs.declared.line.Numbers.{Numbers}
use Rattle.text.specs.Words.{number_at, name_at}

infixl 10 ◌>>=◌
-- what a step gives is what the next one takes, and the first fault ends it
abbrev pub ◌>>=◌ : {A B E : Type 0} → Result A E → (A → Result B E) → Result B E
(Ok x) >>= f = f x
(Err e) >>= f = Err e

-- a pass as a line says it
pub record NamedPass : Type 0 where
  pub name : List ℕ
  pub numbers : Numbers
  pub directions : Option Ends

-- what a line may say
pub data Said : Type 0 where
  nothing : Said
  station : (dishes turn : ℕ) → (step : Option ℕ) → Said
  pass : NamedPass → Said

-- word i of a list of words, or no bytes where there is no such word
abbrev pub word : List (List ℕ) → ℕ → List ℕ
word ws i = get_or ws i []

-- the dishes that words name, as marks beside those of the dishes named before: bit d for dish d. A dish is below 32,
-- so that its mark has its place in 32 bits
unfoldable pub marks_from : ℕ → List (List ℕ) → Result ℕ LineFault
marks_from marks [] = Ok marks
marks_from marks (w ∷ ws) = do
  dish ← number_at w
  if nat_lt dish 32 then (if marks / 2 ^ dish % 2 == 1 then Err DishTwice else marks_from (bit_or marks (2 ^ dish)) ws) else Err BadDish

-- the seconds for a step that words say behind those for turning: none where there are no words, and else `step` and how
-- many
unfoldable pub step_at : List (List ℕ) → Result (Option ℕ) LineFault
step_at ws =
    if length ws == 0 then Ok None
    else if length ws == 2 && bytes_eq (word ws 0) (codes "step")
    then (do
      step ← number_at (word ws 1)
      Ok (Some step))
    else Err NotStation

-- the station that words say behind the word `dishes`, which begins a line: how many dishes, `turn`, the seconds that they
-- take to turn, and perhaps those for a step
unfoldable pub station_at : List (List ℕ) → Result Said LineFault
station_at ws =
    if nat_le 3 (length ws) && bytes_eq (word ws 1) (codes "turn")
    then (do
      step ← step_at (drop 3 ws)
      dishes ← number_at (word ws 0)
      turn ← number_at (word ws 2)
      Ok (station dishes turn step))
    else Err NotStation

-- how many of these words stand in front of the word `directions`: all, where it isn't among them
abbrev pub before_directions : List (List ℕ) → ℕ
before_directions ws = position_or_len (λ w. bytes_eq w (codes "directions")) ws

-- the dishes that the words behind `dishes` name, as marks
unfoldable pub marks_at : List (List ℕ) → Result ℕ LineFault
marks_at ws = marks_from 0 (take (before_directions ws) ws)

-- the directions that words say from the word `directions` on: none where there are no words, and else the one at which the
-- pass begins and the one at which it ends
unfoldable pub ends_at : List (List ℕ) → Result (Option Ends) LineFault
ends_at ws =
    if length ws == 0 then Ok None
    else if length ws == 3
    then (do
      begin ← number_at (word ws 1)
      end ← number_at (word ws 2)
      Ok (Some (record { begin = begin; end = end })))
    else Err NotPass

-- the directions that the words behind `dishes` say
unfoldable pub directions_at : List (List ℕ) → Result (Option Ends) LineFault
directions_at ws = ends_at (drop (before_directions ws) ws)

-- the pass that words say behind the word `pass`: a name, the second in which it begins, the one in which it has ended,
-- `worth`, how much, `dishes`, those that may follow it, and perhaps its directions
unfoldable pub pass_at : List (List ℕ) → Result Said LineFault
pass_at ws =
    if nat_le 6 (length ws) && (bytes_eq (word ws 3) (codes "worth") && bytes_eq (word ws 5) (codes "dishes"))
    then (do
      name ← name_at (word ws 0)
      from ← number_at (word ws 1)
      to ← number_at (word ws 2)
      worth ← number_at (word ws 4)
      marks ← marks_at (drop 6 ws)
      directions ← directions_at (drop 6 ws)
      Ok (pass (record { name = name; numbers = record { from = from; to = to; worth = worth; marks = marks }; directions = directions })))
    else Err NotPass

-- what the words of a line say: no words, or a first one that begins with #, say nothing
unfoldable pub said_by : List (List ℕ) → Result Said LineFault
said_by [] = Ok nothing
said_by (w ∷ ws) =
    if slice_index w 0 == 35 then Ok nothing
    else if bytes_eq w (codes "dishes") then station_at ws
    else if bytes_eq w (codes "pass") then pass_at ws
    else Err UnknownWord
