-- What is written of a number, a name, dishes, a station and a pass is read again. Assumes nothing.
use Rattle.std.proofs.Common.{◌≡◌, ℕ, zero, suc, ◌^◌, ◌<◌, ◌≤◌, true, leb, List, ◌∷◌, ◌++◌, length, Some, None, Option, Ok, refl, ap, ◌∙◌, append-nil, arith}
use Rattle.std.specs.Prelude.{⊤, codes, option_map}
use Rattle.std.specs.Fmt.{decimal, digits}
use Rattle.std.proofs.lemmas.Bool.Decides.{nat_tests}
use Rattle.std.proofs.Math.Seq.{take-append_seam, drop-append_seam}
use Rattle.std.proofs.lemmas.Fmt.{digits_decimal, digits_value-decimal, decimal_nonempty}
use Rattle.passes.specs.declared.model.Pass.{Pass}
use Rattle.passes.specs.declared.model.Station.{Station}
use Rattle.slewing.specs.declared.directions.Sweep.{Sweep}
use Rattle.text.specs.declared.line.Ends.{Ends}
use Rattle.text.specs.Lines.{NamedPass, marks_from, step_at, before_directions, marks_at, ends_at, directions_at, station_at, pass_at, said_by}
use Rattle.text.specs.Lines.Said.{station, pass}
use Rattle.text.specs.Names.{is_name}
use Rattle.text.specs.Words.{is_blank, number_at, name_at}
use Rattle.text.specs.Writing.{behind, step_words, station_words, dish_words, direction_words, pass_words}
use Rattle.text.proofs.Cutting.{is_word, all_plain, all_words, plain}
use Rattle.text.proofs.Numbers.{own, is_number}

pub number_back : (n : ℕ) → n < 2 ^ 32 → number_at (decimal n) ≡ Ok n
number_back n small =
    let digits = digits_decimal own n (omega arith) in
    let value = digits_value-decimal own n (omega arith) in
    is_number (decimal n) digits (decimal_nonempty n (omega arith)) (rw value small) ∙ ap Ok value

pub name_back : (w : List ℕ) → is_name w ≡ true → name_at w ≡ Ok w
unfolding name_at
name_back w named = rw named refl

-- the words of dishes are read as these marks, and are words, and are few; and a word `directions` behind them is the first
pub record Marked (ws : List (List ℕ)) (m : ℕ) : Type 0 where
  pub read : marks_from 0 ws ≡ Ok m
  pub plain_words : all_words ws ≡ true
  pub short : leb (length (behind ws)) 8 ≡ true
  pub alone : before_directions ws ≡ length ws
  pub in_front : (vs : List (List ℕ)) → before_directions (ws ++ codes "directions" ∷ vs) ≡ length ws

-- each of the sixteen sets of marks is
sixteen : (f t w m : ℕ) → m ≤ 15 → Marked (dish_words (record { from = f; to = t; worth = w; marks = m })) m
unfolding dish_words marks_from number_at digits all_words is_word all_plain plain is_blank
sixteen f t w zero few = record { read = refl; plain_words = refl; short = refl; alone = refl; in_front = λ vs. refl }
sixteen f t w (suc zero) few = record { read = refl; plain_words = refl; short = refl; alone = refl; in_front = λ vs. refl }
sixteen f t w (suc (suc zero)) few = record { read = refl; plain_words = refl; short = refl; alone = refl; in_front = λ vs. refl }
sixteen f t w (suc (suc (suc zero))) few = record { read = refl; plain_words = refl; short = refl; alone = refl; in_front = λ vs. refl }
sixteen f t w (suc (suc (suc (suc zero)))) few = record { read = refl; plain_words = refl; short = refl; alone = refl; in_front = λ vs. refl }
sixteen f t w (suc (suc (suc (suc (suc zero))))) few = record { read = refl; plain_words = refl; short = refl; alone = refl; in_front = λ vs. refl }
sixteen f t w (suc (suc (suc (suc (suc (suc zero)))))) few = record { read = refl; plain_words = refl; short = refl; alone = refl; in_front = λ vs. refl }
sixteen f t w (suc (suc (suc (suc (suc (suc (suc zero))))))) few = record { read = refl; plain_words = refl; short = refl; alone = refl; in_front = λ vs. refl }
sixteen f t w (suc (suc (suc (suc (suc (suc (suc (suc zero)))))))) few = record { read = refl; plain_words = refl; short = refl; alone = refl; in_front = λ vs. refl }
sixteen f t w (suc (suc (suc (suc (suc (suc (suc (suc (suc zero))))))))) few = record { read = refl; plain_words = refl; short = refl; alone = refl; in_front = λ vs. refl }
sixteen f t w (suc (suc (suc (suc (suc (suc (suc (suc (suc (suc zero)))))))))) few = record { read = refl; plain_words = refl; short = refl; alone = refl; in_front = λ vs. refl }
sixteen f t w (suc (suc (suc (suc (suc (suc (suc (suc (suc (suc (suc zero))))))))))) few = record { read = refl; plain_words = refl; short = refl; alone = refl; in_front = λ vs. refl }
sixteen f t w (suc (suc (suc (suc (suc (suc (suc (suc (suc (suc (suc (suc zero)))))))))))) few = record { read = refl; plain_words = refl; short = refl; alone = refl; in_front = λ vs. refl }
sixteen f t w (suc (suc (suc (suc (suc (suc (suc (suc (suc (suc (suc (suc (suc zero))))))))))))) few = record { read = refl; plain_words = refl; short = refl; alone = refl; in_front = λ vs. refl }
sixteen f t w (suc (suc (suc (suc (suc (suc (suc (suc (suc (suc (suc (suc (suc (suc zero)))))))))))))) few = record { read = refl; plain_words = refl; short = refl; alone = refl; in_front = λ vs. refl }
sixteen f t w (suc (suc (suc (suc (suc (suc (suc (suc (suc (suc (suc (suc (suc (suc (suc zero))))))))))))))) few = record { read = refl; plain_words = refl; short = refl; alone = refl; in_front = λ vs. refl }
sixteen f t w (suc (suc (suc (suc (suc (suc (suc (suc (suc (suc (suc (suc (suc (suc (suc (suc m)))))))))))))))) few = absurd (omega (arith, few))

pub marked : (p : Pass) → p.marks ≤ 15 → Marked (dish_words p) p.marks
marked p few = sixteen p.from p.to p.worth p.marks few

-- numbers that may not be there are small enough to be read
abbrev pub SmallStep : Option ℕ → Type 0
SmallStep None = ⊤
SmallStep (Some k) = k < 2 ^ 32

abbrev pub SmallSweep : Option Sweep → Type 0
SmallSweep None = ⊤
SmallSweep (Some v) = (v.begin < 2 ^ 32) × (v.end < 2 ^ 32)

step_back : (k : Option ℕ) → SmallStep k → step_at (step_words k) ≡ Ok k
unfolding step_at
step_back None small = refl
step_back (Some k) small = rw (number_back k small) refl

three_more : (n : ℕ) → leb 3 (suc (suc (suc n))) ≡ true
three_more n = grind (arith, nat_tests)

pub station_back : (s : Station) (k : Option ℕ) → s.dishes < 2 ^ 32 → s.turn < 2 ^ 32 → SmallStep k → said_by (station_words s k) ≡ Ok (station s.dishes s.turn k)
unfolding said_by station_at
station_back s k few fast small = rw (three_more (length (step_words k)), step_back k small, number_back s.dishes few, number_back s.turn fast) refl

-- the directions of a pass are read as these numbers
abbrev pub ends_of : Sweep → Ends
ends_of v = record { begin = v.begin; end = v.end }

ends_back : (v : Option Sweep) → SmallSweep v → ends_at (direction_words v) ≡ Ok (option_map ends_of v)
unfolding ends_at
ends_back None small = refl
ends_back (Some v) small = rw (number_back v.begin small.0, number_back v.end small.1) refl

-- a pass is read as these numbers
abbrev pub said_of : List ℕ → Pass → Option Sweep → NamedPass
said_of name p v = record { name = name; numbers = record { from = p.from; to = p.to; worth = p.worth; marks = p.marks }; directions = option_map ends_of v }

six_more : (n : ℕ) → leb 6 (suc (suc (suc (suc (suc (suc n)))))) ≡ true
six_more n = grind (arith, nat_tests)

-- the words of directions stand behind those of the dishes
cut_before : (p : Pass) (v : Option Sweep) → p.marks ≤ 15 → before_directions (dish_words p ++ direction_words v) ≡ length (dish_words p)
cut_before p None few = ap before_directions (append-nil (dish_words p)) ∙ (marked p few).alone
cut_before p (Some v) few = (marked p few).in_front _

pub pass_back : (name : List ℕ) (p : Pass) (v : Option Sweep) → is_name name ≡ true → p.from < 2 ^ 32 → p.to < 2 ^ 32 → p.worth < 2 ^ 32 → p.marks ≤ 15 → SmallSweep v
    → said_by (pass_words name p v) ≡ Ok (pass (said_of name p v))
unfolding said_by pass_at marks_at directions_at
pass_back name p v named from to worth few small =
    let ws = dish_words p in
    let vs = direction_words v in
    rw (six_more (length (ws ++ vs)), cut_before p v few, drop-append_seam ws vs, take-append_seam ws vs, ends_back v small, name_back name named, number_back p.from from, number_back p.to to, number_back p.worth worth, (marked p few).read) refl
