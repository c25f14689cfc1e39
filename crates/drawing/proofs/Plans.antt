-- What a planned night says of what is drawn of it. Assumes nothing.
use Rattle.std.proofs.Common.{◌≡◌, ℕ, zero, suc, true, ◌+◌, ◌-◌, ◌*◌, ◌/◌, ◌<◌, ◌≤◌, List, [], ◌∷◌, max, length, slice_index_or, map, arith, rules, inl, inr, Some, None, Option, option_map}
use Rattle.std.specs.List.{fold, zip}
use Rattle.std.specs.Fmt.{decimal}
use Rattle.std.proofs.Math.Dec.{eqb-suc-zero}
use Rattle.std.proofs.lemmas.Bool.{cases_Bool, and_parts}
use Rattle.std.proofs.lemmas.Fmt.{length-decimal-le}
use Rattle.std.proofs.lemmas.List.{length-append, length-map, length-replicate}
use Rattle.std.proofs.lemmas.List.FromFn.{length-map-range_with_len}
use Rattle.std.proofs.lemmas.Slice.Zip.{length-zip}
use Rattle.std.proofs.lemmas.Bool.Decides.{nat_tests}
use Rattle.passes.specs.Checks.{in_range, all_in_range, dishes_ok, turning_ok}
use Rattle.passes.specs.declared.model.Pass.{Pass}
use Rattle.passes.specs.Nights.{passes_of}
use Rattle.passes.specs.Plans.{Plan, worth_of}
use Rattle.passes.specs.Rule.{nth, says}
use Rattle.passes.proofs.Checking.{checked_says, ranges_from, ranges_say}
use Rattle.passes.proofs.Goodness.{fits_says}
use Rattle.slewing.specs.declared.slewings.Slewing.{Slewing}
use Rattle.slewing.specs.Refusals.{slewing_ok}
use Rattle.slewing.specs.Slewings.{directed_of}
use Rattle.text.specs.declared.planned.Planned.{Planned}
use Rattle.text.specs.Labels.{shared, label_of, labels_of}
use Rattle.text.specs.Names.{is_name, are_names}
use Rattle.text.specs.Lists.{names_of}
use Rattle.drawing.specs.Columns.{first_second, scale_of}
use Rattle.drawing.specs.declared.scale.Scale.{Scale}
use Rattle.drawing.specs.Padding.{left}
use Rattle.drawing.specs.Rows.{cell, bars_of, row}
use Rattle.drawing.specs.Shown.{Shown, LanesThere, shown_of}
use Rattle.drawing.specs.Lanes.{heading, lane_name, step_told}
use Rattle.drawing.specs.Timelines.{row_line, label_width, scale_line, key_head, key_line, LettersInTheirRows, LinesFit}
use Rattle.drawing.proofs.Drawn.{letters_in_rows}

pub few_passes : (p : Planned) → length (passes_of p.night.night) ≤ 48
few_passes p = (checked_says p.night.night.station (passes_of p.night.night) p.night.night.ok).few

pub all_lasting : (p : Planned) → all_in_range (passes_of p.night.night) ≡ true
all_lasting p = ranges_from (passes_of p.night.night) (checked_says p.night.night.station (passes_of p.night.night) p.night.night.ok).ranges

pub one_each : (p : Planned) → length p.plan.items ≡ length (passes_of p.night.night)
one_each p = (fits_says p.night.night.station (passes_of p.night.night) p.plan.items p.good).one_each

pub lanes_there : (p : Planned) → LanesThere (shown_of p)
lanes_there p i lt = ((fits_says p.night.night.station (passes_of p.night.night) p.plan.items p.good).each i lt).there

pub labels_each : (p : Planned) → length (labels_of (names_of p.night) (passes_of p.night.night)) ≡ length (passes_of p.night.night)
labels_each p =
    let named : length (names_of p.night) ≡ length p.plan.items = rw length-map (search rules) in
    let zipped = length-zip (names_of p.night) (passes_of p.night.night) in
    rw length-map (omega (arith, zipped, named, one_each p))

pub planned_letters : (p : Planned) → LettersInTheirRows (shown_of p)
planned_letters p = letters_in_rows (shown_of p) (few_passes p) (one_each p)

four_dishes : (p : Planned) → p.night.night.station.dishes ≤ 4
unfolding dishes_ok
four_dishes p = let ok = (checked_says p.night.night.station (passes_of p.night.night) p.night.night.ok).dishes in grind (arith, nat_tests, ok)

-- a text at the left of a column
length-left : (width : ℕ) (text : List ℕ) → length text ≤ width → length (left width text) ≡ width
length-left width text short = rw (length-append, length-replicate) (omega arith)

name_short : (d : ℕ) → d ≤ 4 → length (lane_name d) ≤ 12
name_short zero le = omega arith
name_short (suc d) le =
    let one : length (decimal (suc d - 1)) ≤ 1 = length-decimal-le 1 (suc d - 1) (omega arith) (omega arith) (omega arith) in
    rw eqb-suc-zero (omega (arith, one))

row_long : (shown : Shown) (d : ℕ) → length (row shown d) ≡ 64
unfolding row
row_long shown d = length-map-range_with_len (cell (bars_of shown d)) 0 64

row_fits : (shown : Shown) (d : ℕ) → d ≤ 4 → length (row_line shown d) ≤ 80
row_fits shown d le =
    let named = length-left 13 (lane_name d) (omega (arith, name_short d le)) in
    rw (length-append, length-append, length-append, named, row_long shown d) (omega arith)

-- ---- the key

-- what a pass is called is at most a name, `@` and a second
label_short : (names : List (List ℕ)) (w : List ℕ) (p : Pass) → is_name w ≡ true → in_range p ≡ true → length (label_of names w p) ≤ 39
unfolding is_name in_range
label_short names w p named ok =
    let short : length w ≤ 32 = grind (arith, nat_tests) in
    let from : p.from < 1000000 = grind (arith, nat_tests) in
    let second : length (decimal p.from) ≤ 6 = length-decimal-le 6 p.from (omega arith) from (omega arith) in
    elim (cases_Bool (shared names w)) [
      | inl more ↦ rw (more, length-append) (omega (arith, short, second))
      | inr one ↦ rw one (omega arith)
    ]

labels_short :
    (names ws : List (List ℕ)) (ps : List Pass) → are_names ws ≡ true → all_in_range ps ≡ true →
    (i : ℕ) → length (slice_index_or (map (λ x. label_of names x.0 x.1) (zip ws ps)) i []) ≤ 39
unfolding all_in_range
labels_short names [] ps named ok i = omega arith
labels_short names (w ∷ ws) [] named ok i = omega arith
labels_short names (w ∷ ws) (p ∷ ps) named ok zero = label_short names w p (and_parts (is_name w) _ named).0 (and_parts (in_range p) _ ok).0
labels_short names (w ∷ ws) (p ∷ ps) named ok (suc i) = labels_short names ws ps (and_parts (is_name w) _ named).1 (and_parts (in_range p) _ ok).1 i

width_short :
    (labels : List (List ℕ)) (width : ℕ) → width ≤ 39 → ((i : ℕ) → length (slice_index_or labels i []) ≤ 39) →
    fold (λ width label. max width (length label)) width labels ≤ 39
width_short [] width le short = le
width_short (l ∷ ls) width le short = width_short ls (max width (length l)) (omega (arith, short 0)) (λ i. short (suc i))

key_fits :
    (shown : Shown) (width i : ℕ) → width ≤ 39 → length (slice_index_or shown.labels i []) ≤ 39 → in_range (nth shown.passes i) ≡ true → says shown.plan i ≤ 4 →
    length (key_line shown width i) ≤ 80
unfolding in_range
key_fits shown width i narrow short ok le =
    let p = nth shown.passes i in
    let from = length-decimal-le 6 p.from (omega arith) (grind (arith, nat_tests)) (grind (arith, nat_tests)) in
    let to = length-decimal-le 7 p.to (omega arith) (grind (arith, nat_tests)) (grind (arith, nat_tests)) in
    let worth = length-decimal-le 7 p.worth (omega arith) (grind (arith, nat_tests)) (grind (arith, nat_tests)) in
    let named = name_short (says shown.plan i) le in
    simp (length-append, length-replicate) (omega (arith, narrow, short, from, to, worth, named))

key_head_fits : (width : ℕ) → width ≤ 39 → length (key_head width) ≤ 81
key_head_fits width narrow = simp (length-append, length-replicate) (omega (arith, narrow))

-- ---- the heading and the scale

-- what a pass that is sound says is not large
record Small (p : Pass) : Type 0 where
  from : p.from ≤ 1000000
  to : p.to ≤ 1000000
  worth : p.worth ≤ 1000000

small : (p : Pass) → in_range p ≡ true → Small p
unfolding in_range
small p ok = record { from = grind (arith, nat_tests); to = grind (arith, nat_tests); worth = grind (arith, nat_tests) }

first_small : (ps : List Pass) → all_in_range ps ≡ true → first_second ps ≤ 1000000
unfolding all_in_range
first_small [] ok = omega arith
first_small (p ∷ ps) ok = (small p (and_parts (in_range p) _ ok).0).from

last_small : (ps : List Pass) (s : ℕ) → s ≤ 1000000 → all_in_range ps ≡ true → fold (λ s p. max s p.to) s ps ≤ 1000000
unfolding all_in_range
last_small [] s le ok = le
last_small (p ∷ ps) s le ok = last_small ps (max s p.to) (omega (arith, le, (small p (and_parts (in_range p) _ ok).0).to)) (and_parts (in_range p) _ ok).1

worth_small : (ps : List Pass) (ds : Plan) → all_in_range ps ≡ true → worth_of ps ds ≤ 1000000 * length ps
unfolding worth_of all_in_range
worth_small [] ds ok = omega arith
worth_small (p ∷ ps) [] ok = omega arith
worth_small (p ∷ ps) (d ∷ ds) ok =
    let here = (small p (and_parts (in_range p) _ ok).0).worth in
    let later = worth_small ps ds (and_parts (in_range p) _ ok).1 in
    grind (arith, nat_tests, here, later)

-- the seconds for a step are at most 1000000, as of all directions that are taken
step_short : (s : Option Slewing) → length (step_told (option_map directed_of s)) ≤ 14
unfolding step_told slewing_ok
step_short None = omega arith
step_short (Some s) =
    let ok = s.ok in
    let few : s.step ≤ 1000000 = grind (arith, nat_tests, ok) in
    let seconds = length-decimal-le 7 s.step (omega arith) (omega (arith, few)) (omega (arith, few)) in
    rw length-append (omega (arith, seconds))

heading_fits :
    (shown : Shown) → shown.worth < 100000000 → shown.station.dishes ≤ 4 → shown.station.turn ≤ 100000 → length (step_told shown.directed) ≤ 14 → length shown.passes ≤ 48 →
    length (heading shown) ≤ 79
heading_fits shown worth dishes turn step passes =
    let digits = length-decimal-le 8 shown.worth (omega arith) (omega arith) (omega arith) in
    let dish = length-decimal-le 1 shown.station.dishes (omega arith) (omega arith) (omega arith) in
    let seconds = length-decimal-le 6 shown.station.turn (omega arith) (omega arith) (omega arith) in
    let count = length-decimal-le 2 (length shown.passes) (omega arith) (omega arith) (omega arith) in
    simp length-append (omega (arith, digits, dish, seconds, step, count))

scale_fits : (s : Scale) → s.first ≤ 1000000 → s.last ≤ 1000000 → length (scale_line s) ≤ 80
scale_fits s low high =
    let first = length-decimal-le 7 s.first (omega arith) (omega arith) (omega arith) in
    let middle = length-decimal-le 7 ((s.first + s.last) / 2) (omega arith) (omega arith) (omega arith) in
    let last = length-decimal-le 7 s.last (omega arith) (omega arith) (omega arith) in
    simp (length-append, length-replicate) (omega (arith, first, middle, last))

quick_turn : (p : Planned) → p.night.night.station.turn ≤ 100000
unfolding turning_ok
quick_turn p = let ok = (checked_says p.night.night.station (passes_of p.night.night) p.night.night.ok).turning in grind (arith, nat_tests, ok)

pub planned_fits : (p : Planned) → LinesFit (shown_of p)
planned_fits p =
    let labels = labels_short (names_of p.night) (names_of p.night) (passes_of p.night.night) p.night.named (all_lasting p) in
    let narrow = width_short (shown_of p).labels 4 (omega arith) labels in
    let worth = worth_small (passes_of p.night.night) p.plan.items (all_lasting p) in
    record {
      head = heading_fits (shown_of p) (omega (arith, p.sum, worth, few_passes p)) (four_dishes p) (quick_turn p) (step_short p.night.slewing) (few_passes p);
      scale = scale_fits (scale_of (passes_of p.night.night)) (first_small (passes_of p.night.night) (all_lasting p)) (last_small (passes_of p.night.night) 0 (omega arith) (all_lasting p));
      key_head = key_head_fits (label_width (shown_of p).labels) narrow;
      rows = λ d le. row_fits (shown_of p) d (omega (arith, le, four_dishes p));
      key = λ i lt.
          key_fits (shown_of p) (label_width (shown_of p).labels) i narrow (labels i)
          (ranges_say (passes_of p.night.night) (all_lasting p) i lt)
          (omega (arith, lanes_there p i lt, four_dishes p));
    }
