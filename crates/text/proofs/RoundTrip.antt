-- What is written of a list reads as that list. Assumes nothing.
use Rattle.std.proofs.Common.{◌≡◌, ℕ, zero, suc, ◌+◌, ◌*◌, ◌^◌, ◌<◌, ◌≤◌, true, false, ltb, List, [], ◌∷◌, ◌++◌, length, map, string_bytes, Some, None, Option, Ok, Result, refl, ap, ◌∙◌, append_assoc, append-nil, arith}
use Rattle.std.specs.Prelude.{Bool, is_some, option_map}
use Rattle.std.specs.List.{flat_map, list_all, zip}
use Rattle.std.proofs.lemmas.Bool.Decides.{nat_tests}
use Rattle.std.proofs.lemmas.List.{length-map}
use Rattle.passes.specs.declared.model.Pass.{Pass}
use Rattle.passes.specs.Checks.{dishes_ok, turning_ok, in_range, all_in_range, checked}
use Rattle.passes.specs.Nights.{passes_of}
use Rattle.passes.specs.Numbers.{passes_in}
use Rattle.passes.specs.Refusals.{refused}
use Rattle.passes.proofs.Taking.{taken_if_checked}
use Rattle.slewing.specs.declared.directions.Sweep.{Sweep}
use Rattle.slewing.specs.declared.slewings.Slewing.{Slewing}
use Rattle.slewing.specs.Numbers.{sweeps_in, is_around, are_around}
use Rattle.slewing.specs.Refusals.{slewing_ok}
use Rattle.slewing.specs.Slewings.{Directed, directed_of, each_directed}
use Rattle.text.specs.declared.draft.StationLine.{StationLine}
use Rattle.text.specs.declared.faults.TurnedAway.{TurnedAway}
use Rattle.text.specs.declared.nights.NamedNight.{NamedNight}
use Rattle.text.specs.declared.line.Ends.{Ends}
use Rattle.text.specs.Drafts.{Draft, Entry, empty, at_line, with_said, with_line, with_lines, draft_of}
use Rattle.text.specs.Lines.{◌>>=◌, said_by}
use Rattle.text.specs.Lists.{NamedList, names_of, list_of}
use Rattle.text.specs.Names.{is_name, are_names, name_each}
use Rattle.text.specs.Reading.{numbers_of, names_in, two_of, ends_in, directions_of, directions_refused, refused_in, directed_in, taken, read_text}
use Rattle.text.specs.Statements.{directed_ok, Listed, RoundTrip}
use Rattle.text.specs.Writing.{station_words, pass_words, spaced, step_of, sweeps_each, lines, written}
use Rattle.text.proofs.Around.{taken_if_ok}
use Rattle.text.proofs.Cutting.{all_words, all_lines, words_back, lines_back}
use Rattle.text.proofs.Fitting.{fits_if}
use Rattle.text.proofs.PlainWords.{station_plain, pass_plain}
use Rattle.text.proofs.ShortLines.{station_short, pass_short}
use Rattle.text.proofs.Spelled.{SmallStep, SmallSweep, said_of, ends_of, station_back, pass_back}
use Rattle.text.proofs.TakingLists.{fours, for_directions, accepted}
use Rattle.text.proofs.Twos.{AllSome, twos}

-- a line made of words is read as what they say
line_back : (i : ℕ) (d : Draft) (ws : List (List ℕ)) → all_words ws ≡ true → length (spaced ws) ≤ 1000 → with_line i d (spaced ws) ≡ (said_by ws >>= with_said i d)
unfolding with_line
line_back i d ws plain short = rw (not_long (length (spaced ws)) short, words_back ws plain) refl
  where
    not_long : (n : ℕ) → n ≤ 1000 → ltb 1000 n ≡ false
    not_long n h = grind (arith, nat_tests)

-- the passes of a list, with or without directions, which lines from i on say
entries_from : ℕ → List (List ℕ) → List Pass → List (Option Sweep) → List Entry
entries_from i [] ps vs = []
entries_from i (n ∷ ns) [] vs = []
entries_from i (n ∷ ns) (p ∷ ps) [] = []
entries_from i (n ∷ ns) (p ∷ ps) (v ∷ vs) = record { pass = said_of n p v; line = i } ∷ entries_from (i + 1) ns ps vs

pass_lines : List (List ℕ) → List Pass → List (Option Sweep) → List (List (List ℕ))
pass_lines ns ps vs = map (λ x. pass_words x.0 x.1.0 x.1.1) (zip ns (zip ps vs))

-- a pass that passes the checks has numbers that are not too large
record Small (p : Pass) : Type 0 where
  from : p.from < 2 ^ 32
  to : p.to < 2 ^ 32
  worth : p.worth < 2 ^ 32
  marks : p.marks ≤ 15

small : (p : Pass) → in_range p ≡ true → Small p
unfolding in_range
small p h = record { from = grind (arith, nat_tests); to = grind (arith, nat_tests); worth = grind (arith, nat_tests); marks = grind (arith, nat_tests) }

-- a pass may have these directions, or none, behind a station with this step, or with none
abbrev suits : Option ℕ → Option Sweep → Bool
suits None None = true
suits None (Some v) = false
suits (Some k) None = false
suits (Some k) (Some v) = is_around v

abbrev all_suit : Option ℕ → List (Option Sweep) → Bool
all_suit k vs = list_all (suits k) vs

small_sweep : (k : Option ℕ) (v : Option Sweep) → suits k v ≡ true → SmallSweep v
unfolding is_around
small_sweep None None h = tt
small_sweep None (Some v) h = absurd cc
small_sweep (Some k) None h = absurd cc
small_sweep (Some k) (Some v) h = (grind (arith, nat_tests), grind (arith, nat_tests))

both_or_none : (k : Option ℕ) (v : Option Sweep) → suits k v ≡ true → is_some (option_map ends_of v) ≡ is_some k
both_or_none None None h = refl
both_or_none None (Some v) h = absurd cc
both_or_none (Some k) None h = absurd cc
both_or_none (Some k) (Some v) h = refl

passes_plain : (k : Option ℕ) (ns : List (List ℕ)) (ps : List Pass) (vs : List (Option Sweep)) → are_names ns ≡ true → all_in_range ps ≡ true → all_suit k vs ≡ true → all_lines (pass_lines ns ps vs) ≡ true
unfolding pass_lines all_in_range all_lines
passes_plain k [] ps vs named ranged suit = refl
passes_plain k (n ∷ ns) [] vs named ranged suit = refl
passes_plain k (n ∷ ns) (p ∷ ps) [] named ranged suit = refl
passes_plain k (n ∷ ns) (p ∷ ps) (v ∷ vs) named ranged suit =
    let s = small p (grind (arith, nat_tests)) in
    let sweep = small_sweep k v (grind (arith, nat_tests)) in
    rw (pass_plain n p v (grind (arith, nat_tests)) s.from s.to s.worth s.marks sweep, passes_plain k ns ps vs (grind (arith, nat_tests)) (grind (arith, nat_tests)) (grind (arith, nat_tests))) refl

blank_line : (i : ℕ) (d : Draft) → with_line i d [] ≡ Ok d
unfolding with_said said_by all_words
blank_line i d = line_back i d [] refl (omega arith)

-- a station and passes are read
abbrev read_so_far : StationLine → List Entry → Result Draft TurnedAway
read_so_far s es = Ok (record { station = Some s; entries = es })

module _ (i : ℕ) (s : StationLine) (es : List Entry) where
  ended : at_line i (with_line i (record { station = Some s; entries = es }) []) ≡ read_so_far s es
  unfolding at_line
  ended = rw (blank_line i (record { station = Some s; entries = es })) refl

  one_pass : (n : List ℕ) (p : Pass) (v : Option Sweep) → is_name n ≡ true → Small p → suits s.step v ≡ true
      → at_line i (with_line i (record { station = Some s; entries = es }) (spaced (pass_words n p v))) ≡ read_so_far s (es ++ (record { pass = said_of n p v; line = i } ∷ []))
  unfolding at_line with_said
  one_pass n p v named small suit =
      let sweep = small_sweep s.step v suit in
      let fits = fits_if s (option_map ends_of v) (both_or_none s.step v suit) in
      rw (
        line_back i (record { station = Some s; entries = es }) (pass_words n p v) (pass_plain n p v named small.from small.to small.worth small.marks sweep) (pass_short n p v named small.from small.to small.worth small.marks sweep),
        pass_back n p v named small.from small.to small.worth small.marks sweep,
        fits,
      ) refl

passes_read : (i : ℕ) (s : StationLine) (es : List Entry) (ns : List (List ℕ)) (ps : List Pass) (vs : List (Option Sweep)) → are_names ns ≡ true → all_in_range ps ≡ true → all_suit s.step vs ≡ true
    → with_lines i (record { station = Some s; entries = es }) (map spaced (pass_lines ns ps vs) ++ ([] ∷ [])) ≡ read_so_far s (es ++ entries_from i ns ps vs)
unfolding pass_lines entries_from all_in_range with_lines
passes_read i s es [] ps vs named ranged suit = rw (ended i s es, append-nil es) refl
passes_read i s es (n ∷ ns) [] vs named ranged suit = rw (ended i s es, append-nil es) refl
passes_read i s es (n ∷ ns) (p ∷ ps) [] named ranged suit = rw (ended i s es, append-nil es) refl
passes_read i s es (n ∷ ns) (p ∷ ps) (v ∷ vs) named ranged suit =
    let e : Entry = record { pass = said_of n p v; line = i } in
    rw (one_pass i s es n p v (grind (arith, nat_tests)) (small p (grind (arith, nat_tests))) (grind (arith, nat_tests)))
    (passes_read (i + 1) s (es ++ (e ∷ [])) ns ps vs (grind (arith, nat_tests)) (grind (arith, nat_tests)) (grind (arith, nat_tests)) ∙ ap (read_so_far s) (append_assoc es (e ∷ []) (entries_from (i + 1) ns ps vs)))

-- names, passes and directions, one of each for each pass
abbrev Even : List (List ℕ) → List Pass → List (Option Sweep) → Type 0
Even ns ps vs = (length ns ≡ length ps) × (length vs ≡ length ps)

-- what the passes are, once they are read
names_back : (i : ℕ) (ns : List (List ℕ)) (ps : List Pass) (vs : List (Option Sweep)) → Even ns ps vs → names_in (entries_from i ns ps vs) ≡ ns
unfolding entries_from
names_back i [] ps vs same = refl
names_back i (n ∷ ns) [] vs same = absurd (omega (arith, same.0))
names_back i (n ∷ ns) (p ∷ ps) [] same = absurd (omega (arith, same.1))
names_back i (n ∷ ns) (p ∷ ps) (v ∷ vs) same = ap (λ ws. n ∷ ws) (names_back (i + 1) ns ps vs (omega (arith, same.0), omega (arith, same.1)))

passes_back : (i : ℕ) (ns : List (List ℕ)) (ps : List Pass) (vs : List (Option Sweep)) → Even ns ps vs → passes_in (numbers_of (entries_from i ns ps vs)) ≡ ps
unfolding entries_from passes_in
passes_back i [] [] vs same = refl
passes_back i [] (p ∷ ps) vs same = absurd (omega (arith, same.0))
passes_back i (n ∷ ns) [] vs same = absurd (omega (arith, same.0))
passes_back i (n ∷ ns) (p ∷ ps) [] same = absurd (omega (arith, same.1))
passes_back i (n ∷ ns) (p ∷ ps) (v ∷ vs) same = ap (λ qs. p ∷ qs) (passes_back (i + 1) ns ps vs (omega (arith, same.0), omega (arith, same.1)))

ends_back : (i : ℕ) (ns : List (List ℕ)) (ps : List Pass) (vs : List (Option Sweep)) → Even ns ps vs → ends_in (entries_from i ns ps vs) ≡ map (option_map ends_of) vs
unfolding entries_from
ends_back i [] [] [] same = refl
ends_back i [] [] (v ∷ vs) same = absurd (omega (arith, same.1))
ends_back i [] (p ∷ ps) vs same = absurd (omega (arith, same.0))
ends_back i (n ∷ ns) [] vs same = absurd (omega (arith, same.0))
ends_back i (n ∷ ns) (p ∷ ps) [] same = absurd (omega (arith, same.1))
ends_back i (n ∷ ns) (p ∷ ps) (v ∷ vs) same = ap (λ us. option_map ends_of v ∷ us) (ends_back (i + 1) ns ps vs (omega (arith, same.0), omega (arith, same.1)))

length-entries : (i : ℕ) (ns : List (List ℕ)) (ps : List Pass) (vs : List (Option Sweep)) → Even ns ps vs → length (entries_from i ns ps vs) ≡ length ps
length-entries i ns ps vs same =
    let es = entries_from i ns ps vs in
    omega (arith, length-map es (λ e. e.pass.name), ap length (names_back i ns ps vs same), same.0)

-- directions of each pass, as the lines of the passes say them
abbrev ends : List Sweep → List (Option Ends)
ends ws = map (option_map ends_of) (map (λ v. Some v) ws)

ends_some : (ws : List Sweep) → AllSome (ends ws)
ends_some [] k d l = absurd (omega (arith, l))
ends_some (w ∷ ws) zero d l = refl
ends_some (w ∷ ws) (suc k) d l = ends_some ws k d (omega (arith, l))

sweeps_back : (ws : List Sweep) → sweeps_in (flat_map two_of (ends ws)) ≡ ws
unfolding sweeps_in
sweeps_back [] = refl
sweeps_back (w ∷ ws) = ap (λ us. w ∷ us) (sweeps_back ws)

length-sweeps : (d : Option Directed) (ps : List Pass) → directed_ok (length ps) d ≡ true → length (sweeps_each d ps) ≡ length ps
length-sweeps None ps ok = length-map ps (λ p. None)
length-sweeps (Some d) ps ok = let same : length d.sweeps ≡ length ps = grind (arith, nat_tests) in length-map d.sweeps (λ v. Some v) ∙ same

-- directions that pass the checks suit the step
sweeps_suit : (d : Option Directed) (ps : List Pass) → directed_ok (length ps) d ≡ true → all_suit (step_of d) (sweeps_each d ps) ≡ true
unfolding slewing_ok are_around
sweeps_suit None ps ok = none_suit ps
  where
    none_suit : (ps : List Pass) → all_suit None (map (λ p. None) ps) ≡ true
    none_suit [] = refl
    none_suit (p ∷ ps) = none_suit ps
sweeps_suit (Some d) ps ok = all_around d.sweeps (grind (arith, nat_tests))
  where
    all_around : (ws : List Sweep) → are_around ws ≡ true → all_suit (Some d.step) (map (λ v. Some v) ws) ≡ true
    all_around [] h = refl
    all_around (w ∷ ws) h = rw (all_around ws (grind (arith, nat_tests))) (grind (arith, nat_tests))

-- what is asked of a list that may be taken
record Facts (l : NamedList) : Type 0 where
  few : l.station.dishes < 2 ^ 32
  fast : l.station.turn < 2 ^ 32
  ranged : all_in_range l.passes ≡ true
  named : are_names l.names ≡ true
  same : length l.names ≡ length l.passes

facts : (l : NamedList) → Listed l → Facts l
unfolding checked dishes_ok turning_ok name_each
facts l listed =
    let sound = listed.sound in
    let named = listed.named in
    record { few = grind (arith, nat_tests); fast = grind (arith, nat_tests); ranged = grind (arith, nat_tests); named = grind (arith, nat_tests); same = grind (arith, nat_tests) }

small_step : (n : ℕ) (d : Option Directed) → directed_ok n d ≡ true → SmallStep (step_of d)
unfolding slewing_ok
small_step n None ok = tt
small_step n (Some d) ok = grind (arith, nat_tests)

-- the directions that these passes say are taken, and are these
module _ (ns : List (List ℕ)) (ps : List Pass) where
  said : Option Directed → List Entry
  said d = entries_from 1 ns ps (sweeps_each d ps)

  directions_taken : (d : Option Directed) → length ns ≡ length ps → directed_ok (length ps) d ≡ true → directions_refused (step_of d) (said d) ≡ None
  unfolding said
  directions_taken None same ok = refl
  directions_taken (Some d) same ok =
      let vs = sweeps_each (Some d) ps in
      let even : Even ns ps vs = (same, length-sweeps (Some d) ps ok) in
      let back = ap (flat_map two_of) (ends_back 1 ns ps vs even) in
      let long : length (directions_of (entries_from 1 ns ps vs)) ≡ 2 * length (entries_from 1 ns ps vs) =
      omega (arith, ap length back, twos (ends d.sweeps) (ends_some d.sweeps), length-map (map (λ v. Some v) d.sweeps) (option_map ends_of), even.1, length-entries 1 ns ps vs even) in
      taken_if_ok (length (entries_from 1 ns ps vs)) (directions_of (entries_from 1 ns ps vs)) long d.step (rw (ap sweeps_in back ∙ sweeps_back d.sweeps) (grind (arith, nat_tests)))

  directions_same : (d : Option Directed) → length ns ≡ length ps → directed_ok (length ps) d ≡ true → directed_in (step_of d) (said d) ≡ d
  unfolding said
  directions_same None same ok = refl
  directions_same (Some d) same ok =
      let vs = sweeps_each (Some d) ps in
      let back = ends_back 1 ns ps vs (same, length-sweeps (Some d) ps ok) in
      ap (λ ws. Some (record { step = d.step; sweeps = ws })) (ap (λ us. sweeps_in (flat_map two_of us)) back ∙ sweeps_back d.sweeps)

module _ (l : NamedList) (listed : Listed l) where
  f : Facts l
  f = facts l listed

  step : Option ℕ
  step = step_of l.directed

  vs : List (Option Sweep)
  vs = sweeps_each l.directed l.passes

  even : Even l.names l.passes vs
  unfolding f vs
  even = (f.same, length-sweeps l.directed l.passes listed.directed)

  suit : all_suit step vs ≡ true
  unfolding step vs
  suit = sweeps_suit l.directed l.passes listed.directed

  brief : SmallStep step
  unfolding step
  brief = small_step (length l.passes) l.directed listed.directed

  first : StationLine
  first = record { dishes = l.station.dishes; turn = l.station.turn; step = step; line = 0 }

  es : List Entry
  es = entries_from 1 l.names l.passes vs

  plain_lines : all_lines (lines l) ≡ true
  unfolding all_lines pass_lines f step vs
  plain_lines = rw (station_plain l.station step f.few f.fast brief, passes_plain step l.names l.passes vs f.named f.ranged suit) refl

  station_read : at_line 0 (with_line 0 empty (spaced (station_words l.station step))) ≡ read_so_far first []
  unfolding at_line with_said f first
  station_read = rw (line_back 0 empty (station_words l.station step) (station_plain l.station step f.few f.fast brief) (station_short l.station step f.few f.fast brief), station_back l.station step f.few f.fast brief) refl

  all_read : draft_of (written l) ≡ read_so_far first es
  unfolding draft_of with_lines pass_lines f es step vs first
  all_read = rw (lines_back (lines l) plain_lines, station_read) (passes_read 1 first [] l.names l.passes vs f.named f.ranged suit)

  plainly_taken : refused l.station.dishes l.station.turn (numbers_of es) ≡ None
  unfolding f es
  plainly_taken =
      let back = passes_back 1 l.names l.passes vs even in
      let fours_back : length (numbers_of (entries_from 1 l.names l.passes vs)) ≡ 4 * length l.passes =
      omega (arith, fours (entries_from 1 l.names l.passes vs), length-entries 1 l.names l.passes vs even) in
      (taken_if_checked l.station.dishes l.station.turn (numbers_of (entries_from 1 l.names l.passes vs))).1 (rw back fours_back) (rw back listed.sound)

  not_refused : refused_in first es ≡ None
  unfolding f es first step vs said
  not_refused = for_directions first es plainly_taken ∙ directions_taken l.names l.passes l.directed f.same listed.directed

  pub back : read_text (written l) ≡ Ok l
  unfolding read_text taken f es first step vs said
  back =
      rw (all_read, accepted first es not_refused, names_back 1 l.names l.passes vs even, passes_back 1 l.names l.passes vs even, directions_same l.names l.passes l.directed f.same listed.directed) refl

pub round_trip : RoundTrip
round_trip l listed = back l listed

names_fit : (n : NamedNight) → name_each (length (passes_of n.night)) (names_of n) ≡ true
unfolding name_each
names_fit n =
    let same : length (names_of n) ≡ length (passes_of n.night) = length-map n.names.items string_bytes ∙ omega (arith, n.names.ok.0, n.one_each) in
    let named : are_names (names_of n) ≡ true = n.named in
    grind (arith, nat_tests)

directions_fit : (n : NamedNight) → directed_ok (length (passes_of n.night)) (option_map directed_of n.slewing) ≡ true
directions_fit n = by_slewing n.slewing n.directed
  where
    by_slewing : (o : Option Slewing) → each_directed (length (passes_of n.night)) o ≡ true → directed_ok (length (passes_of n.night)) (option_map directed_of o) ≡ true
    by_slewing None each = refl
    by_slewing (Some s) each = rw s.ok each

-- a night with names is a list that may be taken
pub night_back : (n : NamedNight) → read_text (written (list_of n)) ≡ Ok (list_of n)
night_back n = round_trip (list_of n) (record { sound = n.night.ok; named = names_fit n; directed = directions_fit n })
