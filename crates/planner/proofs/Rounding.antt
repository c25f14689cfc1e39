-- Why rounding up changes no run. Assumes nothing.
use Rattle.std.proofs.Common.{◌≡◌, ◌≢◌, ℕ, ◌+◌, ◌-◌, ◌<◌, ◌≤◌, true, false, List, length, Some, None, Option, sym, refl, ap, ◌∙◌, ⊎_elim, arith}
use Rattle.std.specs.Prelude.{slice_index}
use Rattle.std.specs.Option.{option_map}
use Rattle.std.proofs.lemmas.Bool.{cases_eq, cases_lt, cases_Bool}
use Rattle.std.proofs.lemmas.Bool.Decides.{nat_tests}
use Rattle.std.proofs.lemmas.List.{get_or-set_same, get_or-set_other}
use Rattle.std.proofs.lemmas.List.FromFn.{fill_by_all}
use Rattle.engine.specs.Mapping.{Mapping}
use Rattle.engine.proofs.Mapping.{same_runs}
use Rattle.passes.specs.declared.model.Pass.{Pass}
use Rattle.passes.specs.Rule.{nth}
use Rattle.capacity.specs.Order.{InTime}
use Rattle.capacity.proofs.Greedy.{all_zero}
use Rattle.pruning.specs.declared.rounding.TheConstants.{WIDE_DISHES}
use Rattle.pruning.specs.declared.rounding.NextPasses.{NextPasses}
use Rattle.pruning.specs.Rounding.{suits, next_pass, each_dish, free_after, next_then, allowed, go_on, rounded_night}
use Rattle.pruning.specs.Suiting.{next_is, next_none, next_within, next_suits, each_dish_at}
use Rattle.pruning.specs.Lawful.{then_followed, then_waits, then_kept}
use Rattle.planner.specs.declared.scheduling.FreeFrom.{FreeFrom}
use Rattle.planner.specs.Lawful.{night_moves}
use Rattle.planner.specs.Nights.{can_follow, after_following, decide, night}
use Rattle.planner.specs.Statements.{rounded_up, RoundingUp}

-- two states in which each dish has the same
same_states : (f g : ℕ → ℕ) → ((d : ℕ) → d < WIDE_DISHES → f d ≡ g d) → each_dish f ≡ each_dish g
same_states f g same =
    ap {A = List ℕ} (λ xs. record { next = xs })
    (fill_by_all g (each_dish f).next WIDE_DISHES 0 refl (λ d l. each_dish_at f d l ∙ same d l))

module _ (turns : List ℕ) (ps : List Pass) (time : InTime ps) (i : ℕ) (within : i < length ps) where
  after : i + 1 ≤ length ps
  after = omega arith

  -- the next pass from pass i on is that pass, if it suits the dish
  is_here : (d x : ℕ) → suits turns d x (nth ps i) ≡ true → next_pass turns ps d i x ≡ i
  is_here d x yes_it = next_is turns ps d x i (omega arith) i (omega arith) (omega arith) (λ j low high. absurd (omega arith)) (λ l. yes_it)

  -- and else the next from the one behind it
  is_behind : (d x : ℕ) → suits turns d x (nth ps i) ≡ false → next_pass turns ps d i x ≡ next_pass turns ps d (i + 1) x
  is_behind d x no_it =
      next_is turns ps d x i (omega arith) (next_pass turns ps d (i + 1) x) (omega arith) (next_within turns ps d x (i + 1) after)
      (λ j low high. ⊎_elim (λ same. rw same no_it) (λ other. next_none turns ps d x (i + 1) after j (omega arith) high) (cases_eq j i))
      (next_suits turns ps d x (i + 1) after)

  -- from pass i on, a dish that is free by then is so for all passes
  free_by_then : (d x : ℕ) → x ≤ (nth ps i).from → next_pass turns ps d (i + 1) 0 ≡ next_pass turns ps d (i + 1) x
  free_by_then d x early =
      next_is turns ps d 0 (i + 1) after (next_pass turns ps d (i + 1) x) (omega arith) (next_within turns ps d x (i + 1) after)
      (λ j low high.
      let no_it = next_none turns ps d x (i + 1) after j low high in
      let order = time.order i j (omega arith) (omega (arith, next_within turns ps d x (i + 1) after)) in
      grind (arith, nat_tests))
      (λ l. let it = next_suits turns ps d x (i + 1) after l in grind (arith, nat_tests))

  module _ (few : length turns ≤ WIDE_DISHES) (c : ℕ) (s : FreeFrom) (room : length s.seconds ≡ WIDE_DISHES) where
    abbrev now : NextPasses
    now = rounded_up turns ps i s

    now_of : (d : ℕ) → d < WIDE_DISHES → slice_index now.next d ≡ next_pass turns ps d i (slice_index s.seconds d)
    now_of d l = each_dish_at (λ e. next_pass turns ps e i (slice_index s.seconds e)) d l

    -- a dish that doesn't follow the pass is free when it was
    not_followed : (d : ℕ) → d < WIDE_DISHES → c ≢ d + 1 → next_then turns ps i c now d ≡ next_pass turns ps d (i + 1) (slice_index s.seconds d)
    not_followed d l other =
        let x = slice_index s.seconds d in
        ⊎_elim
        (λ can.
        let here = now_of d l ∙ is_here d x can in
        then_waits turns ps i c now d other here ∙ free_by_then d x (grind (arith, nat_tests)))
        (λ cannot.
        let behind = now_of d l ∙ is_behind d x cannot in
        then_kept turns ps i c now d other (λ here. omega (arith, here, behind)) ∙ behind)
        (cases_Bool (suits turns d x (nth ps i)))

    idle : c ≡ 0 → each_dish (next_then turns ps i c now) ≡ rounded_up turns ps (i + 1) s
    idle none = same_states _ _ (λ d l. not_followed d l (λ same. omega arith))

    -- one that does is free when it has turned
    followed : c ≢ 0 → c ≤ length turns → each_dish (next_then turns ps i c now) ≡ rounded_up turns ps (i + 1) (after_following turns (nth ps i) c s)
    followed some there = same_states _ _ (λ d l. ⊎_elim
        (λ same.
        let own : c - 1 ≡ d = omega arith in
        let free : slice_index (after_following turns (nth ps i) c s).seconds d ≡ free_after turns (nth ps i) d = rw own (get_or-set_same s.seconds d _ 0 (omega arith)) in
        then_followed turns ps i c now d same ∙ ap (next_pass turns ps d (i + 1)) (sym free))
        (λ other.
        let free : slice_index (after_following turns (nth ps i) c s).seconds d ≡ slice_index s.seconds d = get_or-set_other s.seconds (c - 1) d _ 0 (λ same. other (omega arith)) in
        not_followed d l other ∙ ap (next_pass turns ps d (i + 1)) (sym free))
        (cases_eq c (d + 1)))

    can_is : c ≢ 0 → can_follow turns (nth ps i) c s ≡ suits turns (c - 1) (slice_index s.seconds (c - 1)) (nth ps i)
    can_is some = grind (arith, nat_tests)

    step_same : go_on turns ps i c now ≡ option_map (rounded_up turns ps (i + 1)) (decide turns (nth ps i) c s)
    step_same =
        ⊎_elim
        (λ none.
        let may : allowed turns i c now ≡ true = grind (arith, nat_tests) in
        let decided : decide turns (nth ps i) c s ≡ Some s = grind (arith, nat_tests) in
        rw (may, decided) (ap {B = Option NextPasses} Some (idle none)))
        (λ some. ⊎_elim
        (λ can.
        let there : c ≤ length turns = grind (arith, nat_tests) in
        let here = now_of (c - 1) (omega arith) ∙ is_here (c - 1) (slice_index s.seconds (c - 1)) (sym (can_is some) ∙ can) in
        let may : allowed turns i c now ≡ true = grind (arith, nat_tests) in
        let decided : decide turns (nth ps i) c s ≡ Some (after_following turns (nth ps i) c s) = grind (arith, nat_tests) in
        rw (may, decided) (ap {B = Option NextPasses} Some (followed some there)))
        (λ cannot.
        let may : allowed turns i c now ≡ false =
        ⊎_elim
        (λ past. grind (arith, nat_tests))
        (λ there.
        let behind = now_of (c - 1) (omega arith) ∙ is_behind (c - 1) (slice_index s.seconds (c - 1)) (sym (can_is some) ∙ cannot) in
        let later : slice_index now.next (c - 1) ≢ i = λ here. omega (arith, here, behind) in
        grind (arith, nat_tests))
        (cases_lt (length turns) c) in
        let decided : decide turns (nth ps i) c s ≡ None = grind (arith, nat_tests) in
        rw (may, decided) refl)
        (cases_Bool (can_follow turns (nth ps i) c s)))
        (cases_eq c 0)

pub rounding_up : RoundingUp
rounding_up turns ps few time =
    let maps : Mapping (night turns ps) (rounded_night turns ps) (rounded_up turns ps) = record {
      stages = refl;
      start = same_states _ _ (λ d l. ap (next_pass turns ps d 0) (sym (all_zero WIDE_DISHES d)));
      step = λ i c s within fine. step_same turns ps time i within few c s fine;
      gain = λ i c s within fine. refl;
    } in
    record { states = maps; runs = same_runs (night turns ps) (rounded_night turns ps) (rounded_up turns ps) (night_moves turns ps) maps }
