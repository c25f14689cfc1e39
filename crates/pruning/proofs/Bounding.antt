-- Why prices bound what is left to gain. Assumes nothing.
use Rattle.std.proofs.Common.{◌≡◌, ℕ, zero, suc, ◌+◌, ◌-◌, ◌*◌, ◌<◌, ◌≤◌, true, List, [], ◌∷◌, length, ap, ⊎_elim, mul-add, arith}
use Rattle.std.specs.Prelude.{slice_index}
use Rattle.std.proofs.lemmas.Bool.{cases_eq}
use Rattle.std.proofs.lemmas.Bool.Decides.{nat_tests}
use Rattle.engine.specs.Runs.{Way}
use Rattle.engine.specs.Gaining.{gained, Bound}
use Rattle.engine.proofs.Leading.{leads_first}
use Rattle.passes.specs.declared.model.Pass.{Pass}
use Rattle.passes.specs.Rule.{nth}
use Rattle.pruning.specs.declared.rounding.TheConstants.{WIDE_DISHES}
use Rattle.pruning.specs.declared.rounding.NextPasses.{NextPasses}
use Rattle.pruning.specs.Prices.{together}
use Rattle.pruning.specs.Rounding.{suits, next_pass, each_dish, free_after, next_then, allowed, Upcoming, rounded_night}
use Rattle.pruning.specs.Suiting.{each_dish_at, next_within}
use Rattle.pruning.specs.Lawful.{went_on, then_followed, then_cases, rounded_moves}
use Rattle.pruning.proofs.Together.{together_le, together_less}

-- numbers by which what is left to gain is bounded: left k whatever the passes from pass k on may be worth at their prices, and table d k what dish d
-- may gain by them on top of that
pub record Bounds (turns : List ℕ) (ps : List Pass) (n : ℕ) (left : ℕ → ℕ) (table : ℕ → ℕ → ℕ) : Type 0 where
  pub left_falls : (k : ℕ) → k < length ps → left (k + 1) ≤ left k
  pub falls : (d k : ℕ) → d < length turns → k < length ps → table d (k + 1) ≤ table d k
  -- a dish that follows a pass gains no more than both fall by
  pub takes : (d k : ℕ) → d < length turns → k < length ps → suits turns d 0 (nth ps k) ≡ true → n * (nth ps k).worth + left (k + 1) + table d (next_pass turns ps d (k + 1) (free_after turns (nth ps k) d)) ≤ left k + table d k

-- what falls from one number to the next falls from any to any later one
module _ (n : ℕ) (f : ℕ → ℕ) (falls : (k : ℕ) → k < n → f (k + 1) ≤ f k) where
  falls_by : (k m : ℕ) → k + m ≤ n → f (k + m) ≤ f k
  falls_by k zero h = let same : k + 0 ≡ k = omega arith in rw same (omega arith)
  falls_by k (suc m) h =
      let next : k + m + 1 ≡ k + suc m = omega arith in
      let one = rw next at (falls (k + m) (omega arith)) in
      omega (arith, one, falls_by k m (omega arith))

  pub falls_to : (k m : ℕ) → k ≤ m → m ≤ n → f m ≤ f k
  falls_to k m low high =
      let there : k + (m - k) ≡ m = omega arith in
      rw there at (falls_by k (m - k) (omega arith))

module _ (turns : List ℕ) (ps : List Pass) (few : length turns ≤ WIDE_DISHES) (n : ℕ) (left : ℕ → ℕ) (table : ℕ → ℕ → ℕ) (bounds : Bounds turns ps n left table) where
  -- what the dishes can gain from their next passes on
  abbrev pub ahead : NextPasses → ℕ
  ahead s = together (length turns) (λ d. table d (slice_index s.next d))

  -- a decision that is allowed
  module _ (i c : ℕ) (s : NextPasses) (within : i < length ps) (up : Upcoming turns ps i s) (may : allowed turns i c s ≡ true) where
    after : i + 1 ≤ length ps
    after = omega arith

    -- the pass was the next one of the dish that follows it
    was_next : (d : ℕ) → c ≡ d + 1 → slice_index s.next d ≡ i
    was_next d same = let may₁ = rw same at may in grind (arith, nat_tests)

    -- no dish has more after it
    on_from : (d x : ℕ) → d < length turns → slice_index s.next d ≡ i → table d (next_pass turns ps d (i + 1) x) ≤ table d (slice_index s.next d)
    on_from d x l here = rw here (falls_to (length ps) (table d) (λ k m. bounds.falls d k l m) i (next_pass turns ps d (i + 1) x) (omega arith) (next_within turns ps d x (i + 1) after))

    less_each : (d : ℕ) → d < length turns → table d (next_then turns ps i c s d) ≤ table d (slice_index s.next d)
    less_each d l =
        then_cases turns ps i c s d (λ k. table d k ≤ table d (slice_index s.next d))
        (λ same. on_from d (free_after turns (nth ps i) d) l (was_next d same))
        (λ other here. on_from d 0 l here)
        (λ other later. omega arith)

    -- and the dish that follows the pass gains no more than it has less, and what is left is less
    less_one : (d : ℕ) → d < length turns → c ≡ d + 1 → n * (nth ps i).worth + left (i + 1) + table d (next_then turns ps i c s d) ≤ left i + table d (slice_index s.next d)
    less_one d l same =
        let here = was_next d same in
        let suited = rw here at ((up.each d (omega arith)).suited (omega arith)) in
        rw (then_followed turns ps i c s d same, here) (bounds.takes d i l within suited)

    ahead_then : n * (rounded_night turns ps).gain i c s + left (i + 1) + ahead (each_dish (next_then turns ps i c s)) ≤ left i + ahead s
    ahead_then =
        let then : ℕ → ℕ = λ d. table d (slice_index (each_dish (next_then turns ps i c s)).next d) in
        let now : ℕ → ℕ = λ d. table d (slice_index s.next d) in
        let is : (d : ℕ) → d < length turns → then d ≡ table d (next_then turns ps i c s d) = λ d l. ap (table d) (each_dish_at (next_then turns ps i c s) d (omega arith)) in
        let each : (d : ℕ) → d < length turns → then d ≤ now d = λ d l. omega (arith, is d l, less_each d l) in
        ⊎_elim
        (λ none. rw none (omega (arith, together_le then now (length turns) each, bounds.left_falls i within)))
        (λ some.
        let gain : (rounded_night turns ps).gain i c s ≡ (nth ps i).worth = grind (arith, nat_tests) in
        let there : c ≤ length turns = grind (arith, nat_tests) in
        rw gain (together_less then now (length turns) (c - 1) (n * (nth ps i).worth + left (i + 1)) (left i) (omega arith) each
        (omega (arith, is (c - 1) (omega arith), less_one (c - 1) (omega arith) (omega arith)))))
        (cases_eq c 0)

  pub bounded : (cs : List ℕ) (i : ℕ) (s e : NextPasses) → Upcoming turns ps i s → Way (rounded_night turns ps).moves i s cs e → n * gained (rounded_night turns ps).moves.step (rounded_night turns ps).gain i s cs ≤ left i + ahead s
  unfolding gained
  bounded [] i s e up w = omega arith
  bounded (c ∷ cs) i s e up w =
      let first = leads_first (rounded_night turns ps).moves.step i c cs s e w.ends in
      let within : i < length ps = omega (arith, w.one_each) in
      let went = went_on turns ps i c s first.0 first.1 in
      let up₁ = (rounded_moves turns ps).fine_step i c s first.0 within up first.1 in
      let rest = bounded cs (i + 1) first.0 e up₁ (record { one_each = omega (arith, w.one_each); ends = first.2 }) in
      let here = ahead_then i c s within up went.0 in
      rw first.1 (omega (arith, mul-add n ((rounded_night turns ps).gain i c s) (gained (rounded_night turns ps).moves.step (rounded_night turns ps).gain (i + 1) first.0 cs), rest, here, ap ahead went.1))

-- without passes there is nothing to gain
pub nothing_bound : (turns : List ℕ) (ps : List Pass) (s : NextPasses) → length ps ≡ 0 → Bound (rounded_night turns ps) 0 s 0
unfolding gained
nothing_bound turns ps s none [] e w = omega arith
nothing_bound turns ps s none (c ∷ cs) e w = absurd (omega (arith, w.one_each, none))
