-- Why a state whose dishes are all free no later keeps up with another by the same choices. Assumes nothing.
use Rattle.std.proofs.Common.{◌≡◌, ◌≢◌, ℕ, ◌+◌, ◌-◌, ◌<◌, ◌≤◌, true, List, [], ◌∷◌, length, Some, refl, ⊎_elim, arith}
use Rattle.std.specs.Prelude.{slice_index}
use Rattle.std.proofs.lemmas.Bool.{both_ways, cases_eq, cases_lt}
use Rattle.std.proofs.lemmas.Bool.Decides.{nat_tests}
use Rattle.engine.specs.Runs.{leads, Way}
use Rattle.engine.specs.Gaining.{gained}
use Rattle.engine.proofs.Leading.{leads_first}
use Rattle.passes.specs.declared.model.Pass.{Pass}
use Rattle.pruning.specs.declared.rounding.TheConstants.{WIDE_DISHES}
use Rattle.pruning.specs.declared.rounding.NextPasses.{NextPasses}
use Rattle.pruning.specs.Rounding.{next_pass, each_dish, next_then, allowed, go_on, NoLater, Upcoming, rounded_night}
use Rattle.pruning.specs.Suiting.{each_dish_at, next_within, next_none}
use Rattle.pruning.specs.Lawful.{went_on, then_followed, then_waits, then_kept, rounded_moves}

module _ (turns : List ℕ) (ps : List Pass) (few : length turns ≤ WIDE_DISHES) where
  -- a decision that b allows
  module _ (i c : ℕ) (a b : NextPasses) (within : i < length ps) (up_a : Upcoming turns ps i a) (up_b : Upcoming turns ps i b) (sooner : NoLater a b) where
    -- what is the next pass in b is so in a
    next_too : (d : ℕ) → d < WIDE_DISHES → slice_index b.next d ≡ i → slice_index a.next d ≡ i
    next_too d l here = omega (arith, sooner d l, (up_a.each d l).later)

    -- so a allows it too
    allows_too : allowed turns i c b ≡ true → allowed turns i c a ≡ true
    allows_too may =
        ⊎_elim
        (λ none. rw none refl)
        (λ some.
        let there : c ≤ length turns = grind (arith, nat_tests) in
        let here : slice_index b.next (c - 1) ≡ i = grind (arith, nat_tests) in
        let here₁ = next_too (c - 1) (omega arith) here in
        grind (arith, nat_tests))
        (cases_eq c 0)

    -- the next pass of a dish that waits in a comes no later than one that it still has in b
    waits_no_longer : (d : ℕ) → d < WIDE_DISHES → slice_index b.next d ≢ i → next_pass turns ps d (i + 1) 0 ≤ slice_index b.next d
    waits_no_longer d l later =
        let after : i + 1 ≤ length ps = omega arith in
        let it = up_b.each d l in
        ⊎_elim
        (λ before. absurd (both_ways _ (next_none turns ps d 0 (i + 1) after (slice_index b.next d) (omega (arith, it.later)) before) (it.suited (omega (arith, next_within turns ps d 0 (i + 1) after)))))
        (λ not. not)
        (cases_lt (slice_index b.next d) (next_pass turns ps d (i + 1) 0))

    -- and no dish's next pass comes later after it
    still_sooner : NoLater (each_dish (next_then turns ps i c a)) (each_dish (next_then turns ps i c b))
    still_sooner d l =
        let each : next_then turns ps i c a d ≤ next_then turns ps i c b d =
        ⊎_elim
        (λ same. omega (arith, then_followed turns ps i c a d same, then_followed turns ps i c b d same))
        (λ other. ⊎_elim
        (λ here. omega (arith, then_waits turns ps i c a d other (next_too d l here), then_waits turns ps i c b d other here))
        (λ later. ⊎_elim
        (λ here. omega (arith, then_waits turns ps i c a d other here, then_kept turns ps i c b d other later, waits_no_longer d l later))
        (λ later₁. omega (arith, then_kept turns ps i c a d other later₁, then_kept turns ps i c b d other later, sooner d l))
        (cases_eq (slice_index a.next d) i))
        (cases_eq (slice_index b.next d) i))
        (cases_eq c (d + 1)) in
        omega (arith, each, each_dish_at (next_then turns ps i c a) d l, each_dish_at (next_then turns ps i c b) d l)

  -- whatever choices lead on from b lead on from a, and gain as much
  pub keeps_up :
      (cs : List ℕ) (i : ℕ) (a b e : NextPasses) → Upcoming turns ps i a → Upcoming turns ps i b → NoLater a b → Way (rounded_night turns ps).moves i b cs e →
      (f : NextPasses) × Way (rounded_night turns ps).moves i a cs f × (gained (rounded_night turns ps).moves.step (rounded_night turns ps).gain i b cs ≤ gained (rounded_night turns ps).moves.step (rounded_night turns ps).gain i a cs)
  unfolding leads gained
  keeps_up [] i a b e up_a up_b sooner w = (a, record { one_each = w.one_each; ends = refl }, omega arith)
  keeps_up (c ∷ cs) i a b e up_a up_b sooner w =
      let first = leads_first (rounded_night turns ps).moves.step i c cs b e w.ends in
      let within : i < length ps = omega (arith, w.one_each) in
      let went = went_on turns ps i c b first.0 first.1 in
      let may = allows_too i c a b within up_a up_b sooner went.0 in
      let a₁ = each_dish (next_then turns ps i c a) in
      let step : go_on turns ps i c a ≡ Some a₁ = rw may refl in
      let up_a₁ = (rounded_moves turns ps).fine_step i c a a₁ within up_a step in
      let up_b₁ = (rounded_moves turns ps).fine_step i c b first.0 within up_b first.1 in
      let sooner₁ : NoLater a₁ first.0 = rw went.1 (still_sooner i c a b within up_a up_b sooner) in
      let rest = keeps_up cs (i + 1) a₁ first.0 e up_a₁ up_b₁ sooner₁ (record { one_each = omega (arith, w.one_each); ends = first.2 }) in (
        rest.0,
        record { one_each = w.one_each; ends = rw step rest.1.ends },
        rw (step, first.1) (omega (arith, rest.2)),
      )
