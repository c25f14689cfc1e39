-- The rules by which passes are asked about accept the plans that are good for the night. Assumes nothing.
use Rattle.std.proofs.Common.{◌≡◌, ℕ, ◌≤◌, Bool, true, false, List, length, Some, None, Option, MatchOption, refl, sym, ap, ◌∙◌, arith}
use Rattle.std.specs.Option.{is_some}
use Rattle.std.proofs.lemmas.Bool.{both_ways}
use Rattle.passes.specs.declared.model.Pass.{Pass}
use Rattle.std.specs.Prelude.{option_map}
use Rattle.std.proofs.lemmas.Bool.Decides.{nat_tests}
use Rattle.engine.specs.Rules.{anything}
use Rattle.passes.specs.declared.nights.Night.{Night}
use Rattle.passes.specs.Nights.{passes_of}
use Rattle.passes.specs.Plans.{Plan, fits}
use Rattle.passes.proofs.Checking.{few_dishes_from_checked}
use Rattle.capacity.proofs.Timing.{in_time_from_checked}
use Rattle.planner.specs.Ruled.{fits_by}
use Rattle.sensitivity.specs.Needing.{with_worth}
use Rattle.sensitivity.proofs.OnePass.{steady_by, by_anything}
use Rattle.slewing.specs.declared.slewings.Slewing.{Slewing}
use Rattle.slewing.specs.Directions.{legs}
use Rattle.slewing.specs.Following.{slew_automaton}
use Rattle.slewing.specs.Slewed.{slewed}
use Rattle.slewing.specs.Slewings.{sweeps_of, each_directed}
use Rattle.slewing.proofs.Meaning.{rule_means}
use Rattle.text.specs.declared.nights.NamedNight.{NamedNight}
use Rattle.text.specs.Lists.{good_of}
use Rattle.reasons.proofs.Steady.{slewed_same}

-- without directions the rule that refuses nothing does
pub plain_agrees : (n : NamedNight) → n.slewing ≡ None → (i v : ℕ) (ds : Plan) → fits_by n.night.station anything (with_worth (passes_of n.night) i v) ds ≡ good_of n (with_worth (passes_of n.night) i v) ds
plain_agrees n none i v ds = rw none (λ t. by_anything n.night.station t (with_worth (passes_of n.night) i v) ds)

-- with directions the rule that dishes are in time does
module _ (n : Night) (w : Slewing) (each : each_directed (length (passes_of n)) (Some w) ≡ true) where
  pub slews_agrees :
      (i v : ℕ) (ds : Plan) →
      fits_by n.station (slew_automaton n.station.turn w.step (legs (passes_of n) (sweeps_of w))) (with_worth (passes_of n) i v) ds
      ≡ slewed n.station w.step (sweeps_of w) (with_worth (passes_of n) i v) ds
  slews_agrees i v ds =
      let long : length (sweeps_of w) ≡ length (passes_of n) = grind (arith, nat_tests) in
      let means = rule_means n.station w.step (sweeps_of w) (passes_of n) ds (few_dishes_from_checked _ _ n.ok) (in_time_from_checked _ _ n.ok) long in
      steady_by n.station (slew_automaton n.station.turn w.step (legs (passes_of n) (sweeps_of w))) (passes_of n) i v ds
      ∙ (sym means ∙ sym (slewed_same n.station w.step (sweeps_of w) (passes_of n) i v ds))

  -- so a plan that is good with the directions is one that the rule accepts
  pub slews_accept : (ds : Plan) → slewed n.station w.step (sweeps_of w) (passes_of n) ds ≡ true → fits_by n.station (slew_automaton n.station.turn w.step (legs (passes_of n) (sweeps_of w))) (passes_of n) ds ≡ true
  slews_accept ds good =
      let long : length (sweeps_of w) ≡ length (passes_of n) = grind (arith, nat_tests) in
      sym (rule_means n.station w.step (sweeps_of w) (passes_of n) ds (few_dishes_from_checked _ _ n.ok) (in_time_from_checked _ _ n.ok) long) ∙ good

-- where a plan is good, planning finds one
pub some_found : {X : Type 0} (good : List Pass → Plan → Bool) (ps : List Pass) (ds : Plan) (P : X → Type 0) (o : Option X) → good ps ds ≡ true → MatchOption o ((es : Plan) → good ps es ≡ false) P → is_some o ≡ true
some_found good ps ds P None h found = absurd (both_ways _ (found ds) h)
some_found good ps ds P (Some x) h found = refl
