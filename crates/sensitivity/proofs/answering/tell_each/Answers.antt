use Rattle.std.proofs.Common.{List, ap, arith, below_more, get_or, length, set, sym, true, ℕ, ◌+◌, ◌<◌, ◌∙◌, ◌≡◌}
use Rattle.std.proofs.lemmas.List.{length-set, get_or-set_same, get_or-set_other}
use Rattle.passes.specs.declared.model.Pass.{Pass}
use Rattle.passes.specs.declared.model.Station.{Station}
use Rattle.passes.specs.Nights.{passes_of}
use Rattle.sensitivity.specs.declared.needed.Needed.{Needed}
use Rattle.passes.specs.Checks.{checked}
use Rattle.passes.specs.Plans.{fits}
use Rattle.sensitivity.specs.declared.needed.Needed.TheVariants.{Worth, Never}
use Rattle.sensitivity.specs.Answers.{needed_number, EachTold}
use Rattle.sensitivity.specs.Needing.{Told, NoneFollows}
use Rattle.sensitivity.proofs.Bounds.{not_never}
use Rattle.sensitivity.proofs.OnePass.{best_of_all, told_by_anything}
use Rattle.sensitivity.proofs.Stations.{never_exactly}
use Rattle.sensitivity.proofs.answering.tell_each.Goals as goal

-- a number says of a pass what is true of it
abbrev Says : Station → List Pass → List ℕ → ℕ → Type 0
Says s ps xs i = (said : Needed) × Told s ps i said × (get_or xs i 0 ≡ needed_number said)

-- a number more
says_more : (s : Station) (ps : List Pass) (xs : List ℕ) (k : ℕ) (said : Needed) → k < length xs → Told s ps k said → ((i : ℕ) → i < k → Says s ps xs i) → (i : ℕ) → i < k + 1 → Says s ps (set xs k (needed_number said)) i
says_more s ps xs k said within told before =
    below_more (Says s ps (set xs k (needed_number said))) k
    (λ i l. let (n, true_of, is) = before i l in (n, true_of, get_or-set_other xs k i (needed_number said) 0 (omega arith) ∙ is))
    (said, told, get_or-set_same xs k (needed_number said) 0 within)

pub loop-place-preserved : goal.loop-place-preserved
loop-place-preserved c =
    let n = c.args.night.now in
    let within : c.loop-place.place < length c.loop-place.needed = omega (arith, c.loop-place-test.true) in
    let told = told_by_anything n.station (passes_of n) c.loop-place.place c.find-found.result.needed (rw c.new-inquiry.ensures at c.find-found.ensures.told) in
    (length-set c.loop-place.needed c.loop-place.place _ ∙ c.loop-place.invariant.0, rw c.number.ensures (says_more n.station (passes_of n) c.loop-place.needed c.loop-place.place c.find-found.result.needed within told c.loop-place.invariant.1))

-- what is true of each pass, as numbers
each_told : (s : Station) (ps : List Pass) (xs : List ℕ) → checked s ps ≡ true → length xs ≡ length ps → ((i : ℕ) → i < length ps → Says s ps xs i) → EachTold s ps xs
each_told s ps xs ok long says = record {
  one_each = long;
  each = says;
  never_if = λ i l none. let (n, told, is) = says i l in is ∙ ap needed_number ((never_exactly s ps i n told).1 none);
  never_only = λ i l number. let (n, told, is) = says i l in only i l n told (sym is ∙ number);
}
  where
    only : (i : ℕ) → i < length ps → (n : Needed) → Told s ps i n → needed_number n ≡ 4294967295 → NoneFollows (fits s) ps i
    only i l Never told same = told
    only i l (Worth v) told same = absurd (not_never s ps i v ok l told same)

pub returns-clause-planned : goal.returns-clause-planned
returns-clause-planned c =
    let n = c.args.night.now in
    best_of_all n.station (passes_of n) _ _ (rw (c.copy_from_slice.ensures.after, c.worth.ensures, ← c.new-inquiry.ensures) c.plan.ensures.best)

pub returns-clause-told : goal.returns-clause-told
returns-clause-told c =
    let n = c.args.night.now in
    each_told n.station (passes_of n) c.loop-place.needed n.ok c.loop-place.invariant.0 (λ i l. c.loop-place.invariant.1 i (omega (arith, c.loop-place.invariant.0, c.loop-place-test.false)))
