-- The directions of a draft whose station and numbers are taken. Assumes nothing.
use Rattle.std.proofs.Common.{◌≡◌, ℕ, true, List, length, Some, None, Option, Err, refl, sym, ap, ◌∙◌, arith}
use Rattle.std.proofs.lemmas.Bool.Decides.{nat_tests}
use Rattle.passes.specs.declared.nights.Night.{Night}
use Rattle.passes.specs.Nights.{passes_of}
use Rattle.slewing.specs.declared.refusals.SlewRefusal.{SlewRefusal}
use Rattle.slewing.specs.declared.slewings.Slewing.{Slewing}
use Rattle.slewing.specs.Numbers.{sweeps_in}
use Rattle.slewing.specs.Refusals.{slewing_refused}
use Rattle.slewing.specs.Slewings.{SlewingOf, each_directed, sweeps_of}
use Rattle.text.specs.declared.draft.StationLine.{StationLine}
use Rattle.text.specs.declared.faults.TurnedAway.TheVariants.{Refused}
use Rattle.text.specs.Blame.{line_about, rule_about}
use Rattle.text.specs.Drafts.{Entry}
use Rattle.text.specs.Reading.{directions_of, directions_refused, refused_in, directed_in, taken_with}
use Rattle.text.specs.Taking.{PlainNight, DirectionsIn}
use Rattle.text.proofs.Around.{length-taken}
use Rattle.text.proofs.TakingLists.{four_each, for_directions, turned_away}

module _ (s : StationLine) (es : List Entry) (n : Night) (night : PlainNight s es n) where
  -- there are as many passes as lines that say one
  same_count : length (passes_of n) ≡ length es
  same_count = ap length night.same.same_passes ∙ four_each es

  -- a station without a step has no directions
  pub without : s.step ≡ None → DirectionsIn s es None
  without e = record { taken = for_directions s es night.taken ∙ ap (λ k. directions_refused k es) e; same = sym (ap (λ k. directed_in k es) e); directed = refl }

  -- where it has one
  module _ (k : ℕ) (xs : List ℕ) (step : s.step ≡ Some k) (said : xs ≡ directions_of es) where
    refusal : refused_in s es ≡ slewing_refused (length (passes_of n)) k xs
    refusal = for_directions s es night.taken ∙ ap (λ k. directions_refused k es) step ∙ rw (same_count, said) refl

    -- they are those that were read
    pub these : (v : Slewing) → None ≡ slewing_refused (length (passes_of n)) k xs → SlewingOf (length (passes_of n)) k xs v → DirectionsIn s es (Some v)
    these v taken are =
        let count : length (sweeps_of v) ≡ length es = are.one_each ∙ same_count in
        record {
          taken = refusal ∙ sym taken;
          same = rw (step, are.same_step, are.same_sweeps, said) refl;
          directed = grind (arith, nat_tests, count);
        }

    -- or the list is turned away for them
    pub turned_away_for : (why : SlewRefusal) → Some why ≡ slewing_refused (length (passes_of n)) k xs → taken_with s es ≡ Err (Refused why (line_about s es why) (rule_about es why))
    turned_away_for why refused = turned_away s es why (refusal ∙ sym refused)

  -- there are some for each pass of the night
  pub each_pass : (v : Option Slewing) → DirectionsIn s es v → each_directed (length (passes_of n)) v ≡ true
  each_pass v in_them = ap (λ m. each_directed m v) same_count ∙ in_them.directed
