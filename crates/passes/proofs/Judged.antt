-- What follows where something is wrong with a plan, that of each plan at most one verdict is true, and that a good plan is judged so. Assumes nothing.
use Rattle.std.proofs.Common.{◌≡◌, ℕ, ◌<◌, true, false, List, length, Ok, Err, Result, IfOk, sym, refl, ap, ◌∙◌, subst, ⊎_elim, arith}
use Rattle.std.proofs.lemmas.Bool.{both_ways, cases_Bool, cases_order}
use Rattle.std.specs.Result.{result_err}
use Rattle.passes.specs.declared.judging.Fault.{Fault}
use Rattle.passes.specs.declared.judging.Fault.TheVariants.{NoSuchDish, MayNotFollow, TooNear}
use Rattle.passes.specs.declared.model.Pass.{Pass}
use Rattle.passes.specs.declared.model.Station.{Station}
use Rattle.passes.specs.declared.refusals.Refusal.{Refusal}
use Rattle.passes.specs.Plans.{Plan, fits, worth_of}
use Rattle.passes.specs.Refusals.{room_refused}
use Rattle.passes.specs.Rule.{SoundAt, FirstClash}
use Rattle.passes.specs.Statements.{OneVerdict}
use Rattle.passes.specs.Verdicts.{Verdict, TrueVerdict, WrongWith}
use Rattle.passes.proofs.Goodness.{fits_says}

-- a pass with which something is wrong is not sound
wrong_unsound : (s : Station) (ps : List Pass) (ds : Plan) (i : ℕ) (f : Fault) → WrongWith s ps ds i f → SoundAt s ps ds i → ⊥
wrong_unsound s ps ds i NoSuchDish w h = omega (arith, h.there)
wrong_unsound s ps ds i MayNotFollow w h = both_ways _ w.2 (h.hears w.0)
wrong_unsound s ps ds i (TooNear j) w h = h.no_clash j w.3.0

-- a plan with which something is wrong is not good
pub wrong_unfit : (s : Station) (ps : List Pass) (ds : Plan) (i : ℕ) (f : Fault) → i < length ps → WrongWith s ps ds i f → fits s ps ds ≡ false
wrong_unfit s ps ds i f l w =
    ⊎_elim (λ good. absurd (wrong_unsound s ps ds i f w ((fits_says s ps ds good).each i l))) (λ bad. bad) (cases_Bool (fits s ps ds))

module _ (s : Station) (ps : List Pass) (ds : Plan) where
  -- a pass clashes with one other first
  one_first_clash : (i j k : ℕ) → FirstClash s ps ds i j → FirstClash s ps ds i k → j ≡ k
  one_first_clash i j k h g =
      ⊎_elim
      (λ same. same)
      (λ other. ⊎_elim (λ less. absurd (g.1 j less h.0)) (λ more. absurd (h.1 k more g.0)) other)
      (cases_order j k)

  -- one thing is wrong with a pass
  one_fault : (i : ℕ) (f g : Fault) → WrongWith s ps ds i f → WrongWith s ps ds i g → f ≡ g
  one_fault i NoSuchDish NoSuchDish w u = refl
  one_fault i NoSuchDish MayNotFollow w u = absurd (omega (arith, u.1))
  one_fault i NoSuchDish (TooNear k) w u = absurd (omega (arith, u.1))
  one_fault i MayNotFollow NoSuchDish w u = absurd (omega (arith, w.1))
  one_fault i MayNotFollow MayNotFollow w u = refl
  one_fault i MayNotFollow (TooNear k) w u = absurd (both_ways _ w.2 u.2)
  one_fault i (TooNear j) NoSuchDish w u = absurd (omega (arith, w.1))
  one_fault i (TooNear j) MayNotFollow w u = absurd (both_ways _ u.2 w.2)
  one_fault i (TooNear j) (TooNear k) w u = ap TooNear (one_first_clash i j k w.3 u.3)

pub one_verdict : OneVerdict
one_verdict s ps ds (Ok v) (Ok w) h g = ap Ok (h.1 ∙ sym g.1)
one_verdict s ps ds (Ok v) (Err b) h g = absurd (both_ways _ g.0 h.0)
one_verdict s ps ds (Err a) (Ok w) h g = absurd (both_ways _ h.0 g.0)
one_verdict s ps ds (Err a) (Err b) h g =
    ⊎_elim
    (λ same.
    let there = subst (λ k. WrongWith s ps ds k b.fault) (sym same) g.1.1 in
    λ t. Err (record { pass = same t; fault = one_fault s ps ds a.pass a.fault b.fault h.1.1 there t }))
    (λ other.
    ⊎_elim
    (λ before. absurd (wrong_unsound s ps ds a.pass a.fault h.1.1 (g.1.2 a.pass before)))
    (λ after. absurd (wrong_unsound s ps ds b.pass b.fault g.1.1 (h.1.2 b.pass after)))
    other)
    (cases_order a.pass b.pass)

-- a good plan is judged to be good, and to be worth what it is
pub judged_good : (s : Station) (ps : List Pass) (ds : Plan) (r : Result Verdict Refusal) →
    result_err r ≡ room_refused (length ps) (length ds) → IfOk r (TrueVerdict s ps ds) → fits s ps ds ≡ true → r ≡ Ok (Ok (worth_of ps ds))
unfolding room_refused
judged_good s ps ds (Ok (Ok v)) room said good = ap (λ x. Ok (Ok x)) said.1
judged_good s ps ds (Ok (Err flaw)) room said good = absurd (both_ways _ said.0 good)
judged_good s ps ds (Err why) room said good = let long = (fits_says s ps ds good).one_each in absurd (grind (arith, room, long))
