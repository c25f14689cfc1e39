-- Why every plan gains a multiple of the unit. Assumes nothing.
use Rattle.std.proofs.Common.{◌≡◌, ℕ, ◌+◌, ◌*◌, ◌/◌, ◌%◌, ◌<◌, ◌≤◌, List, [], ◌∷◌, length, ◌∙◌, ⊎_elim, arith}
use Rattle.std.proofs.Math.Nat.{add-mod, zero-mod, div-add-mod, le-div_iff_mul-le, mul_comm, mul-le-mul_right}
use Rattle.std.proofs.lemmas.Bool.{cases_eq}
use Rattle.std.proofs.lemmas.Bool.Decides.{nat_tests}
use Rattle.engine.specs.Runs.{Way}
use Rattle.engine.specs.Gaining.{gained}
use Rattle.engine.proofs.Leading.{leads_first}
use Rattle.passes.specs.declared.model.Pass.{Pass}
use Rattle.passes.specs.Rule.{nth}
use Rattle.pruning.specs.declared.rounding.NextPasses.{NextPasses}
use Rattle.pruning.specs.Rounding.{rounded_night}
use Rattle.pruning.specs.Units.{WholeIn}

module _ (turns : List ℕ) (ps : List Pass) (unit : ℕ) (whole : WholeIn unit ps) where
  gain_whole : (i c : ℕ) (s : NextPasses) → i < length ps → (rounded_night turns ps).gain i c s % unit ≡ 0
  gain_whole i c s l =
      ⊎_elim
      (λ none. rw none (zero-mod unit))
      (λ some. let gain : (rounded_night turns ps).gain i c s ≡ (nth ps i).worth = grind (arith, nat_tests) in rw gain (whole i l))
      (cases_eq c 0)

  pub gained_whole : (cs : List ℕ) (i : ℕ) (s e : NextPasses) → Way (rounded_night turns ps).moves i s cs e → gained (rounded_night turns ps).moves.step (rounded_night turns ps).gain i s cs % unit ≡ 0
  unfolding gained
  gained_whole [] i s e w = zero-mod unit
  gained_whole (c ∷ cs) i s e w =
      let first = leads_first (rounded_night turns ps).moves.step i c cs s e w.ends in
      let rest = gained_whole cs (i + 1) first.0 e (record { one_each = omega (arith, w.one_each); ends = first.2 }) in
      rw (first.1, add-mod ((rounded_night turns ps).gain i c s) (gained (rounded_night turns ps).moves.step (rounded_night turns ps).gain (i + 1) first.0 cs) unit, gain_whole i c s (omega (arith, w.one_each)), rest) (zero-mod unit)

-- a multiple that is not above a number is not above the greatest multiple that isn't
pub whole_below : (g x unit : ℕ) → 0 < unit → g % unit ≡ 0 → g ≤ x → g ≤ x / unit * unit
whole_below g x unit some whole low =
    let parts = div-add-mod g unit in
    let exact : g / unit * unit ≡ g = mul_comm (g / unit) unit ∙ omega arith in
    let times = (le-div_iff_mul-le some).1 (rw exact low) in
    rw (← exact) (mul-le-mul_right unit times)
