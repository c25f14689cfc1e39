-- What is printed. Assumes nothing: these are definitions.
use Rattle.std.specs.Prelude.{ℕ, List, ◌++◌, codes}
use Rattle.std.specs.Fmt.{decimal}
use Rattle.passes.specs.declared.judging.Fault.{Fault}
use Rattle.passes.specs.declared.judging.Fault.TheVariants.{NoSuchDish, MayNotFollow, TooNear}
use Rattle.passes.specs.declared.judging.Flaw.{Flaw}
use Rattle.passes.specs.declared.refusals.Refusal.{Refusal}
use Rattle.passes.specs.Refusals.{number_of, place_of}

-- a refusal is printed by its number and its place
abbrev pub refusal_text : Refusal → List ℕ
refusal_text r = codes "number " ++ decimal (number_of r) ++ codes " at " ++ decimal (place_of r)

-- how it is printed what is wrong with a pass
abbrev pub fault_text : Fault → List ℕ
fault_text NoSuchDish = codes "no such dish"
fault_text MayNotFollow = codes "the dish may not follow it"
fault_text (TooNear j) = codes "too near to pass " ++ decimal j

-- how it is printed which pass is at fault and what is wrong with it
abbrev pub flaw_text : Flaw → List ℕ
flaw_text f = codes "pass " ++ decimal f.pass ++ codes ": " ++ fault_text f.fault

-- how numbers that are no pass are told
abbrev pub out_of_range_text : List ℕ
out_of_range_text = codes "numbers out of range for a pass"
