-- What is read, as a night. Assumes nothing.
use Rattle.std.proofs.Common.{◌≡◌, ℕ, ◌*◌, true, List, [], ◌∷◌, length, map, String, Vec, Global, string_bytes, Some, None, Option, Ok, Err, Result, refl, subst, ◌∙◌, arith}
use Rattle.std.specs.Prelude.{option_map, IfSome}
use Rattle.std.proofs.lemmas.Bool.Decides.{nat_tests}
use Rattle.std.proofs.lemmas.List.{length-map}
use Rattle.passes.specs.declared.refusals.Refusal.{Refusal}
use Rattle.passes.specs.declared.model.Pass.{Pass}
use Rattle.passes.specs.declared.model.Station.{Station}
use Rattle.passes.specs.declared.nights.Night.{Night}
use Rattle.passes.specs.Nights.{station_of, passes_of}
use Rattle.passes.specs.Numbers.{passes_in}
use Rattle.passes.specs.Refusals.{refused}
use Rattle.passes.proofs.Fours.{length-passes_in}
use Rattle.slewing.specs.declared.refusals.SlewRefusal.{SlewRefusal}
use Rattle.slewing.specs.declared.refusals.SlewRefusal.TheVariants.{Plain}
use Rattle.slewing.specs.declared.slewings.Slewing.{Slewing}
use Rattle.slewing.specs.Slewings.{Directed, directed_of}
use Rattle.text.specs.declared.draft.Entry as code
use Rattle.text.specs.declared.draft.StationLine.{StationLine}
use Rattle.text.specs.declared.faults.TurnedAway.{TurnedAway}
use Rattle.text.specs.declared.faults.TurnedAway.TheVariants.{Refused}
use Rattle.text.specs.declared.nights.NamedNight.{NamedNight}
use Rattle.text.specs.Drafts.{Entry}
use Rattle.text.specs.Lists.{NamedList, list_of}
use Rattle.text.specs.Names.{are_names, name_each}
use Rattle.text.specs.Blame.{line_about, rule_about}
use Rattle.text.specs.Reading.{numbers_of, names_in, directions_refused, refused_in, directed_in, taken_with}
use Rattle.text.specs.Views.{entry_of}

-- the numbers of passes come in fours
pub fours : (es : List Entry) → length (numbers_of es) ≡ 4 * length es
fours [] = refl
fours (e ∷ es) = omega (arith, fours es)

pub four_each : (es : List Entry) → length (passes_in (numbers_of es)) ≡ length es
four_each es = length-passes_in (numbers_of es) ∙ omega (arith, fours es)

all_named : (es : List code.Entry) → are_names (names_in (map entry_of es)) ≡ true
all_named [] = refl
all_named (e ∷ es) = rw (e.named, all_named es) refl

-- there is a name for each pass that the numbers stand for
pub each_named : (es : List code.Entry) → name_each (length (passes_in (numbers_of (map entry_of es)))) (names_in (map entry_of es)) ≡ true
unfolding name_each
each_named es = rw (four_each (map entry_of es), length-map (map entry_of es) (λ e. e.pass.name), all_named es) (grind (arith, nat_tests))

module _ (s : StationLine) (es : List Entry) where
  pub turned_away : (why : SlewRefusal) → refused_in s es ≡ Some why → taken_with s es ≡ Err (Refused why (line_about s es why) (rule_about es why))
  unfolding taken_with
  turned_away why e = rw e refl

  pub accepted : refused_in s es ≡ None
      → taken_with s es ≡ Ok (record { station = station_of s.dishes s.turn; names = names_in es; passes = passes_in (numbers_of es); directed = directed_in s.step es })
  unfolding taken_with
  accepted e = rw e refl

  -- what is refused without directions, and what is refused of them where nothing else is
  pub plainly : (why : Refusal) → refused s.dishes s.turn (numbers_of es) ≡ Some why → refused_in s es ≡ Some (Plain why)
  unfolding refused_in
  plainly why e = rw e refl

  pub for_directions : refused s.dishes s.turn (numbers_of es) ≡ None → refused_in s es ≡ directions_refused s.step es
  unfolding refused_in
  for_directions e = rw e refl

abbrev read : NamedList → Result NamedList TurnedAway
read l = Ok l

-- a night with this station, these passes, these names and these directions is this list
pub same_list : (o : Option NamedNight) (n : NamedNight) (night : Night) (slewing : Option Slewing) (names : Vec (String Global) Global) (s : Station) (ws : List (List ℕ)) (ps : List Pass) (d : Option Directed) → o ≡ Some n
    → IfSome o (λ m. (m.night ≡ night) × (m.slewing ≡ slewing) × (m.names ≡ names)) → night.station ≡ s → passes_of night ≡ ps → map string_bytes names.items ≡ ws → option_map directed_of slewing ≡ d
    → read (record { station = s; names = ws; passes = ps; directed = d }) ≡ Ok (list_of n)
same_list o n night slewing names s ws ps d is made station passes called directed =
    let all = subst (λ o. IfSome o (λ m. (m.night ≡ night) × (m.slewing ≡ slewing) × (m.names ≡ names))) is made in
    rw (all.0, all.1, all.2, station, passes, called, directed) refl
