-- A text whose lines can be read is refused for what they say, and never for a room. Assumes nothing.
use Rattle.std.proofs.Common.{◌≡◌, Bool, true, false, cond, leb, ℕ, ◌+◌, List, [], ◌∷◌, length, Some, None, Option, Ok, Err, Result, refl, sym, ap, ◌∙◌}
use Rattle.std.specs.Prelude.{option_map}
use Rattle.std.specs.Option.{option_or}
use Rattle.passes.specs.declared.refusals.Refusal.{Refusal}
use Rattle.passes.specs.declared.refusals.Refusal.TheVariants.{BadDishes, BadTurning, BadPass, BadRoom}
use Rattle.passes.specs.Checks.{dishes_ok, turning_ok}
use Rattle.passes.specs.Numbers.{first_fault}
use Rattle.passes.specs.Refusals.{or_else, station_refused, list_refused, refused}
use Rattle.slewing.specs.declared.refusals.SlewRefusal.{SlewRefusal}
use Rattle.slewing.specs.declared.refusals.SlewRefusal.TheVariants.{Plain, BadStep, BadDirections}
use Rattle.slewing.specs.Numbers.{first_bad_sweep}
use Rattle.slewing.specs.Refusals.{slewing_refused}
use Rattle.text.specs.declared.draft.StationLine.{StationLine}
use Rattle.text.specs.declared.faults.LineFault.{LineFault}
use Rattle.text.specs.declared.faults.ListRule.{ListRule}
use Rattle.text.specs.declared.faults.TurnedAway.{TurnedAway}
use Rattle.text.specs.declared.faults.TurnedAway.TheVariants.{Refused}
use Rattle.text.specs.Drafts.{Draft, Entry, empty, at_line, with_line, with_lines, draft_of}
use Rattle.text.specs.Blame.{line_about, rule_about}
use Rattle.text.specs.Reading.{numbers_of, directions_of, directions_refused, refused_in, last_line, taken_with, taken, read_text}
use Rattle.text.specs.Statements.{RefusedFor, RefusedForWhatItSays, NoRoom}
use Rattle.text.specs.Words.{lines_of}
use Rattle.text.proofs.FirstFault.{turned, away_for}

same_refusal : {A : Type 0} (a b : SlewRefusal) (x y : ℕ) (r t : ListRule) → turned {A = A} (Refused a x r) ≡ Err (Refused b y t) → (a ≡ b) × (x ≡ y) × (r ≡ t)
same_refusal a b x y r t e = (cc, cc, cc)

-- what a list with a station is refused for
refused_with : (s : StationLine) (es : List Entry) (why : SlewRefusal) (line : ℕ) (rule : ListRule) → taken_with s es ≡ Err (Refused why line rule)
    → (refused_in s es ≡ Some why) × (line ≡ line_about s es why) × (rule ≡ rule_about es why)
unfolding taken_with
refused_with s es why line rule e = by_refusal (refused_in s es) refl
  where
    by_refusal : (o : Option SlewRefusal) → refused_in s es ≡ o → (refused_in s es ≡ Some why) × (line ≡ line_about s es why) × (rule ≡ rule_about es why)
    by_refusal None is = let f = rw is at e in absurd cc
    by_refusal (Some other) is =
        let same = same_refusal other why (line_about s es other) line (rule_about es other) rule (rw is at e) in
        (is ∙ ap Some same.0, sym same.1 ∙ ap (line_about s es) same.0, sym same.2 ∙ ap (rule_about es) same.0)

-- lines are not refused for what they say
only_unreadable : (i : ℕ) (d : Draft) (ls : List (List ℕ)) (why : SlewRefusal) (line : ℕ) (rule : ListRule) → with_lines i d ls ≡ Err (Refused why line rule) → ⊥
unfolding with_lines at_line
only_unreadable i d [] why line rule e = absurd cc
only_unreadable i d (l ∷ ls) why line rule e = by_line (with_line i d l) refl (λ next. only_unreadable (i + 1) next ls why line rule)
  where
    by_line : (r : Result Draft LineFault) → with_line i d l ≡ r → ((next : Draft) → with_lines (i + 1) next ls ≡ Err (Refused why line rule) → ⊥) → ⊥
    by_line (Err fault) is rest = let f = rw is at e in absurd cc
    by_line (Ok next) is rest = rest next (rw is at e)

with_all_read : (text : List ℕ) (d : Draft) (why : SlewRefusal) (line : ℕ) (rule : ListRule) → draft_of text ≡ Ok d → taken (last_line text) d ≡ Err (Refused why line rule) → RefusedFor text why line rule
unfolding taken
with_all_read text d why line rule is e = by_station d.station refl
  where
    by_station : (o : Option StationLine) → d.station ≡ o → RefusedFor text why line rule
    by_station None none = let f = rw none at e in absurd cc
    by_station (Some s) some =
        let for_this = refused_with s d.entries why line rule (rw some at e) in
        record { all = d; station = s; read = is; says = some; applies = for_this.0; at = for_this.1; about = for_this.2 }

pub refused_for_what_it_says : RefusedForWhatItSays
unfolding read_text draft_of
refused_for_what_it_says text why line rule e = by_draft (draft_of text) refl
  where
    by_draft : (r : Result Draft TurnedAway) → draft_of text ≡ r → RefusedFor text why line rule
    by_draft (Ok d) is = with_all_read text d why line rule is (rw is at e)
    by_draft (Err t) is = absurd (only_unreadable 0 empty (lines_of text) why line rule (is ∙ ap turned (away_for t (Refused why line rule) (rw is at e))))

-- what is refused without directions is refused by itself
plain_of : (o : Option Refusal) (r : Option SlewRefusal) (why : Refusal) → option_or (option_map Plain o) r ≡ Some (Plain why) → (r ≡ Some (Plain why) → ⊥) → o ≡ Some why
plain_of None r why e none = absurd (none e)
plain_of (Some other) r why e none = cc

not_plain : (k : Option ℕ) (es : List Entry) (why : Refusal) → directions_refused k es ≡ Some (Plain why) → ⊥
unfolding slewing_refused
not_plain None es why e = absurd cc
not_plain (Some k) es why e = by_cases (leb k 1000000) (first_bad_sweep (length es) (directions_of es)) e
  where
    by_cases : (b : Bool) (o : Option ℕ) → cond b (option_map BadDirections o) (Some BadStep) ≡ Some (Plain why) → ⊥
    by_cases true None e = absurd cc
    by_cases true (Some i) e = absurd cc
    by_cases false o e = absurd cc

pub refused_plainly : (s : StationLine) (es : List Entry) (why : Refusal) → refused_in s es ≡ Some (Plain why) → refused s.dishes s.turn (numbers_of es) ≡ Some why
unfolding refused_in
refused_plainly s es why e = plain_of (refused s.dishes s.turn (numbers_of es)) (directions_refused s.step es) why e (not_plain s.step es why)

-- and what is refused of directions is refused of these
pub refused_for_directions : (s : StationLine) (es : List Entry) (i : ℕ) → refused_in s es ≡ Some (BadDirections i) → directions_refused s.step es ≡ Some (BadDirections i)
unfolding refused_in
refused_for_directions s es i e = by_cases (refused s.dishes s.turn (numbers_of es)) e
  where
    by_cases : (o : Option Refusal) → option_or (option_map Plain o) (directions_refused s.step es) ≡ Some (BadDirections i) → directions_refused s.step es ≡ Some (BadDirections i)
    by_cases None e = e
    by_cases (Some why) e = absurd cc

-- of the refusals that are looked at none is for a room
no_room_of : (a b : Bool) (o : Option ℕ) (n : ℕ) → or_else (cond a (cond b None (Some BadTurning)) (Some BadDishes)) (option_map BadPass o) ≡ Some (BadRoom n) → ⊥
no_room_of true true None n e = absurd cc
no_room_of true true (Some i) n e = absurd cc
no_room_of true false o n e = absurd cc
no_room_of false b o n e = absurd cc

no_room_refused : (k t n : ℕ) (xs : List ℕ) → refused k t xs ≡ Some (BadRoom n) → ⊥
unfolding refused station_refused list_refused
no_room_refused k t n xs e = no_room_of (dishes_ok k) (turning_ok t) (first_fault xs) n e

pub no_room : NoRoom
no_room text n line rule e =
    let found = refused_for_what_it_says text (Plain (BadRoom n)) line rule e in
    no_room_refused found.station.dishes found.station.turn n (numbers_of found.all.entries) (refused_plainly found.station found.all.entries (BadRoom n) found.applies)
