-- Each pass that is read fits the station: it has directions where the station has a step, and else none. Assumes nothing.
use Rattle.std.proofs.Common.{◌≡◌, ℕ, ◌+◌, ◌⊎◌, inl, inr, Bool, true, false, cond, not, ◌&&◌, List, [], ◌∷◌, get_or, Some, None, Option, Ok, Err, Result, IfOk, refl, sym, ap, subst, ◌∙◌, arith, All}
use Rattle.std.specs.Prelude.{⊤, is_some, option_map}
use Rattle.std.proofs.lemmas.List.{map-append}
use Rattle.std.proofs.lemmas.List.Elements.{All-nil, All-push}
use Rattle.slewing.specs.declared.refusals.SlewRefusal.{SlewRefusal}
use Rattle.text.specs.declared.draft.StationLine.{StationLine}
use Rattle.text.specs.declared.faults.LineFault.{LineFault}
use Rattle.text.specs.declared.faults.LineFault.TheVariants.{NoDirections, NoStep}
use Rattle.text.specs.declared.faults.TurnedAway.{TurnedAway}
use Rattle.text.specs.declared.line.Ends.{Ends}
use Rattle.text.specs.Drafts.{Draft, Entry, empty, misfit, at_line, with_said, with_line, with_lines, draft_of}
use Rattle.text.specs.Lines.{◌>>=◌, Said, said_by}
use Rattle.text.specs.Lines.Said.{nothing, station, pass}
use Rattle.text.specs.Lists.{NamedList}
use Rattle.text.specs.Reading.{ends_in, refused_in, taken_with, taken, read_text}
use Rattle.text.specs.Statements.{EachDirected, AllOrNone}
use Rattle.text.specs.Words.{lines_of, words_of}

-- what the two tests of a pass say
fits_so : (step some : Bool) → cond (step && not some) (Some NoDirections) (cond (not step && some) (Some NoStep) None) ≡ None → some ≡ step
fits_so true true h = refl
fits_so true false h = absurd cc
fits_so false true h = absurd cc
fits_so false false h = refl

so_it_fits : (step some : Bool) → some ≡ step → cond (step && not some) (Some NoDirections) (cond (not step && some) (Some NoStep) None) ≡ None
so_it_fits true true h = refl
so_it_fits true false h = absurd cc
so_it_fits false true h = absurd cc
so_it_fits false false h = refl

pub fits_says : (s : StationLine) (v : Option Ends) → misfit (Some s) v ≡ None → is_some v ≡ is_some s.step
unfolding misfit
fits_says s v h = fits_so (is_some s.step) (is_some v) h

pub fits_if : (s : StationLine) (v : Option Ends) → is_some v ≡ is_some s.step → misfit (Some s) v ≡ None
unfolding misfit
fits_if s v h = so_it_fits (is_some s.step) (is_some v) h

-- each of these fits the station
abbrev Fits : Option StationLine → List (Option Ends) → Type 0
Fits s vs = All (λ v. misfit s v ≡ None) vs

abbrev Fitting : Draft → Type 0
Fitting d = Fits d.station (ends_in d.entries)

-- before the station there is no pass
none_before : (o u : Option StationLine) (vs : List (Option Ends)) → o ≡ None → Fits o vs → Fits u vs
unfolding misfit
none_before o u [] none fit = All-nil (λ v. misfit u v ≡ None)
none_before o u (v ∷ vs) none fit = let h = rw none at (fit 0 v (omega arith)) in absurd cc

with_station : (o u : Option StationLine) (es : List Entry) (bad : LineFault) → Fits o (ends_in es) → IfOk (cond (is_some o) (Err bad) (Ok (record { station = u; entries = es }))) Fitting
with_station (Some s) u es bad fit = tt
with_station None u es bad fit = none_before None u (ends_in es) refl fit

said_fits : (i : ℕ) (d : Draft) (said : Said) → Fitting d → IfOk (with_said i d said) Fitting
unfolding with_said
said_fits i d nothing fit = fit
said_fits i d (station dishes turn step) fit = with_station d.station _ d.entries _ fit
said_fits i d (pass p) fit = by_fault (misfit d.station p.directions) refl
  where
    e : Entry
    e = record { pass = p; line = i }

    by_fault : (o : Option LineFault) → misfit d.station p.directions ≡ o → IfOk (with_said i d (pass p)) Fitting
    by_fault (Some fault) is = rw is tt
    by_fault None is = rw is (subst (Fits d.station) (sym (map-append (λ e. e.pass.directions) d.entries (e ∷ []))) (All-push (λ v. misfit d.station v ≡ None) (ends_in d.entries) p.directions fit is))

then : {A B E : Type 0} (P : A → Type 0) (Q : B → Type 0) (r : Result A E) (f : A → Result B E) → IfOk r P → ((x : A) → P x → IfOk (f x) Q) → IfOk (r >>= f) Q
then P Q (Ok x) f h next = next x h
then P Q (Err e) f h next = tt

either : {A E : Type 0} (P : A → Type 0) (b : Bool) (r u : Result A E) → IfOk r P → IfOk u P → IfOk (cond b r u) P
either P true r u h g = h
either P false r u h g = g

line_fits : (i : ℕ) (d : Draft) (line : List ℕ) → Fitting d → IfOk (with_line i d line) Fitting
unfolding with_line
line_fits i d line fit = either Fitting _ (Err _) (said_by (words_of line) >>= with_said i d) tt (then (λ _. ⊤) Fitting (said_by (words_of line)) (with_said i d) (any (said_by (words_of line))) (λ said _. said_fits i d said fit))
  where
    any : (r : Result Said LineFault) → IfOk r (λ _. ⊤)
    any (Ok x) = tt
    any (Err e) = tt

placed : (i : ℕ) (r : Result Draft LineFault) → IfOk r Fitting → IfOk (at_line i r) Fitting
unfolding at_line
placed i (Ok d) h = h
placed i (Err e) h = tt

lines_fit : (i : ℕ) (d : Draft) (ls : List (List ℕ)) → Fitting d → IfOk (with_lines i d ls) Fitting
unfolding with_lines
lines_fit i d [] fit = fit
lines_fit i d (l ∷ ls) fit = then Fitting Fitting (at_line i (with_line i d l)) (λ e. with_lines (i + 1) e ls) (placed i (with_line i d l) (line_fits i d l fit)) (λ e h. lines_fit (i + 1) e ls h)

-- each pass of a draft that was read fits its station
pub draft_fits : (text : List ℕ) (d : Draft) → draft_of text ≡ Ok d → Fitting d
unfolding draft_of
draft_fits text d is = subst (λ r. IfOk r Fitting) is (lines_fit 0 empty (lines_of text) (All-nil (λ v. misfit None v ≡ None)))

-- so each has directions, or each has none
pub each_directed : (text : List ℕ) (d : Draft) (s : StationLine) → draft_of text ≡ Ok d → d.station ≡ Some s → EachDirected (is_some s.step) d
each_directed text d s is says k v l =
    fits_says s (get_or (ends_in d.entries) k v) (subst (λ o. misfit o (get_or (ends_in d.entries) k v) ≡ None) says (draft_fits text d is k v l))

abbrev given : NamedList → Result NamedList TurnedAway
given l = Ok l

some_step : {X Y : Type 0} (f : X → Y) (o : Option X) → is_some (option_map f o) ≡ is_some o
some_step f None = refl
some_step f (Some x) = refl

directed_same : (k m : NamedList) → given k ≡ Ok m → k.directed ≡ m.directed
directed_same k m same = cc

-- the list has directions exactly if the station has a step
list_directed : (s : StationLine) (es : List Entry) (l : NamedList) → taken_with s es ≡ Ok l → is_some l.directed ≡ is_some s.step
unfolding taken_with
list_directed s es l e = by_refusal (refused_in s es) refl
  where
    by_refusal : (o : Option SlewRefusal) → refused_in s es ≡ o → is_some l.directed ≡ is_some s.step
    by_refusal None is = let same = rw is at e in ap is_some (sym (directed_same _ l same)) ∙ some_step _ s.step
    by_refusal (Some why) is = let same = rw is at e in absurd cc

by_step : (d : Draft) (l : NamedList) (b : Bool) → is_some l.directed ≡ b → EachDirected b d
    → ((is_some l.directed ≡ true) × EachDirected true d) ⊎ ((is_some l.directed ≡ false) × EachDirected false d)
by_step d l true has each = inl (has, each)
by_step d l false has each = inr (has, each)

pub all_or_none : AllOrNone
unfolding read_text taken
all_or_none text l e = by_draft (draft_of text) refl
  where
    by_station : (d : Draft) (o : Option StationLine) → draft_of text ≡ Ok d → d.station ≡ o
        → (d : Draft) × (draft_of text ≡ Ok d) × (((is_some l.directed ≡ true) × EachDirected true d) ⊎ ((is_some l.directed ≡ false) × EachDirected false d))
    by_station d None is none = let f = rw (is, none) at e in absurd cc
    by_station d (Some s) is says = (d, is, by_step d l (is_some s.step) (list_directed s d.entries l (rw (is, says) at e)) (each_directed text d s is says))

    by_draft : (r : Result Draft TurnedAway) → draft_of text ≡ r
        → (d : Draft) × (draft_of text ≡ Ok d) × (((is_some l.directed ≡ true) × EachDirected true d) ⊎ ((is_some l.directed ≡ false) × EachDirected false d))
    by_draft (Ok d) is = by_station d d.station is refl
    by_draft (Err t) is = let f = rw is at e in absurd cc
