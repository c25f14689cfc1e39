-- The line that is named is the first that can't be read. Assumes nothing.
use Rattle.std.proofs.Common.{◌≡◌, ℕ, zero, suc, ◌+◌, ◌<◌, ◌⊎◌, inl, inr, List, [], ◌∷◌, length, take, get_or, Some, None, Option, Ok, Err, Result, refl, sym, ap, subst, ◌∙◌, arith}
use Rattle.slewing.specs.declared.refusals.SlewRefusal.{SlewRefusal}
use Rattle.text.specs.declared.draft.StationLine.{StationLine}
use Rattle.text.specs.declared.faults.BadLine.{BadLine}
use Rattle.text.specs.declared.faults.LineFault.{LineFault}
use Rattle.text.specs.declared.faults.LineFault.TheVariants.{NoStation}
use Rattle.text.specs.declared.faults.TurnedAway.{TurnedAway}
use Rattle.text.specs.declared.faults.TurnedAway.TheVariants.{Unreadable}
use Rattle.text.specs.Drafts.{Draft, Entry, empty, at_line, with_line, with_lines, draft_of}
use Rattle.text.specs.Reading.{refused_in, last_line, taken_with, taken, read_text}
use Rattle.text.specs.Statements.{StopsAt, HasNoStation, FirstAtFault, UnreadableFirst}
use Rattle.text.specs.Words.{lines_of}

-- of lines from line i on, the k-th is the first that can't be read
record StopsWith (i : ℕ) (d : Draft) (ls : List (List ℕ)) (bad : BadLine) : Type 0 where
  k : ℕ
  place : bad.line ≡ i + k
  within : k < length ls
  before : Draft
  read : with_lines i d (take k ls) ≡ Ok before
  unread : with_line (i + k) before (get_or ls k []) ≡ Err bad.fault

-- a text is turned away with this
abbrev pub turned : {A : Type 0} → TurnedAway → Result A TurnedAway
turned t = Err t

same_bad : {A : Type 0} (b c : BadLine) → turned {A = A} (Unreadable b) ≡ Err (Unreadable c) → b ≡ c
same_bad b c e = cc

pub away_for : {A : Type 0} (t u : TurnedAway) → turned {A = A} t ≡ Err u → t ≡ u
away_for t u e = cc

here : (i : ℕ) (d : Draft) (l : List ℕ) (ls : List (List ℕ)) (bad : BadLine) (fault : LineFault) → with_line i d l ≡ Err fault → with_lines i d (l ∷ ls) ≡ Err (Unreadable bad) → StopsWith i d (l ∷ ls) bad
unfolding with_lines at_line
here i d l ls bad fault is e =
    let same = same_bad (record { line = i; fault = fault }) bad (rw is at e) in
    record {
      k = 0;
      place = sym (ap (λ b. b.line) same) ∙ omega arith;
      within = omega arith;
      before = d;
      read = refl;
      unread = subst (λ (j : ℕ). with_line j d l ≡ Err bad.fault) (omega arith) (is ∙ ap (λ b. Err b.fault) same);
    }

later : (i : ℕ) (d next : Draft) (l : List ℕ) (ls : List (List ℕ)) (bad : BadLine) → with_line i d l ≡ Ok next → StopsWith (i + 1) next ls bad → StopsWith i d (l ∷ ls) bad
unfolding with_lines at_line
later i d next l ls bad is rest =
    record {
      k = suc rest.k;
      place = rest.place ∙ omega arith;
      within = omega (arith, rest.within);
      before = rest.before;
      read = rw is rest.read;
      unread = subst (λ (j : ℕ). with_line j rest.before (get_or ls rest.k []) ≡ Err bad.fault) (omega arith) rest.unread;
    }

goes_on : (i : ℕ) (d next : Draft) (l : List ℕ) (ls : List (List ℕ)) (bad : BadLine) → with_line i d l ≡ Ok next → with_lines i d (l ∷ ls) ≡ Err (Unreadable bad) → with_lines (i + 1) next ls ≡ Err (Unreadable bad)
unfolding with_lines at_line
goes_on i d next l ls bad is e = rw is at e

stops : (i : ℕ) (d : Draft) (ls : List (List ℕ)) (bad : BadLine) → with_lines i d ls ≡ Err (Unreadable bad) → StopsWith i d ls bad
unfolding with_lines
stops i d [] bad e = absurd cc
stops i d (l ∷ ls) bad e = by_line (with_line i d l) refl (λ next. stops (i + 1) next ls bad)
  where
    by_line : (r : Result Draft LineFault) → with_line i d l ≡ r → ((next : Draft) → with_lines (i + 1) next ls ≡ Err (Unreadable bad) → StopsWith (i + 1) next ls bad) → StopsWith i d (l ∷ ls) bad
    by_line (Err fault) is further = here i d l ls bad fault is e
    by_line (Ok next) is further = later i d next l ls bad is (further next (goes_on i d next l ls bad is e))

-- what is refused for what its lines say is not unreadable
not_unreadable : (s : StationLine) (es : List Entry) (bad : BadLine) → taken_with s es ≡ Err (Unreadable bad) → ⊥
unfolding taken_with
not_unreadable s es bad e = by_refusal (refused_in s es) refl
  where
    by_refusal : (o : Option SlewRefusal) → refused_in s es ≡ o → ⊥
    by_refusal None is = let f = rw is at e in absurd cc
    by_refusal (Some why) is = let f = rw is at e in absurd cc

without_station : (text : List ℕ) (d : Draft) (bad : BadLine) → draft_of text ≡ Ok d → taken (last_line text) d ≡ Err (Unreadable bad) → HasNoStation text bad.line × (bad.fault ≡ NoStation)
unfolding taken
without_station text d bad is e = by_station d.station refl
  where
    by_station : (o : Option StationLine) → d.station ≡ o → HasNoStation text bad.line × (bad.fault ≡ NoStation)
    by_station None none =
        let same = same_bad (record { line = last_line text; fault = NoStation }) bad (rw none at e) in
        (record { all = d; read = is; none = none; last = sym (ap (λ b. b.line) same) }, sym (ap (λ b. b.fault) same))
    by_station (Some s) some = absurd (not_unreadable s d.entries bad (rw some at e))

stopped_at : (text : List ℕ) (bad : BadLine) → StopsWith 0 empty (lines_of text) bad → StopsAt text bad.line bad.fault
stopped_at text bad stop =
    let place : stop.k ≡ bad.line = omega (arith, stop.place) in
    record {
      within = subst (λ k. k < length (lines_of text)) place stop.within;
      before = stop.before;
      read = subst (λ k. with_lines 0 empty (take k (lines_of text)) ≡ Ok stop.before) place stop.read;
      unread = subst (λ k. with_line k stop.before (get_or (lines_of text) k []) ≡ Err bad.fault) place (subst (λ (j : ℕ). with_line j stop.before (get_or (lines_of text) stop.k []) ≡ Err bad.fault) (omega arith) stop.unread);
    }

stopped : (text : List ℕ) (bad : BadLine) → draft_of text ≡ Err (Unreadable bad) → StopsAt text bad.line bad.fault
unfolding draft_of
stopped text bad e = stopped_at text bad (stops 0 empty (lines_of text) bad e)

pub first_at_fault : FirstAtFault
unfolding read_text
first_at_fault text bad e = by_draft (draft_of text) refl
  where
    by_draft : (r : Result Draft TurnedAway) → draft_of text ≡ r → StopsAt text bad.line bad.fault ⊎ (HasNoStation text bad.line × (bad.fault ≡ NoStation))
    by_draft (Ok d) is = inr (without_station text d bad is (rw is at e))
    by_draft (Err t) is = inl (stopped text bad (is ∙ ap turned (away_for t (Unreadable bad) (rw is at e))))

-- line j of a text, the k-th of the lines from line i on
module _ (j : ℕ) (e : Draft) (fault : LineFault) where
  at_once : (i : ℕ) (d : Draft) (l : List ℕ) (ls : List (List ℕ)) → j ≡ i → d ≡ e → with_line j e l ≡ Err fault → with_lines i d (l ∷ ls) ≡ Err (Unreadable (record { line = j; fault = fault }))
  unfolding with_lines at_line
  at_once i d l ls place same is =
      let here : with_line i d l ≡ Err fault = subst (λ (n : ℕ). with_line n d l ≡ Err fault) place (subst (λ f. with_line j f l ≡ Err fault) (sym same) is) in
      rw (here, place) refl

  further : (i : ℕ) (d next : Draft) (l : List ℕ) (ls : List (List ℕ)) → with_line i d l ≡ Ok next → with_lines i d (l ∷ ls) ≡ with_lines (i + 1) next ls
  unfolding with_lines at_line
  further i d next l ls is = rw is refl

  no_further : (i : ℕ) (d : Draft) (l : List ℕ) (ls : List (List ℕ)) (f : LineFault) → with_line i d l ≡ Err f → with_lines i d (l ∷ ls) ≡ Ok e → ⊥
  unfolding with_lines at_line
  no_further i d l ls f is read = let both = rw is at read in absurd cc

  same_draft : (i : ℕ) (d : Draft) → with_lines i d [] ≡ Ok e → d ≡ e
  unfolding with_lines
  same_draft i d read = cc

  stops_there : (i : ℕ) (d : Draft) (ls : List (List ℕ)) (k : ℕ) → j ≡ i + k → k < length ls → with_lines i d (take k ls) ≡ Ok e → with_line j e (get_or ls k []) ≡ Err fault
      → with_lines i d ls ≡ Err (Unreadable (record { line = j; fault = fault }))
  stops_there i d [] k place within read is = absurd (omega (arith, within))
  stops_there i d (l ∷ ls) zero place within read is = at_once i d l ls (place ∙ omega arith) (same_draft i d read) is
  stops_there i d (l ∷ ls) (suc k) place within read is = by_line (with_line i d l) refl (λ next. stops_there (i + 1) next ls k)
    where
      by_line : (r : Result Draft LineFault) → with_line i d l ≡ r
          → ((next : Draft) → j ≡ i + 1 + k → k < length ls → with_lines (i + 1) next (take k ls) ≡ Ok e → with_line j e (get_or ls k []) ≡ Err fault → with_lines (i + 1) next ls ≡ Err (Unreadable (record { line = j; fault = fault })))
          → with_lines i d (l ∷ ls) ≡ Err (Unreadable (record { line = j; fault = fault }))
      by_line (Err f) first rest = absurd (no_further i d l (take k ls) f first read)
      by_line (Ok next) first rest = further i d next l ls first ∙ rest next (place ∙ omega arith) (omega (arith, within)) (sym (further i d next l (take k ls) first) ∙ read) is

pub unreadable_first : UnreadableFirst
unfolding read_text draft_of
unreadable_first text i fault stop = rw (stops_there i stop.before fault 0 empty (lines_of text) i (omega arith) stop.within stop.read stop.unread) refl
