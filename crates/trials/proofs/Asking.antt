-- Why passes can be asked about, and what is said of lists one after the other. Assumes nothing.
use Rattle.std.proofs.Common.{◌≡◌, ℕ, ◌+◌, List, [], ◌∷◌, ◌++◌, length, None, Ok, Err, Result, sym, refl, ap, ◌∙◌, arith}
use Rattle.std.specs.List.{flat_map}
use Rattle.std.specs.Prelude.{IsOk}
use Rattle.std.specs.Result.{result_err}
use Rattle.std.proofs.lemmas.Bool.Decides.{nat_tests}
use Rattle.std.proofs.lemmas.List.{append-nil, length_push}
use Rattle.std.proofs.lemmas.List.Concat.{flat_map-append}
use Rattle.std.proofs.lemmas.List.Elements.{All-push}
use Rattle.passes.specs.declared.refusals.Refusal.{Refusal}
use Rattle.passes.specs.Numbers.{passes_in}
use Rattle.passes.specs.Refusals.{refused, refused_with_room, room_refused}
use Rattle.sensitivity.specs.Answers.{refused_with_rooms}
use Rattle.trials.specs.declared.kinds.Kind.{Kind}
use Rattle.trials.specs.declared.needs.Asked.{Asked}
use Rattle.trials.specs.Needs.{AskedOf, AskedOfLists}

-- where no refusal applies to a list, and both rooms have a number for each pass, none applies to them
rooms_taken :
    (k t : ℕ) (xs : List ℕ) (room second : ℕ) → refused k t xs ≡ None → room ≡ length (passes_in xs) → second ≡ length (passes_in xs) →
    refused_with_rooms k t xs room second ≡ None
unfolding refused_with_room room_refused
rooms_taken k t xs room second taken one_each second_too = rw taken (grind (arith, nat_tests))

-- what is answered there is no refusal
pub no_refusal : {X : Type 0} (k t : ℕ) (xs : List ℕ) (room second : ℕ) (r : Result X Refusal) →
    refused k t xs ≡ None → room ≡ length (passes_in xs) → second ≡ length (passes_in xs) →
    result_err r ≡ refused_with_rooms k t xs room second → IsOk r
no_refusal k t xs room second (Ok x) taken one_each second_too told = refl
no_refusal k t xs room second (Err why) taken one_each second_too told =
    absurd (grind (arith, told ∙ rooms_taken k t xs room second taken one_each second_too))

-- what is said of one list more
pub one_list_more :
    (kind : Kind) (n : ℕ) (said one : List Asked) → AskedOfLists kind n said → AskedOf kind one → AskedOfLists kind (n + 1) (said ++ one)
one_list_more kind n said one h here = record {
  lists = h.lists ++ one ∷ [];
  as_many = length_push h.lists one ∙ ap (λ m. m + 1) h.as_many;
  joined =
      rw h.joined
      (sym (flat_map-append (λ list. list) h.lists (one ∷ []) ∙ ap (λ ys. flat_map (λ list. list) h.lists ++ ys) (append-nil one)));
  each = All-push (AskedOf kind) h.lists one h.each here;
}
