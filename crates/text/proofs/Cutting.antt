-- A text is cut at its line feeds into the lines that it was made of, and a line into its words. Assumes nothing.
use Rattle.std.proofs.Common.{◌≡◌, ℕ, ◌<◌, Bool, true, false, leb, cond, not, ◌&&◌, List, [], ◌∷◌, ◌++◌, length, map, eqb, refl, ap, ◌∙◌, append_assoc, append-nil, arith, All}
use Rattle.std.specs.Prelude.{filter, codes}
use Rattle.std.specs.List.{flat_map, slice_split, AllByRecursion}
use Rattle.std.proofs.lemmas.Bool.Decides.{nat_tests}
use Rattle.std.proofs.lemmas.List.Elements.{All-nil, All-cons, All-append, All-from_recursion}
use Rattle.std.proofs.lemmas.List.Splits.{slice_split_none, slice_split_at}
use Rattle.text.specs.Words.{ends_line, is_blank, lines_of, words_of}
use Rattle.text.specs.Writing.{behind, spaced, line}

-- a byte that ends no line
abbrev in_line : ℕ → Type 0
in_line b = ends_line b ≡ false

-- no byte ends a line
abbrev OneLine : List ℕ → Type 0
OneLine bs = All in_line bs

-- a byte that separates neither words nor lines
unfoldable pub plain : ℕ → Bool
plain b = not (is_blank b) && not (ends_line b)

unfoldable pub all_plain : List ℕ → Bool
all_plain [] = true
all_plain (b ∷ bs) = plain b && all_plain bs

-- a word: it has bytes, and none that separates
unfoldable pub is_word : List ℕ → Bool
is_word w = leb 1 (length w) && all_plain w

unfoldable pub all_words : List (List ℕ) → Bool
all_words [] = true
all_words (w ∷ ws) = is_word w && all_words ws

pub all_words-append : (ws vs : List (List ℕ)) → all_words ws ≡ true → all_words vs ≡ true → all_words (ws ++ vs) ≡ true
unfolding all_words
all_words-append [] vs h k = k
all_words-append (w ∷ ws) vs h k = rw (all_words-append ws vs (grind (arith, nat_tests)) k) (grind (arith, nat_tests))

-- a test that fails at each plain byte fails at all of these
untouched : (test : ℕ → Bool) → ((b : ℕ) → plain b ≡ true → test b ≡ false) → (w : List ℕ) → all_plain w ≡ true → All (λ b. test b ≡ false) w
unfolding all_plain
untouched test fails w h = All-from_recursion (λ b. test b ≡ false) w (each w h)
  where
    each : (w : List ℕ) → all_plain w ≡ true → AllByRecursion (λ b. test b ≡ false) w
    each [] h = tt
    each (b ∷ bs) h = (fails b (grind (arith, nat_tests)), each bs (grind (arith, nat_tests)))

no_blank : (b : ℕ) → plain b ≡ true → is_blank b ≡ false
unfolding plain
no_blank b h = grind (arith, nat_tests)

no_end : (b : ℕ) → plain b ≡ true → ends_line b ≡ false
unfolding plain
no_end b h = grind (arith, nat_tests)

record IsWord (w : List ℕ) : Type 0 where
  some : 0 < length w
  unbroken_word : All (λ b. is_blank b ≡ false) w
  one_line_word : OneLine w

word : (w : List ℕ) → is_word w ≡ true → IsWord w
unfolding is_word
word w h = let plain_bytes : all_plain w ≡ true = grind (arith, nat_tests) in record { some = grind (arith, nat_tests); unbroken_word = untouched is_blank no_blank w plain_bytes; one_line_word = untouched ends_line no_end w plain_bytes }

abbrev Words : List (List ℕ) → Type 0
Words ws = AllByRecursion IsWord ws

words : (ws : List (List ℕ)) → all_words ws ≡ true → Words ws
unfolding all_words
words [] h = tt
words (w ∷ ws) h = (word w (grind (arith, nat_tests)), words ws (grind (arith, nat_tests)))

cut : (w : List ℕ) (ws : List (List ℕ)) → IsWord w → Words ws → slice_split is_blank (w ++ behind ws) ≡ w ∷ ws
unfolding is_blank
cut w [] is _ = ap (slice_split is_blank) (append-nil w) ∙ slice_split_none is_blank w is.unbroken_word
cut w (v ∷ vs) is (next, rest) =
    slice_split_at is_blank w 32 (v ++ behind vs) is.unbroken_word refl ∙ ap (λ ps. w ∷ ps) (cut v vs next rest)

kept : (ws : List (List ℕ)) → Words ws → filter (λ w. not (eqb (length w) 0)) ws ≡ ws
kept [] _ = refl
kept (w ∷ ws) (is, rest) = ap (λ vs. cond (not (eqb (length w) 0)) (w ∷ vs) vs) (kept ws rest) ∙ with_front (length w) is.some
  where
    with_front : (n : ℕ) → 0 < n → cond (not (eqb n 0)) (w ∷ ws) ws ≡ w ∷ ws
    with_front n some = grind (arith, nat_tests)

-- the words of a line that was made of words are these
same_words : (ws : List (List ℕ)) → Words ws → words_of (spaced ws) ≡ ws
same_words [] _ = refl
same_words (w ∷ ws) (is, rest) = ap (filter (λ w. not (eqb (length w) 0))) (cut w ws is rest) ∙ kept (w ∷ ws) (is, rest)

pub words_back : (ws : List (List ℕ)) → all_words ws ≡ true → words_of (spaced ws) ≡ ws
words_back ws h = same_words ws (words ws h)

behind_one_line : (ws : List (List ℕ)) → Words ws → OneLine (behind ws)
behind_one_line [] _ = All-nil in_line
behind_one_line (w ∷ ws) (is, rest) =
    All-cons in_line 32 (w ++ behind ws) refl (All-append in_line w (behind ws) is.one_line_word (behind_one_line ws rest))

spaced_one_line : (ws : List (List ℕ)) → Words ws → OneLine (spaced ws)
spaced_one_line [] _ = All-nil in_line
spaced_one_line (w ∷ ws) (is, rest) = All-append in_line w (behind ws) is.one_line_word (behind_one_line ws rest)

-- all words of all lines are
unfoldable pub all_lines : List (List (List ℕ)) → Bool
all_lines [] = true
all_lines (ws ∷ ls) = all_words ws && all_lines ls

-- the lines of a text that was made of lines are these, and an empty one at the end
pub lines_back : (ls : List (List (List ℕ))) → all_lines ls ≡ true → lines_of (flat_map line ls) ≡ map spaced ls ++ ([] ∷ [])
unfolding all_lines
lines_back [] h = refl
lines_back (ws ∷ ls) h =
    let are = words ws (grind (arith, nat_tests)) in
    ap (slice_split ends_line) (append_assoc (spaced ws) (codes "\n") (flat_map line ls)) ∙ slice_split_at ends_line (spaced ws) 10 (flat_map line ls) (spaced_one_line ws are) refl ∙ ap (λ ps. spaced ws ∷ ps) (lines_back ls (grind (arith, nat_tests)))
