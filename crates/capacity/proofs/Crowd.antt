-- How many passes hold a dish in a second, counted by what a plan says of them. Assumes nothing.
use Rattle.std.proofs.Common.{◌≡◌, ℕ, zero, suc, ◌+◌, ◌<◌, ◌≤◌, Bool, true, false, cond, ◌&&◌, eqb, ltb, List, [], ◌∷◌, length, refl, ⊎_elim, arith}
use Rattle.std.proofs.lemmas.Bool.{cases_Bool}
use Rattle.std.proofs.lemmas.Bool.Decides.{nat_tests}
use Rattle.passes.specs.declared.model.Pass.{Pass}
use Rattle.passes.specs.Busy.{holds, busy}
use Rattle.passes.specs.Plans.{Plan}
use Rattle.passes.specs.Rule.{nth, says}

module _ (t x : ℕ) where
  -- how many passes hold a dish in the second x, of those of which a plan says what passes a test
  unfoldable pub crowd : (ℕ → Bool) → List Pass → Plan → ℕ
  crowd f [] ds = 0
  crowd f (p ∷ ps) [] = 0
  crowd f (p ∷ ps) (d ∷ ds) = cond (f d && holds t p x) 1 0 + crowd f ps ds

  -- pass j is one of them
  abbrev pub counts : (ℕ → Bool) → List Pass → Plan → ℕ → Bool
  counts f ps ds j = f (says ds j) && holds t (nth ps j) x

  -- they are some of those that do
  pub crowd_le_busy : (f : ℕ → Bool) (ps : List Pass) (ds : Plan) → crowd f ps ds ≤ busy t ps x
  unfolding crowd busy
  crowd_le_busy f [] ds = omega arith
  crowd_le_busy f (p ∷ ps) [] = omega arith
  crowd_le_busy f (p ∷ ps) (d ∷ ds) = let rest = crowd_le_busy f ps ds in grind (arith, nat_tests)

  -- where each that holds a dish passes the test, they are all that do
  pub crowd_is_busy : (f : ℕ → Bool) (ps : List Pass) (ds : Plan) → length ds ≡ length ps → ((j : ℕ) → j < length ps → holds t (nth ps j) x ≡ true → f (says ds j) ≡ true) → crowd f ps ds ≡ busy t ps x
  unfolding crowd busy
  crowd_is_busy f [] ds e h = refl
  crowd_is_busy f (p ∷ ps) [] e h = absurd (omega arith)
  crowd_is_busy f (p ∷ ps) (d ∷ ds) e h =
      let rest = crowd_is_busy f ps ds (omega arith) (λ j l. h (suc j) (omega arith)) in
      let here : holds t p x ≡ true → f d ≡ true = h 0 (omega arith) in
      ⊎_elim (λ yes. let passes = here yes in grind (arith, nat_tests)) (λ no. grind (arith, nat_tests)) (cases_Bool (holds t p x))

  -- where one is, there is one
  pub crowd_some : (f : ℕ → Bool) (ps : List Pass) (ds : Plan) → length ds ≡ length ps → (j : ℕ) → j < length ps → counts f ps ds j ≡ true → 0 < crowd f ps ds
  unfolding crowd
  crowd_some f [] ds e j l h = absurd (omega arith)
  crowd_some f (p ∷ ps) [] e j l h = absurd (omega arith)
  crowd_some f (p ∷ ps) (d ∷ ds) e zero l h = rw h (omega arith)
  crowd_some f (p ∷ ps) (d ∷ ds) e (suc j) l h = let rest = crowd_some f ps ds (omega arith) j (omega arith) h in omega arith

  -- where none is, there is none
  pub crowd_none : (f : ℕ → Bool) (ps : List Pass) (ds : Plan) → ((j : ℕ) → j < length ps → counts f ps ds j ≡ false) → crowd f ps ds ≡ 0
  unfolding crowd
  crowd_none f [] ds h = refl
  crowd_none f (p ∷ ps) [] h = refl
  crowd_none f (p ∷ ps) (d ∷ ds) h =
      let here : (f d && holds t p x) ≡ false = h 0 (omega arith) in
      rw (here, crowd_none f ps ds (λ j l. h (suc j) (omega arith))) refl

  -- where no two are, there is at most one
  pub crowd_one : (f : ℕ → Bool) (ps : List Pass) (ds : Plan) → ((i j : ℕ) → i < j → j < length ps → counts f ps ds i ≡ true → counts f ps ds j ≡ false) → crowd f ps ds ≤ 1
  unfolding crowd
  crowd_one f [] ds h = omega arith
  crowd_one f (p ∷ ps) [] h = omega arith
  crowd_one f (p ∷ ps) (d ∷ ds) h =
      ⊎_elim
      (λ (yes : (f d && holds t p x) ≡ true). rw (yes, crowd_none f ps ds (λ j l. h 0 (suc j) (omega arith) (omega arith) yes)) (omega arith))
      (λ no. rw no (omega (arith, crowd_one f ps ds (λ i j less l. h (suc i) (suc j) (omega arith) (omega arith)))))
      (cases_Bool (f d && holds t p x))

  -- how many hold a dish of those of which a plan says e
  abbrev pub held : ℕ → List Pass → Plan → ℕ
  held e = crowd (eqb e)

  -- and of those of which it says less than m
  abbrev pub among : ℕ → List Pass → Plan → ℕ
  among m = crowd (λ d. ltb d m)

  among_none : (ps : List Pass) (ds : Plan) → among 0 ps ds ≡ 0
  among_none ps ds = crowd_none (λ d. ltb d 0) ps ds (λ j l. grind (arith, nat_tests))

  -- the two, one number on
  among_more : (m : ℕ) (ps : List Pass) (ds : Plan) → among (suc m) ps ds ≡ among m ps ds + held m ps ds
  unfolding crowd
  among_more m [] ds = refl
  among_more m (p ∷ ps) [] = refl
  among_more m (p ∷ ps) (d ∷ ds) = let rest = among_more m ps ds in grind (arith, nat_tests)

  -- at least one for each number below m makes m
  pub among_at_least : (ps : List Pass) (ds : Plan) (m : ℕ) → ((e : ℕ) → e < m → 0 < held e ps ds) → m ≤ among m ps ds
  among_at_least ps ds zero h = omega arith
  among_at_least ps ds (suc m) h =
      let rest = among_at_least ps ds m (λ e l. h e (omega arith)) in
      omega (arith, among_more m ps ds, h m (omega arith))

  -- none for 0 and at most one for each other number up to m makes at most m
  pub among_at_most : (ps : List Pass) (ds : Plan) → held 0 ps ds ≡ 0 → (m : ℕ) → ((e : ℕ) → 0 < e → e ≤ m → held e ps ds ≤ 1) → among (suc m) ps ds ≤ m
  among_at_most ps ds none zero h = omega (arith, among_more 0 ps ds, among_none ps ds)
  among_at_most ps ds none (suc m) h =
      let rest = among_at_most ps ds none m (λ e more l. h e more (omega arith)) in
      omega (arith, among_more (suc m) ps ds, h (suc m) (omega arith) (omega arith))
