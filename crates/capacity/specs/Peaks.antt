-- The second in which most passes hold a dish. Assumes nothing: these are definitions.
use Rattle.std.specs.Prelude.{◌≡◌, ℕ, ◌<◌, ◌≤◌, List}
use Rattle.passes.specs.declared.model.Pass.{Pass}
use Rattle.passes.specs.Busy.{busy}

-- x is the first second in which most passes of a list hold a dish that takes t seconds to turn, and n of them do
pub record Busiest (t : ℕ) (ps : List Pass) (x n : ℕ) : Type 0 where
  pub count : busy t ps x ≡ n
  pub most : (y : ℕ) → busy t ps y ≤ n
  pub first : (y : ℕ) → y < x → busy t ps y < n
