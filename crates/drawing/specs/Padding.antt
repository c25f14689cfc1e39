-- Text in columns. Assumes nothing: these are definitions.
use Rattle.std.specs.Prelude.{ℕ, ◌-◌, List, ◌++◌, length, replicate}

-- so many spaces
abbrev pub spaces : ℕ → List ℕ
spaces n = replicate n 32

-- a text at the left of a column of this width; what is longer stands as it is
abbrev pub left : ℕ → List ℕ → List ℕ
left width text = text ++ spaces (width - length text)

-- a text at the right of a column of this width; what is longer stands as it is
abbrev pub right : ℕ → List ℕ → List ℕ
right width text = spaces (width - length text) ++ text
