-- What arguments ask of the program. Assumes nothing: these are definitions.
use Rattle.std.specs.Prelude.{ℕ, List, [], ◌∷◌, codes, bytes_eq, slice_index, ◌==◌, option_map, Some, None, Option, if◌then◌else◌}
use Rattle.report.specs.declared.answers.View.{View}
use Rattle.report.specs.declared.answers.View.TheVariants.{Plan, Timeline, Svg, Why}
use Rattle.report.specs.declared.requests.Request.{Request}
use Rattle.report.specs.declared.requests.Request.TheVariants as code

-- what may be asked for
pub data Asked : Type 0 where
  help : Asked
  version : Asked
  plan : View → (path : Option (List ℕ)) → Asked
  unknown : Asked

-- what the code's value asks for
abbrev pub asked : Request → Asked
asked code.Help = help
asked code.Version = version
asked (code.Plan view path) = plan view (option_map (λ p. p.now) path)
asked code.Unknown = unknown

-- the view that an option asks for
unfoldable pub view_named : List ℕ → Option View
view_named w =
    if bytes_eq w (codes "--timeline") then Some Timeline else if bytes_eq w (codes "--svg") then Some Svg else if bytes_eq w (codes "--why") then Some Why else None

-- a file, whose name may not begin as that of an option does
unfoldable pub of_file : View → List ℕ → Asked
of_file view w = if slice_index w 0 == 45 then unknown else plan view (Some w)

-- a view of standard input
abbrev pub of_view : Option View → Asked → Asked
of_view (Some view) other = plan view None
of_view None other = other

-- one argument: an option, or a file
unfoldable pub of_option : List ℕ → Asked
of_option w = if bytes_eq w (codes "--help") then help else if bytes_eq w (codes "--version") then version else of_view (view_named w) (of_file Plan w)

-- two arguments: an option that asks for a view, and a file
abbrev pub of_both : Option View → List ℕ → Asked
of_both (Some view) path = of_file view path
of_both None path = unknown

-- what arguments ask for: without any the list is read from standard input
unfoldable pub request_of : List (List ℕ) → Asked
request_of [] = plan Plan None
request_of (w ∷ []) = of_option w
request_of (w ∷ (v ∷ [])) = of_both (view_named w) v
request_of (w ∷ (v ∷ (u ∷ ws))) = unknown
