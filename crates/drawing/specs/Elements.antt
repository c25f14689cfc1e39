-- The elements of an SVG document, as text. Assumes nothing: these are definitions.
use Rattle.std.specs.Prelude.{ℕ, List, ◌++◌, codes}
use Rattle.std.specs.Fmt.{decimal}
use Rattle.drawing.specs.declared.areas.Area.{Area}
use Rattle.drawing.specs.declared.areas.Spot.{Spot}

-- a rectangle of a class, in an SVG document
unfoldable pub rect : (class : List ℕ) → Area → List ℕ
rect class a =
    codes "<rect class='" ++ (class ++ (codes "' x='" ++ (decimal a.x ++ (codes "' y='" ++ (decimal a.y ++
    (codes "' width='" ++ (decimal a.width ++ (codes "' height='" ++ (decimal a.height ++ codes "'/>")))))))))

-- the front of a text of a class: where it stands, and how large it is
unfoldable pub spot : (class : List ℕ) → Spot → List ℕ
spot class at =
    codes "<text class='" ++ (class ++ (codes "' font-size='" ++ (decimal at.size ++
    (codes "' transform='translate(" ++ (decimal at.x ++ (codes " " ++ (decimal at.y ++ codes ")")))))))

-- words of a class at a spot, turned by an angle
unfoldable pub text : (class angle : List ℕ) → Spot → List ℕ → List ℕ
text class angle at words = spot class at ++ (codes " rotate(" ++ (angle ++ (codes ")' dy='.35em'>" ++ (words ++ codes "</text>"))))

-- how the ground looks, and what belongs to the time scale
abbrev pub ground_style : List ℕ
ground_style = codes "text{font-family:sans-serif;fill:#333}.mid{text-anchor:middle}.paper{fill:#fff}.lane{fill:#f4f6f8}.tick{fill:#d5dae0}"

-- how passes look
abbrev pub passes_style : List ℕ
passes_style = codes ".tail{fill:#9cc3e6;fill-opacity:.4}.bar{fill:#9cc3e6;stroke:#5b8db8}.unfollowed .bar{fill:#dcdcdc;stroke:#a6a6a6}"

-- how each class looks
unfoldable pub style : List ℕ
style = codes "<style>" ++ (ground_style ++ (passes_style ++ codes "</style>\n"))

-- the front of an SVG document that is so high
unfoldable pub start : ℕ → List ℕ
start height = codes "<svg xmlns='http://www.w3.org/2000/svg' viewBox='0 0 " ++ (decimal 1600 ++ (codes " " ++ (decimal height ++ codes "'>\n")))
