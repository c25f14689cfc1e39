-- Which line of a text and which rule a refusal is about. Assumes nothing: these are definitions.
use Rattle.std.specs.Prelude.{ℕ, List, map, get_or, nat_le, nat_lt, if◌then◌else◌}
use Rattle.passes.specs.Checks.{max_passes, max_second, max_worth, max_marks}
use Rattle.passes.specs.declared.refusals.Refusal.TheVariants.{BadDishes, BadTurning, BadPass, BadRoom}
use Rattle.slewing.specs.declared.refusals.SlewRefusal.{SlewRefusal}
use Rattle.slewing.specs.declared.refusals.SlewRefusal.TheVariants.{Plain, BadStep, BadDirections}
use Rattle.text.specs.declared.draft.StationLine.{StationLine}
use Rattle.text.specs.declared.faults.ListRule.{ListRule}
use Rattle.text.specs.declared.faults.ListRule.TheVariants.{Dishes, Turning, Count, Span, End, Worth, Marks, Order, Step, Directions}
use Rattle.text.specs.declared.line.Numbers.{Numbers}
use Rattle.text.specs.Drafts.{Entry}

-- the line of a text that says pass i of a draft, or line 0 where there is no such pass
abbrev pub line_of : List Entry → ℕ → ℕ
line_of es i = get_or (map (λ e. e.line) es) i 0

-- the line of a text that a refusal is about: that of the station, or of the pass
unfoldable pub line_about : StationLine → List Entry → SlewRefusal → ℕ
line_about s es (Plain BadDishes) = s.line
line_about s es (Plain BadTurning) = s.line
line_about s es (Plain (BadPass i)) = line_of es i
line_about s es (Plain (BadRoom n)) = 0
line_about s es BadStep = s.line
line_about s es (BadDirections i) = line_of es i

-- the rule that a pass breaks: of several the first, and where its numbers break none, that passes come in order
unfoldable pub rule_of_pass : Numbers → ListRule
rule_of_pass p =
    if nat_le p.to p.from then Span
    else if nat_lt max_second p.to then End
    else if nat_lt max_worth p.worth then Worth
    else if nat_lt max_marks p.marks then Marks
    else Order

-- the numbers of pass i of a draft, or zeros where there is no such pass
abbrev pub numbers_at : List Entry → ℕ → Numbers
numbers_at es i = get_or (map (λ e. e.pass.numbers) es) i (record { from = 0; to = 0; worth = 0; marks = 0 })

-- the rule that a refusal of a draft is about: passes from the 49th on are too many
unfoldable pub rule_about : List Entry → SlewRefusal → ListRule
rule_about es (Plain BadDishes) = Dishes
rule_about es (Plain BadTurning) = Turning
rule_about es (Plain (BadPass i)) = if nat_lt i max_passes then rule_of_pass (numbers_at es i) else Count
rule_about es (Plain (BadRoom n)) = Count
rule_about es BadStep = Step
rule_about es (BadDirections i) = Directions
