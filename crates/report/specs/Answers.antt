-- What is answered to the text of a list. Assumes nothing: these are definitions.
use Rattle.std.specs.Prelude.{◌≡◌, ℕ, List, Ok, Err, string_bytes}
use Rattle.drawing.specs.Levels.{LevelsFor}
use Rattle.drawing.specs.Drawings.{svg_text}
use Rattle.drawing.specs.Shown.{shown_of, LanesThere}
use Rattle.drawing.specs.Timelines.{timeline_text, LettersInTheirRows, LinesFit}
use Rattle.drawing.specs.Within.{InTheirLanes}
use Rattle.passes.specs.Nights.{passes_of}
use Rattle.planner.specs.Ruled.{BestBy}
use Rattle.reasons.specs.declared.reason.Reason.{Reason}
use Rattle.reasons.specs.TrueReasons.{AllTrue}
use Rattle.reasons.specs.Words.{reasons_text}
use Rattle.report.specs.declared.answers.Answer.{Answer}
use Rattle.report.specs.declared.answers.Answer.TheVariants.{Planned as PlannedText, TurnedAway as TurnedAwayText}
use Rattle.report.specs.declared.answers.View.{View}
use Rattle.report.specs.declared.answers.View.TheVariants.{Plan, Timeline, Svg, Why}
use Rattle.text.specs.declared.faults.TurnedAway.{TurnedAway}
use Rattle.text.specs.declared.nights.NamedNight.{NamedNight}
use Rattle.text.specs.declared.planned.Planned.{Planned}
use Rattle.text.specs.Lists.{list_of, good_of}
use Rattle.text.specs.Messages.{refusal_line}
use Rattle.text.specs.PlanText.{plan_text}
use Rattle.text.specs.Reading.{read_text}

-- the bytes are a timeline: there is a row for the lane of each pass, its letter stands in that row alone, and the lines fit
pub record IsTimeline (p : Planned) (bytes : List ℕ) : Type 0 where
  pub text : bytes ≡ timeline_text (shown_of p)
  pub there : LanesThere (shown_of p)
  pub drawn : LettersInTheirRows (shown_of p)
  pub fit : LinesFit (shown_of p)

-- the bytes are a drawing, with some levels: there is a lane for each pass, and what is drawn of the pass stands in it
pub record IsDrawing (p : Planned) (bytes : List ℕ) : Type 0 where
  pub levels : List ℕ
  pub count : ℕ
  pub chosen : LevelsFor (shown_of p) levels count
  pub text : bytes ≡ svg_text (shown_of p) levels count
  pub there : LanesThere (shown_of p)
  pub lane : InTheirLanes (shown_of p)

-- the bytes are a plan with a line for each pass, each of which gives a true reason why that pass is followed or let go
pub record IsExplained (p : Planned) (bytes : List ℕ) : Type 0 where
  pub reasons : List Reason
  pub all_true : AllTrue p reasons
  pub text : bytes ≡ reasons_text p reasons

-- the bytes show a planned night so
abbrev pub Shows : View → Planned → List ℕ → Type 0
Shows Plan p bytes = bytes ≡ plan_text p
Shows Timeline p bytes = IsTimeline p bytes
Shows Svg p bytes = IsDrawing p bytes
Shows Why p bytes = IsExplained p bytes

-- the bytes show a best plan for a night so: a good one, by the night's directions if it has any, of which none is worth more
pub record ShowsBest (view : View) (night : NamedNight) (bytes : List ℕ) : Type 0 where
  pub planned : Planned
  pub same : planned.night ≡ night
  pub best : BestBy (good_of night) (passes_of night.night) planned.plan.items planned.worth
  pub shows : Shows view planned bytes

-- THE PROMISE OF THE PROGRAM. What is answered shows a best plan for the list that the text stands for; or the text stands for none, and it says why
abbrev pub Answers : View → (text : List ℕ) → Answer → Type 0
Answers view text (PlannedText shown) = (night : NamedNight) × (read_text text ≡ Ok (list_of night)) × ShowsBest view night (string_bytes shown)
Answers view text (TurnedAwayText line) = (why : TurnedAway) × (read_text text ≡ Err why) × (string_bytes line ≡ refusal_line text why)
