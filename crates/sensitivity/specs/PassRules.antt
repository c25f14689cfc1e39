-- The rule on one pass: that it is followed, or that it isn't. Assumes nothing: these are definitions.
use Rattle.std.specs.Prelude.{◌≡◌, ℕ, ◌<◌, Bool, true, false, not, ◌&&◌, cond, List, length, Some, None, Option, ◌==◌}
use Rattle.engine.specs.Rules.{Automaton, automaton_of, accepts}
use Rattle.passes.specs.declared.model.Pass.{Pass}
use Rattle.passes.specs.Plans.{Plan, worth_of}
use Rattle.planner.specs.Ruled.{is_followed, follows}
use Rattle.sensitivity.specs.declared.pass_rules.PassRule.{PassRule}
use Rattle.sensitivity.specs.declared.pass_rules.PassRule.TheVariants.{Forced, Forbidden}
use Rattle.sensitivity.specs.Needing.{with_worth, BestAsked}

-- the pass that the rule is about, by its place
abbrev pub ruled_pass : PassRule → ℕ
ruled_pass (Forced i) = i
ruled_pass (Forbidden i) = i

-- the rule asks that its pass is followed, and not that it isn't
abbrev pub forces : PassRule → Bool
forces (Forced i) = true
forces (Forbidden i) = false

-- the rule refuses that a plan says d of pass i
abbrev pub refuses : PassRule → (i d : ℕ) → Bool
refuses (Forced j) i d = i == j && not (is_followed d)
refuses (Forbidden j) i d = i == j && is_followed d

-- the rule as an automaton: it refuses what goes against it, and remembers nothing
abbrev pub pass_automaton : PassRule → Automaton (Unit {0})
pass_automaton w = automaton_of tt (λ i d s. cond (refuses w i d) None (Some tt))

-- where its pass is one of the plan's, the rule accepts a plan exactly if that does with the pass as the rule asks
abbrev pub PassRuleMeans : Type 0
PassRuleMeans =
    (w : PassRule) (ds : Plan) → ruled_pass w < length ds →
    (accepts (pass_automaton w) ds ≡ true → follows ds (ruled_pass w) ≡ forces w) × (follows ds (ruled_pass w) ≡ forces w → accepts (pass_automaton w) ds ≡ true)

-- what a search answers for good plans that do with pass i as is asked, where the pass is worth v, and what is in the room then: there is none, and the
-- room is as it was; or a best one of them, and its worth
abbrev pub AskedAnswered : (good : List Pass → Plan → Bool) → (b : Bool) → List Pass → (i v : ℕ) → (room : Plan) → Option ℕ → (after : Plan) → Type 0
AskedAnswered good b ps i v room None after = ((ds : Plan) → good ps ds ≡ true → follows ds i ≡ b → ⊥) × (after ≡ room)
AskedAnswered good b ps i v room (Some w) after = BestAsked good b ps i after × (w ≡ worth_of (with_worth ps i v) after)
