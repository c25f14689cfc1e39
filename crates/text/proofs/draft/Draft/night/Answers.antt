use Rattle.std.proofs.Common.{map, sym, ap, ◌∙◌}
use Rattle.passes.specs.Refusals.{refused}
use Rattle.slewing.specs.declared.refusals.SlewRefusal.TheVariants.{Plain}
use Rattle.text.specs.Views.{entry_of}
use Rattle.text.proofs.TakingLists.{turned_away, plainly}
use Rattle.text.proofs.draft.Draft.night.Goals as goal

pub returns : goal.returns
returns c =
    let s = c.args.station in
    let es = map entry_of c.args.self.now.entries.items in
    let same = c.deref.ensures.value ∙ c.in_ok-numbers.ensures in
    let why = sym (c.in-Err.ensures.refusal ∙ ap (refused s.dishes s.turn) same) in
    rw c.turned_away.ensures (turned_away s es (Plain c.in-Err.refusal) (plainly s es c.in-Err.refusal why))
