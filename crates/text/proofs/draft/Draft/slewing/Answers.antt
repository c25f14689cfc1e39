use Rattle.std.proofs.Common.{map, ◌∙◌}
use Rattle.text.specs.Views.{entry_of}
use Rattle.text.proofs.Directed.{without, these, turned_away_for}
use Rattle.text.proofs.draft.Draft.slewing.Goals as goal

pub returns-in_default : goal.returns-in_default
returns-in_default c = without c.args.station (map entry_of c.args.self.now.entries.items) c.args.night.now c.requires c.in_default.is

pub returns-in-Ok : goal.returns-in-Ok
returns-in-Ok c =
    these c.args.station (map entry_of c.args.self.now.entries.items) c.args.night.now c.requires c.in-Some.step _ c.in-Some.is (c.deref.ensures.value ∙ c.in_ok-directions.ensures) c.in-Ok.slewing c.in-Ok.ensures.refusal c.in-Ok.ensures.slewing

pub returns : goal.returns
returns c =
    rw c.turned_away.ensures
    (turned_away_for c.args.station (map entry_of c.args.self.now.entries.items) c.args.night.now c.requires c.in-Some.step _ c.in-Some.is (c.deref.ensures.value ∙ c.in_ok-directions.ensures) c.in-Err.refusal c.in-Err.ensures.refusal)
