use Rattle.std.proofs.Common.{map, ◌∙◌}
use Rattle.text.specs.Views.{entry_of}
use Rattle.text.proofs.Directed.{each_pass}
use Rattle.text.proofs.TakingLists.{each_named, accepted, same_list}
use Rattle.text.proofs.draft.Draft.into_night_with.Goals as goal

pub with_directions-requires : goal.with_directions-requires
with_directions-requires c =
    each_pass c.args.station (map entry_of c.args.self.entries.items) c.in_ok-night.night c.in_ok-night.ensures c.in_ok-slewing.slewing c.in_ok-slewing.ensures

pub unwrap-requires : goal.unwrap-requires
unwrap-requires c = c.with_directions.ensures.taken ∙ rw (c.in_ok-night.ensures.same.same_passes, c.in_ok-into_names.ensures) (each_named c.args.self.entries.items)

pub returns : goal.returns
returns c =
    let taken = accepted c.args.station (map entry_of c.args.self.entries.items) c.in_ok-slewing.ensures.taken in
    let night = c.in_ok-night.ensures.same in
    taken ∙ same_list c.with_directions.result c.unwrap.result _ _ _ _ _ _ _ c.unwrap.ensures c.with_directions.ensures.same night.same_station night.same_passes c.in_ok-into_names.ensures c.in_ok-slewing.ensures.same
