-- Which passes one plan follows and another doesn't, and what they are called. Assumes nothing: these are definitions.
use Rattle.std.specs.Prelude.{ℕ, not, ◌&&◌, List, [], map, filter, length, ◌==◌, slice_index_or}
use Rattle.std.specs.List.{range_with_len}
use Rattle.passes.specs.Nights.{passes_of}
use Rattle.passes.specs.Plans.{Plan}
use Rattle.planner.specs.Ruled.{follows}
use Rattle.text.specs.declared.planned.Planned.{Planned}
use Rattle.text.specs.Labels.{labels_of}
use Rattle.text.specs.Lists.{names_of}

-- the passes other than pass i, by their places in the list, that the plan ds follows and the plan es doesn't
abbrev pub others_in : (i : ℕ) → (ds es : Plan) → List ℕ
others_in i ds es = filter (λ k. not (k == i) && (follows ds k && not (follows es k))) (range_with_len 0 (length ds))

-- the labels of the passes at these places
abbrev pub labels_at : List (List ℕ) → (places : List ℕ) → List (List ℕ)
labels_at labels places = map (λ k. slice_index_or labels k []) places

-- what the passes of a planned night are called
abbrev pub called : Planned → List (List ℕ)
called p = labels_of (names_of p.night) (passes_of p.night.night)
