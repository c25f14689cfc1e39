-- The values of the code, without where they lie in memory. Assumes nothing: these are definitions.
use Rattle.std.specs.Prelude.{map, string_bytes}
use Rattle.text.specs.declared.draft.Draft.{Draft}
use Rattle.text.specs.declared.draft.Entry.{Entry}
use Rattle.text.specs.declared.line.Line.{Line}
use Rattle.text.specs.declared.line.Line.TheVariants.{Nothing, Station, Pass}
use Rattle.text.specs.Drafts as plain
use Rattle.text.specs.Lines.{Said}
use Rattle.text.specs.Lines.Said.{nothing, station, pass}

-- what a line says, without where its bytes lie
abbrev pub said_of : Line → Said
said_of Nothing = nothing
said_of (Station dishes turn step) = station dishes turn step
said_of (Pass p) = pass (record { name = p.name.now; numbers = p.numbers; directions = p.directions })

-- a pass and the line that says it, without where the name lies
abbrev pub entry_of : Entry → plain.Entry
entry_of e = record { pass = record { name = string_bytes e.name; numbers = e.numbers; directions = e.directions }; line = e.line }

-- a list as far as it is read, without where its names lie
abbrev pub view_of : Draft → plain.Draft
view_of d = record { station = d.station; entries = map entry_of d.entries.items }
