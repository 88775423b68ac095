-- What the newest record of a flash holds.
use Rattle.std.specs.Prelude.{◌≡◌, Option, Some, None, Result, Ok}
use Rattle.std.specs.Option.{option_map}
use Rattle.history_machine.specs.History.{Past}
use Rattle.plain_trees.specs.Trees.{Tree}
use Rattle.fs_types.specs.declared.fault.Fault.{Fault}
use Rattle.flash_model.specs.Device.{Device}
use Rattle.record_format.specs.declared.record.Record.{Record}
use Rattle.anchors.specs.Newest.{committed_on}
use Rattle.mounting.specs.Records.{trees_of, HasTrees}

abbrev pub record_in : Option (Result Record Fault) → Option Record
record_in (Some (Ok r)) = Some r
record_in _ = None

-- the newest record; none where no record is the newest, or where the payload of the newest is damaged
abbrev pub saved_on : Device → Option Record
saved_on d = record_in (committed_on d)

-- the history that it holds, with the tree that the flash has of each root
abbrev pub saved_trees : Device → Option (Past Tree)
saved_trees d = option_map (trees_of d) (saved_on d)

-- each version and checkpoint that it holds has a tree of linked bodies
abbrev pub IsWholeRecord : Device → Type 0
IsWholeRecord d = (r : Record) → saved_on d ≡ Some r → HasTrees d r
