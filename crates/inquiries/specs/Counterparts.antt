-- What stands in another tree in the place of what stands in one.
use Rattle.std.specs.Prelude.{Bool, true, false, Option, Some}
use Rattle.std.specs.FinMap.{get}
use Rattle.std.specs.Option.{option_map}
use Rattle.fs_types.specs.Names.{Path}
use Rattle.fs_types.specs.declared.call.Stat.{Stat}
use Rattle.fs_types.specs.declared.fault.Fault.{Fault}
use Rattle.fs_types.specs.declared.fault.Fault.TheVariants.{NoEntry, NotDirectory}
use Rattle.plain_trees.specs.Contents.{Entry}
use Rattle.plain_trees.specs.Trees.{Tree}
use Rattle.history_machine.specs.Machine.{stat_of}
use Rattle.inquiries.specs.declared.counterpart.Counterpart.{Counterpart}

-- what stands at a path, if anything does
abbrev pub stat_there : Tree → Path → Option Stat
stat_there t path = option_map (λ (entry : Entry). stat_of t path (Some entry)) (get t path)

-- a look-up that is refused so tells that nothing stands there
abbrev pub is_missing : Fault → Bool
is_missing NoEntry = true
is_missing NotDirectory = true
is_missing _ = false

-- what is of the same kind
abbrev pub counterpart_of : Stat → Option Stat → Counterpart
counterpart_of (Stat.Dir entries) (Some (Stat.Dir others)) = Counterpart.Directory
counterpart_of (Stat.File bytes) (Some (Stat.File others)) = Counterpart.File
counterpart_of _ _ = Counterpart.Missing
