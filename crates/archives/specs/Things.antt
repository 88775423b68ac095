-- What the entries of an archive are put as, below a path.
use Rattle.std.specs.Prelude.{ℕ, ◌+◌, Bool, nat_le, List, ◌∷◌, ◌++◌, length, map}
use Rattle.fs_types.specs.Names.{Path}
use Rattle.fs_types.specs.declared.limits.TheConstants.{MAX_NAMES}
use Rattle.put_lots.specs.declared.thing.Thing.{Thing}
use Rattle.archives.specs.declared.archive_entry.ArchiveEntry.{ArchiveEntry}
use Rattle.archives.specs.declared.archive_entry.Contents.{Contents}

-- an entry has a place below a path: together they have no more names than a path may have
abbrev pub fits : Path → ArchiveEntry → Bool
fits base entry = nat_le (length base + length entry.path) MAX_NAMES

abbrev pub thing_at : Path → Contents → Thing
thing_at path Contents.Folder = Thing.Directory path
thing_at path (Contents.File bytes) = Thing.File path bytes

abbrev pub thing_below : Path → ArchiveEntry → Thing
thing_below base entry = thing_at (base ++ entry.path) entry.contents

-- the path is a directory, and each entry stands below it
abbrev pub things_below : Path → List ArchiveEntry → List Thing
things_below base entries = Thing.Directory base ∷ map (thing_below base) entries
