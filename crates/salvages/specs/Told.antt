-- The root whose tree's rest is told.
use Rattle.std.specs.Prelude.{ℕ, Bool, Option, Some, List, reverse, slice_get, if◌then◌else◌}
use Rattle.std.specs.Option.{is_some, option_map, option_and_then}
use Rattle.std.specs.List.{find}
use Rattle.fs_types.specs.declared.call.Version.{Version}
use Rattle.nodes.specs.Bodies.{Blocks}
use Rattle.nodes.specs.Chains.{link_of}
use Rattle.record_format.specs.declared.record.Record.{Record}

-- the first node of a directory is in the block
abbrev pub begins : Blocks → ℕ → Bool
begins f root = is_some (link_of (f root))

-- the newest version whose root is in such a block
abbrev pub newest_begun : Blocks → List (Version ℕ) → Option (Version ℕ)
newest_begun f versions = find (λ v. begins f v.root) (reverse versions)

-- the root of the present version where that is, else of the newest one
abbrev pub begun_or_newest : Blocks → List (Version ℕ) → Version ℕ → Option ℕ
begun_or_newest f versions present = if begins f present.root then Some present.root else option_map (λ v. v.root) (newest_begun f versions)

-- the root whose tree's rest is told
abbrev pub rest_root : Blocks → Record → Option ℕ
rest_root f r = option_and_then (begun_or_newest f r.versions) (slice_get r.versions r.cursor)
