-- What has a block of its own in a tree that calls made.
use Rattle.std.specs.Prelude.{◌≤◌, ℕ, Bool, true, not, ◌==◌, sum_by, if◌then◌else◌}
use Rattle.fs_types.specs.declared.call.Stat.{Stat}
use Rattle.plain_trees.specs.Trees.{Tree}
use Rattle.inquiries.specs.Items.{items_of}
use Rattle.inquiries.specs.declared.items.Item.{Item}
use Rattle.inquiries.specs.declared.tell_fault.TheConstants.{MAX_OWNERS}

-- a directory, and a file with bytes
abbrev pub owns_block : Stat → Bool
owns_block (Stat.Dir entries) = true
owns_block (Stat.File bytes) = not (bytes == 0)

abbrev pub stat_owners : Stat → ℕ
stat_owners stat = if owns_block stat then 1 else 0

abbrev pub item_owners : Item → ℕ
item_owners item = stat_owners item.stat

-- how many of what stands in a tree
abbrev pub owners_of : Tree → ℕ
owners_of t = sum_by item_owners (items_of t)

-- no more than a flash may have blocks
abbrev pub HasFewOwners : Tree → Type 0
HasFewOwners t = owners_of t ≤ MAX_OWNERS
