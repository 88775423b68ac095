-- What stands in a directory, to be copied out of a tree.
use Rattle.std.specs.Prelude.{◌≤◌}
use Rattle.plain_trees.specs.Trees.{Tree}
use Rattle.tree_counts.specs.Sizes.{entries_of, lengths_of}
use Rattle.flash_model.specs.declared.flash.Flash.{Ghosts}
use Rattle.undofs.specs.declared.fs.Fs.{Fs}
use Rattle.inquiries.specs.Owners.{HasFewOwners}
use Rattle.inquiries.specs.PathBytes.{HasShortPaths}
use Rattle.inquiries.specs.Readings.{Meets}
use Rattle.inquiries.specs.declared.tell_fault.TellFault.{TellFault}
use Rattle.inquiries.specs.declared.tell_fault.TheConstants.{MAX_LINES}
use Rattle.inquiries.specs.declared.folders.TheConstants.{MAX_TREE_BYTES}

-- a tree has no more directories and files, no more bytes in these, no more in their paths, and no more that own a block, than are
-- read of it
pub record IsSmall (t : Tree) : Type 0 where
  pub entries : entries_of t ≤ MAX_LINES
  pub bytes : lengths_of t ≤ MAX_TREE_BYTES
  pub paths : HasShortPaths t
  pub owners : HasFewOwners t

module _ {F : Type 0} {flash : Ghosts F} where
  -- why what stands in a directory is not listed: by what the work met, or since the tree has too much
  abbrev pub Unlisted : Tree → Fs F flash → Fs F flash → TellFault → Type 0
  Unlisted t old new (TellFault.Refused fault) = Meets (flash.device old.flash.now) (flash.device new.flash.now) fault
  Unlisted t old new TellFault.TooManyLines = IsSmall t → ⊥
