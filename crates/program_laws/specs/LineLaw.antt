-- The law of lines: what is told of one thing is one line.
use Rattle.std.specs.Prelude.{◌≡◌, ◌++◌, ℕ, Bool, List, codes}
use Rattle.fs_types.specs.Names.{Name, Path}
use Rattle.fs_types.specs.declared.call.View.{View}
use Rattle.history_machine.specs.Machine.{Machine}
use Rattle.plain_trees.specs.Trees.{Tree}
use Rattle.script.specs.Streams.{IsWithoutLf}
use Rattle.inquiries.specs.PathHistories.{state_line}
use Rattle.inquiries.specs.Printed.{item_line}
use Rattle.inquiries.specs.Versions.{checkpoint_line}
use Rattle.inquiries.specs.declared.items.Item.{Item}
use Rattle.program_laws.specs.DifferenceLaw.{Sign, sign_line}
use Rattle.program_laws.specs.VersionsLaw.{ToldVersion, told_line}

-- bytes without LF, and one at their end
pub record IsLine (text : List ℕ) : Type 0 where
  pub bytes : List ℕ
  pub is : text ≡ bytes ++ codes "\n"
  pub without : IsWithoutLf bytes

-- what is told of an item, of a path at which two trees differ, of a version, of a checkpoint, and of what stands at a path of a view
-- is one line, whatever their names
pub record LineLaw : Type 0 where
  pub items : (item : Item) → IsLine (item_line item)
  pub differences : (old new : Tree) (sign : Sign) (path : Path) → IsLine (sign_line old new (sign, path))
  pub versions : (m : Machine) (told : ToldVersion) → IsLine (told_line m told)
  pub states : (m : Machine) (path : Path) (is_present : Bool) (view : View) → IsLine (state_line m path is_present view)
  pub checkpoints : (m : Machine) (checkpoint : Name × ℕ) → IsLine (checkpoint_line m checkpoint)
