-- Roots that have trees, and what it costs to find out.
use Rattle.std.specs.Prelude.{◌≡◌, ℕ, ◌+◌, ◌-◌, ◌*◌, ◌≤◌, Bool, true, Option, List, All, Contains, if◌then◌else◌}
use Rattle.std.specs.Option.{option_map_or}
use Rattle.std.specs.List.{sum_by, list_any}
use Rattle.node_format.specs.Items.{Item, is_dir_place}
use Rattle.nodes.specs.Bodies.{Blocks}
use Rattle.nodes.specs.Chains.{link_of}
use Rattle.nodes.specs.Trees.{IsRoot}
use Rattle.reclaim.specs.Looks.{look_reads, NextHoldsLink, IsLooked}
use Rattle.reclaim.specs.Passes.{Pass, AreReached}
use Rattle.nodes.specs.Reached.{Reached}
use Rattle.reclaim.specs.Sound.{HoldsLink, IsSoundNode, IsPlain}
use Rattle.reclaim.specs.Tables.{HasSeen}
use Rattle.node_format.specs.Headers.{body_header}
use Rattle.nodes.specs.PageCounts.{most_pages, pages_for}

-- each root has a tree with linked bodies, on blocks of so many bytes
abbrev pub AreRoots : ℕ → Blocks → List ℕ → Type 0
AreRoots limit f roots = (root : ℕ) → Contains roots root → IsRoot (limit - body_header) f root

-- whether entries name a directory
abbrev pub name_any_directory : List Item → Bool
name_any_directory items = list_any (λ item. is_dir_place item.place) items

-- the most reads of the walk of depths for a node, of a directory's alone: one at each level where it names a directory, and one at
-- the last level
abbrev pub depth_reads : Option (List ℕ) → ℕ
depth_reads node = option_map_or (λ l. (if name_any_directory l.items then 16 else 0) + 1) (link_of node) 0

-- a node is read once, and the first page of the node after it
abbrev pub once_reads : Option (List ℕ) → ℕ
once_reads node = 1 + look_reads node

-- beside those of the depths
abbrev pub all_reads : Option (List ℕ) → ℕ
all_reads node = once_reads node + depth_reads node

-- the most pages for a node: each of its own once, and that first page
abbrev pub once_pages : ℕ → ℕ → Option (List ℕ) → ℕ
once_pages page limit node = most_pages page limit node + look_reads node

-- beside those of a block for each read of the depths
abbrev pub all_pages : ℕ → ℕ → Option (List ℕ) → ℕ
all_pages page limit node = once_pages page limit node + depth_reads node * pages_for page limit

-- reads or pages of so many for each node came at most, of some blocks that the roots reach, none twice: a list that there is
-- whatever the flash holds, and that has all reached blocks at most
pub record HasCost (cost : Option (List ℕ) → ℕ) (f : Blocks) (roots : List ℕ) (before after : ℕ) : Type 0 where
  pub blocks : List ℕ
  pub are : AreReached f roots blocks
  pub most : after ≤ before + sum_by (λ b. cost (f b)) blocks

-- a look found each block that was read sound, where the one after it holds a node of a directory
abbrev pub AreLooked : ℕ → Blocks → Bool → Pass → Type 0
AreLooked capacity f plain p = (b : ℕ) → HasSeen p b → NextHoldsLink f (f b) → IsLooked capacity f plain (f b)

-- the roots have trees, without a chain where only plain directories are allowed
abbrev pub AreAllowed : ℕ → Blocks → List ℕ → Bool → Type 0
AreAllowed limit f roots plain = AreRoots limit f roots × (plain ≡ true → IsPlain f roots)

-- all that the roots reach is sound but for the depths, and the roots are directories; no chain is reached where only plain directories
-- are allowed
pub record AreWhole (limit : ℕ) (f : Blocks) (roots : List ℕ) (plain : Bool) : Type 0 where
  pub nodes : (b : ℕ) → Reached f roots b → IsSoundNode (limit - body_header) f b
  pub directories : All (HoldsLink f) roots
  pub alone : plain ≡ true → IsPlain f roots
