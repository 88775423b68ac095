-- Blocks that hold nodes of bodies, and those of directories.
use Rattle.std.specs.Prelude.{◌≡◌, ◌⊎◌, ℕ, ◌<◌, Bool, true, false, ◌+◌, ◌≤◌, Option, Some, None, List, length, take, Contains}
use Rattle.std.specs.List.{sum_by}
use Rattle.std.specs.Option.{is_some}
use Rattle.std.specs.FinSet as set
use Rattle.node_format.specs.Items.{Item}
use Rattle.node_format.specs.declared.place.Place.{Place}
use Rattle.node_format.specs.declared.place.Place.TheVariants.{Dir, File}
use Rattle.nodes.specs.PageCounts.{pages_for}
use Rattle.nodes.specs.Bodies.{Blocks, index_of, pointer_of}
use Rattle.nodes.specs.Chains.{link_items}
use Rattle.nodes.specs.Reached.{BodyNames}
use Rattle.reclaim.specs.Passes.{Pass, IsPass}
use Rattle.reclaim.specs.Verified.{AreRoots}

-- the block holds a node of a body
abbrev pub HoldsBodyNode : Blocks → ℕ → Type 0
HoldsBodyNode f block = (index : ℕ) × (index_of (f block) ≡ Some index)

-- a place names the head of a file that is not empty
abbrev pub FileNames : Place → ℕ → Type 0
FileNames (Dir block) next = ⊥
FileNames (File head size) next = (0 < size) × (head ≡ next)

-- the node in a block names a block as that of a body: by an entry of a file, or by a slot
abbrev pub NamesBody : Option (List ℕ) → ℕ → Type 0
NamesBody node next = ((item : Item) × Contains (link_items node) item × FileNames item.place next) ⊎ BodyNames (index_of node) (pointer_of node) next

-- a marking noted as those of bodies the marked blocks that hold their nodes, and no others
pub record KnowsBodies (f : Blocks) (p : Pass) : Type 0 where
  pub marked : (b : ℕ) → set.contains p.bodies b ≡ true → Contains p.order b
  pub bodies : (b : ℕ) → set.contains p.bodies b ≡ true → HoldsBodyNode f b
  pub others : (b : ℕ) → Contains p.order b → set.contains p.bodies b ≡ false → index_of (f b) ≡ None

-- a marking of roots that have trees, on blocks of so many bytes
pub record IsKnownMarking (limit : ℕ) (f : Blocks) (p : Pass) : Type 0 where
  pub trees : AreRoots limit f p.roots
  pub pass : IsPass f p
  pub kinds : KnowsBodies f p

-- this is said of a marking as a proposition
abbrev pub Knows : ℕ → Blocks → Pass → Type 0
Knows limit f p = (IsKnownMarking limit f p → ⊥) → ⊥

-- how many pages are asked at most for a node: one where the first page alone is read
abbrev pub read_pages : Bool → ℕ → Option (List ℕ) → ℕ
read_pages by_front page None = 0
read_pages true page (Some bytes) = 1
read_pages false page (Some bytes) = pages_for page (length bytes)

-- how many pages a marking asks at most for a node: one for each of a body
abbrev pub mark_pages : ℕ → Option (List ℕ) → ℕ
mark_pages page node = read_pages (is_some (index_of node)) page node

-- as a marking went on, the pages of the blocks that were read were asked at most
abbrev pub HasAsked : ℕ → Blocks → Pass → Pass → ℕ → ℕ → Type 0
HasAsked page f old new before after =
    after + sum_by (λ b. mark_pages page (f b)) (take old.next old.order) ≤ before + sum_by (λ b. mark_pages page (f b)) (take new.next new.order)
