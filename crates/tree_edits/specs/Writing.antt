-- Bodies written anew from a node on, where the nodes before it are shared.
use Rattle.std.specs.Prelude.{◌≡◌, ◌⊎◌, ℕ, zero, suc, ◌+◌, ◌-◌, ◌*◌, ◌/◌, ◌%◌, ◌^◌, ◌<◌, ◌≤◌, min, Bool, false, ◌&&◌, nat_le, nat_lt, if◌then◌else◌, slice_index, Option, Some, List, [], ◌∷◌, ◌++◌, length, take}
use Rattle.fs_types.specs.declared.fault.Fault.{Fault}
use Rattle.fs_types.specs.declared.fault.Fault.TheVariants.{FlashFull, ReadOnly, ReadFailed, PowerCut, NoMemory}
use Rattle.fs_types.specs.declared.limits.TheConstants.{MAX_FILE_BYTES}
use Rattle.plain_trees.specs.Contents.{resized, overwritten, read_from}
use Rattle.node_format.specs.declared.place.Place.TheVariants.{File}
use Rattle.nodes.specs.Bodies as bodies
use Rattle.nodes.specs.Bodies.{Blocks, back, head_index, IsChain, IsLinked, IsBody}
use Rattle.nodes.specs.Reached.{Reached, IsHeld, PlaceNames}
use Rattle.tree_edits.specs.declared.file_body.Body.{Body}
use Rattle.tree_edits.specs.declared.change.Change.{Change}
use Rattle.tree_edits.specs.declared.body_start.Start.{Start}
use Rattle.tree_edits.specs.Reading.{AreBlocks, HoldsBody, nodes_between}
use Rattle.node_format.specs.BodyNodes.{HasSlot, IsBodySpelling}

-- a body of so many bytes is whole, and all that it reaches is kept
pub record IsStored (capacity : ℕ) (f : Blocks) (kept : ℕ → Bool) (head size : ℕ) : Type 0 where
  pub whole : IsBody capacity f head size
  pub held : IsHeld f kept (File head size)

-- so many bytes from an offset on, at least one, end within the longest file
pub record IsFileRange (offset count : ℕ) : Type 0 where
  pub some : 0 < count
  pub fits : offset + count ≤ MAX_FILE_BYTES

-- a body has these bytes, and all that it reaches is kept
pub record IsWritten (capacity : ℕ) (f : Blocks) (kept : ℕ → Bool) (body : Body) (bytes : List ℕ) : Type 0 where
  pub whole : IsBody capacity f body.head body.length
  pub shown : bodies.body capacity f body.head body.length ≡ bytes
  pub held : IsHeld f kept (File body.head body.length)
  pub counted : body.length ≡ length bytes

-- a block holds the body node of an index as it is spelled: these bytes, and 0 in its zero field and in
-- each slot that the index does not have
pub record HoldsIndex (node : Option (List ℕ)) (index : ℕ) (bytes : List ℕ) : Type 0 where
  pub spelling : List ℕ
  pub pointers : List ℕ
  pub holds : node ≡ Some spelling
  pub spelled : IsBodySpelling spelling index pointers bytes

-- a block holds a node of a body with these bytes: as many of them as a node has room for, or as are left
abbrev pub HoldsPart : ℕ → List ℕ → Option (List ℕ) → Type 0
HoldsPart capacity bytes node = (index : ℕ) × HoldsIndex node index (read_from bytes (index * capacity) capacity)

-- each block that the new body reaches was reached by the old one, or was not kept before and holds a
-- node of the new one
abbrev pub BodyOnlyReaches : ℕ → Blocks → Blocks → (ℕ → Bool) → Body → Body → Type 0
BodyOnlyReaches capacity old new kept from to =
    (root block : ℕ) → PlaceNames (File to.head to.length) root → Reached new (root ∷ []) block
    → ((first : ℕ) × PlaceNames (File from.head from.length) first × Reached old (first ∷ []) block)
    ⊎ ((kept block ≡ false) × HoldsPart capacity (bodies.body capacity new to.head to.length) (new block))

-- the refusals of a change of a body: what reads and writes are refused with, but Damaged
abbrev pub IsWritingFault : Fault → Type 0
IsWritingFault FlashFull = Unit {0}
IsWritingFault ReadOnly = Unit {0}
IsWritingFault ReadFailed = Unit {0}
IsWritingFault PowerCut = Unit {0}
IsWritingFault NoMemory = Unit {0}
IsWritingFault _ = ⊥

-- the bytes with others from `offset` on, and zeros where they end before so many
abbrev pub edited : List ℕ → ℕ → List ℕ → ℕ → List ℕ
edited old offset bytes size = resized (overwritten old offset bytes) size

-- the bytes that a change makes of a body
abbrev pub bytes_after : Blocks → Change → List ℕ → List ℕ
bytes_after f change bytes = edited (bodies.body change.capacity f change.body.head change.body.length) change.offset bytes change.size

-- how many of them the node of an index has, and which
abbrev pub part_length : Change → ℕ → ℕ
part_length change index = min change.capacity (change.size - index * change.capacity)

abbrev pub part_after : Blocks → Change → List ℕ → ℕ → List ℕ
part_after f change bytes index = read_from (bytes_after f change bytes) (index * change.capacity) (part_length change index)

-- no byte of an old body of this length, from one place to another, stays in an edit from `offset` to `end`
abbrev pub KeepsNone : ℕ → ℕ → ℕ → ℕ → ℕ → Type 0
KeepsNone size offset end from to = (size ≤ from) ⊎ ((offset ≤ from) × (min to size ≤ end))

-- the old body of a change, with the blocks of its last nodes
pub record HoldsOld (limit : ℕ) (f : Blocks) (change : Change) (blocks : List ℕ) : Type 0 where
  pub holds : HoldsBody limit f change.capacity change.body
  pub listed : AreBlocks f change.body.head blocks

-- a change of it, whose bytes end within the longest file
pub record IsChangeOf (limit : ℕ) (f : Blocks) (change : Change) (blocks : List ℕ) (end : ℕ) : Type 0 where
  pub old : HoldsOld limit f change blocks
  pub fits : end ≤ MAX_FILE_BYTES

-- the reads of the old node of an index, of which a change whose bytes end at `end` keeps some of the first bytes: none where it
-- keeps none, and one where the block is listed
pub record ReadsKept (change : Change) (end index count listed before now : ℕ) : Type 0 where
  pub unread : KeepsNone change.body.length change.offset end (index * change.capacity) (index * change.capacity + count) → now ≡ before
  pub one : head_index change.capacity change.body.length - index < listed → now ≤ before + 1

-- the byte at a place after an edit, where the old bytes are given from `start` on
abbrev pub byte_after : List ℕ → ℕ → ℕ → List ℕ → ℕ → ℕ
byte_after old start offset bytes place = if nat_le offset place && nat_lt place (offset + length bytes) then slice_index bytes (place - offset) else slice_index old (place - start)

-- the block that slot x of the node after a head names: the node 2 to the x before it
abbrev pub slot_before : Blocks → ℕ → ℕ → ℕ
slot_before f head x = back f head (2 ^ x - 1)

-- the nodes before an index, of which the last is the head, are linked
abbrev pub AreLinked : ℕ → Blocks → ℕ → ℕ → Type 0
AreLinked capacity f head zero = Unit {0}
AreLinked capacity f head (suc i) = IsChain capacity f i head × IsLinked f i head

-- a table for the nodes from the one after a head, of this index, to the last: slot x is the block of
-- the greatest index below it that 2 to the x divides, for each slot that one of those nodes has
abbrev pub IsTable : Blocks → ℕ → ℕ → ℕ → List ℕ → Type 0
IsTable f head index last table =
    (x k : ℕ) → 0 < index → index ≤ k → k ≤ last → HasSlot k x → slice_index table x ≡ back f head ((index - 1) % 2 ^ x)

-- the front of a body: its first bytes, in the nodes that hold them
pub record IsBodyFront (capacity : ℕ) (f : Blocks) (head size front part : ℕ) : Type 0 where
  pub whole : IsBody capacity f front part
  pub shown : bodies.body capacity f front part ≡ take part (bodies.body capacity f head size)
  pub reached : 0 < part → (b : ℕ) → Reached f (front ∷ []) b → Reached f (head ∷ []) b

-- one node more, which holds these bytes: the body of full nodes goes on by them, and reaches that node
-- and what it reached
pub record IsGrown (capacity : ℕ) (old new : Blocks) (kept kept' : ℕ → Bool) (head i next : ℕ) (bytes : List ℕ) : Type 0 where
  pub whole : IsBody capacity new next (i * capacity + length bytes)
  pub shown : bodies.body capacity new next (i * capacity + length bytes) ≡ bodies.body capacity old head (i * capacity) ++ bytes
  pub held : IsHeld new kept' (File next (i * capacity + length bytes))
  pub fresh : kept next ≡ false
  pub node : HoldsIndex (new next) i bytes
  pub reached : (b : ℕ) → Reached new (next ∷ []) b → (next ≡ b) ⊎ ((0 < i) × Reached old (head ∷ []) b)

-- the nodes before an index are a held body, and the table is that for the nodes from there to the last
pub record IsWrittenTo (capacity : ℕ) (f : Blocks) (kept : ℕ → Bool) (head index last : ℕ) (blocks : List ℕ) : Type 0 where
  pub stored : IsStored capacity f kept head (index * capacity)
  pub table : IsTable f head index last blocks

-- what the nodes of a change whose bytes end at `end` are written after
pub record BeginsChange (f : Blocks) (change : Change) (end : ℕ) (start : Start) : Type 0 where
  pub first : start.first ≡ min change.offset change.body.length / change.capacity
  pub front : IsBodyFront change.capacity f change.body.head change.body.length start.head (start.first * change.capacity)
  pub table : IsTable f start.head start.first (head_index change.capacity change.size) start.table.blocks
  pub listed : AreBlocks f change.body.head start.old.items
  pub count : length start.old.items ≡ nodes_between change.capacity end change.body.length
