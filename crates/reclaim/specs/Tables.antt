-- What a verification keeps of the nodes that it read: which are of directories, the block of the node after each of these, which
-- of them name no directory, and which blocks are named as directories.
use Rattle.std.specs.Prelude.{◌≡◌, ◌≢◌, ℕ, zero, suc, ◌<◌, ◌==◌, ◌&&◌, nat_lt, not, is_some, Bool, true, Option, Some, List, length, slice_index, Contains, if◌then◌else◌}
use Rattle.std.specs.Option.{option_map}
use Rattle.std.specs.FinSet as set
use Rattle.node_format.specs.Items.{Item}
use Rattle.node_format.specs.declared.place.Place.TheVariants.{Dir}
use Rattle.nodes.specs.Bodies.{Blocks}
use Rattle.nodes.specs.Chains.{link_items, next_of, most_after}
use Rattle.reclaim.specs.Sound.{HoldsLink}
use Rattle.reclaim.specs.Passes.{Pass, AreNoted}
use Rattle.reclaim.specs.declared.looks.Parts.{Parts}
use Rattle.reclaim.specs.declared.table.Table.{Table}

-- the table is of so many blocks
pub record IsSized (blocks : ℕ) (t : Table) : Type 0 where
  pub words : length t.words ≡ blocks
  pub links : t.links.blocks ≡ blocks
  pub named : t.named.blocks ≡ blocks
  pub quiet : t.quiet.blocks ≡ blocks
  pub read : t.read.blocks ≡ blocks

-- a block is known to hold a node of a directory
abbrev pub has_link : Table → ℕ → Bool
has_link t b = nat_lt b t.links.blocks && set.contains t.links.members b

-- nodes of directories follow one another from a block on, at most so many, to the last one; 0 names none
abbrev pub ends_from : ℕ → (ℕ → Bool) → (ℕ → ℕ) → ℕ → Bool
ends_from zero has next b = b == 0
ends_from (suc n) has next b = if b == 0 then true else has b && ends_from n has next (next b)

-- the node in a block was taken in, which has these parts and names these directories; other nodes of directories keep their words
pub record TakesIn (old : Table) (block : ℕ) (parts : Parts) (directories : List ℕ) (new : Table) : Type 0 where
  pub sized : IsSized old.links.blocks new
  pub links : new.links.members ≡ (if is_some parts.edge then set.insert old.links.members block else old.links.members)
  pub named : AreNoted old.named.members directories old.links.blocks new.named.members
  pub quiet : new.quiet.members ≡ (if is_some parts.edge && (length directories == 0) then set.insert old.quiet.members block else old.quiet.members)
  pub next : (n : ℕ) → option_map (λ e. e.next) parts.edge ≡ Some n → slice_index new.words block ≡ n
  pub stay : (b : ℕ) → b ≢ block → set.contains old.links.members b ≡ true → slice_index new.words b ≡ slice_index old.words b

-- by a table, after a node of a directory
abbrev pub ends_after : Table → ℕ → Bool
ends_after t b = ends_from most_after (has_link t) (slice_index t.words) (slice_index t.words b)

-- a directory begins in a block, or none is named
abbrev pub is_whole_at : Table → ℕ → Bool
is_whole_at t b = if has_link t b then ends_after t b else not (set.contains t.named.members b)

-- a node names a block as a directory
abbrev pub NamesDirectory : Option (List ℕ) → ℕ → Type 0
NamesDirectory node b = (item : Item) × Contains (link_items node) item × (item.place ≡ Dir b)

-- a pass has read a block
abbrev pub HasSeen : Pass → ℕ → Type 0
HasSeen p b = (k : ℕ) × (k < p.next) × (slice_index p.order k ≡ b)

-- the table tells of the nodes that a pass has read
pub record IsTold (f : Blocks) (p : Pass) (t : Table) : Type 0 where
  pub sized : IsSized p.blocks t
  pub held : (b : ℕ) → set.contains t.links.members b ≡ true → HoldsLink f b × (slice_index t.words b ≡ next_of (f b)) × HasSeen p b
  pub links : (b : ℕ) → HasSeen p b → HoldsLink f b → has_link t b ≡ true
  pub names : (b : ℕ) → set.contains t.named.members b ≡ true → (a : ℕ) × HasSeen p a × NamesDirectory (f a) b
  pub named : (a b : ℕ) → HasSeen p a → NamesDirectory (f a) b → b < p.blocks → set.contains t.named.members b ≡ true
  pub quiet : (b : ℕ) → set.contains t.quiet.members b ≡ true → (b < p.blocks) × (set.contains t.links.members b ≡ true) × ((c : ℕ) → NamesDirectory (f b) c → ⊥)
  pub silent : (b : ℕ) → HasSeen p b → HoldsLink f b → ((c : ℕ) → NamesDirectory (f b) c → ⊥) → set.contains t.quiet.members b ≡ true
