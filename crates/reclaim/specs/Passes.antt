-- A marking of the blocks that roots reach, in steps.
use Rattle.std.specs.Prelude.{◌≡◌, ◌≢◌, ◌⊎◌, ◌↔◌, ℕ, ◌+◌, ◌<◌, ◌≤◌, ◌++◌, ◌-◌, ◌^◌, Bool, true, false, None, Result, Ok, IsErrOf, List, length, slice_index, Contains, refl}
use Rattle.std.specs.Coded.{Coded, code_by, coded×, coded_ℕ, coded_list}
use Rattle.std.specs.FinSet as set
use Rattle.std.specs.Ordering.{nat_cmp}
use Rattle.fs_types.specs.declared.fault.Fault.{Fault}
use Rattle.fs_types.specs.declared.fault.Fault.TheVariants.{NoMemory, Damaged}
use Rattle.block_ring.specs.BlockSet.{BlockSet}
use Rattle.block_ring.specs.Ring.{IsDataBlock}
use Rattle.nodes.specs.Bodies.{Blocks}
use Rattle.nodes.specs.Reached.{Reached, Names, Agrees}

-- how many blocks the flash has, the roots, the marked blocks in order of marking, how many of these were read: the first
-- ones, and the blocks that were noted as those of bodies
pub record Pass : Type 0 where
  pub blocks : ℕ
  pub roots : List ℕ
  pub order : List ℕ
  pub next : ℕ
  pub bodies : set.FinSet nat_cmp

-- it is stored as the tuple of its fields
abbrev pub pass_code : Coded Pass
pass_code =
    code_by ((ℕ × List ℕ) × (List ℕ × (ℕ × set.FinSet nat_cmp))) (coded× (coded× coded_ℕ (coded_list coded_ℕ)) (coded× (coded_list coded_ℕ) (coded× coded_ℕ (set.code coded_ℕ))))
    (λ p. ((p.blocks, p.roots), (p.order, (p.next, p.bodies)))) (λ p. record { blocks = p.0.0; roots = p.0.1; order = p.1.0; next = p.1.1.0; bodies = p.1.1.1 }) (λ _. refl)

-- the set of marks has the blocks of the list, of which so many were read
pub record IsOrder (marks : BlockSet) (order : List ℕ) (next : ℕ) : Type 0 where
  pub members : marks.members ≡ set.from_list order
  pub within : next ≤ length order

-- no block is in the list twice
abbrev pub AreDistinct : List ℕ → Type 0
AreDistinct order = (i j : ℕ) → i < j → j < length order → slice_index order i ≢ slice_index order j

-- the second list begins with the first
abbrev pub Begins : List ℕ → List ℕ → Type 0
Begins old new = (rest : List ℕ) × (old ++ rest ≡ new)

-- a marking went on from another: it is of the same flash and roots, and what was marked before is marked, in the same order
pub record Advances (from to : Pass) : Type 0 where
  pub blocks : to.blocks ≡ from.blocks
  pub roots : to.roots ≡ from.roots
  pub begins : Begins from.order to.order

-- names were added to a list of blocks, each where it was not there
pub record IsMarked (old names new : List ℕ) : Type 0 where
  pub begins : Begins old new
  pub each : (b : ℕ) → Contains names b → Contains new b
  pub only : (b : ℕ) → Contains new b → Contains old b ⊎ Contains names b
  pub distinct : AreDistinct old → AreDistinct new

-- a pass over these nodes: the roots are marked, and what the blocks read so far name, which hold nodes; all that is marked
-- is reached, and none is marked twice
pub record IsPass (f : Blocks) (p : Pass) : Type 0 where
  pub rooted : (b : ℕ) → Contains p.roots b → Contains p.order b
  pub reached : (b : ℕ) → Contains p.order b → Reached f p.roots b
  pub named : (k b : ℕ) → k < p.next → Names (f (slice_index p.order k)) b → Contains p.order b
  pub whole : (k : ℕ) → k < p.next → f (slice_index p.order k) ≢ None
  pub distinct : AreDistinct p.order
  pub within : p.next ≤ length p.order

-- blocks that the roots reach, none twice
pub record AreReached (f : Blocks) (roots blocks : List ℕ) : Type 0 where
  pub distinct : AreDistinct blocks
  pub reached : (b : ℕ) → Contains blocks b → Reached f roots b

-- as a pass went on, so many reads came: each was of another block that the roots reach
pub record HasRead (f : Blocks) (p : Pass) (before after : ℕ) : Type 0 where
  pub seen : List ℕ
  pub begins : Begins p.order seen
  pub are : AreReached f p.roots seen
  pub most : after + p.next ≤ before + length seen

-- a block that the roots reach holds no node
abbrev pub LacksNode : Blocks → List ℕ → Type 0
LacksNode f roots = (b : ℕ) × Reached f roots b × (f b ≡ None)

-- no marked block is left to be read
abbrev pub IsFinished : Pass → Type 0
IsFinished p = p.next ≡ length p.order

-- as a pass went on, each read was of another block that the roots reach, and Damaged is answered only where one of these has no node
pub record HasReached {T : Type 0} (f : Blocks) (p : Pass) (result : Result T Fault) (before after : ℕ) : Type 0 where
  pub seen : HasRead f p before after
  pub damaged : IsErrOf result Damaged → LacksNode f p.roots

-- marking was refused: for memory, or for a name that is no data block
abbrev pub IsMarkFault : ℕ → List ℕ → Fault → Type 0
IsMarkFault blocks names fault = (fault ≡ NoMemory) ⊎ ((fault ≡ Damaged) × ((b : ℕ) × Contains names b × (IsDataBlock blocks b → ⊥)))

-- what the roots reach keeps its nodes: the pass is one over the later nodes too
abbrev pub PassStays : Type 0
PassStays = (old new : Blocks) (p : Pass) → Agrees p.roots old new → IsPass old p → IsPass new p

-- a finished pass has marked exactly what the roots reach
abbrev pub PassMarks : Type 0
PassMarks = (f : Blocks) (p : Pass) → IsPass f p → IsFinished p → (b : ℕ) → Contains p.order b ↔ Reached f p.roots b

-- how a step of so many reads ends: with that many, or with none left. The greatest budget is for all
pub record HasStepped (budget : ℕ) (old new : Pass) (result : Result Bool Fault) : Type 0 where
  pub more : result ≡ Ok false → (new.next ≡ old.next + budget) × (new.next < length new.order)
  pub done : result ≡ Ok true → (new.next ≤ old.next + budget) × IsFinished new
  pub all : result ≡ Ok false → budget < 2 ^ 64 - 1

-- names were noted as blocks of bodies, those that the flash has
pub record AreNoted (old : set.FinSet nat_cmp) (names : List ℕ) (blocks : ℕ) (new : set.FinSet nat_cmp) : Type 0 where
  pub stay : (b : ℕ) → set.contains old b ≡ true → set.contains new b ≡ true
  pub only : (b : ℕ) → set.contains new b ≡ true → (set.contains old b ≡ true) ⊎ Contains names b
  pub all : (b : ℕ) → Contains names b → b < blocks → set.contains new b ≡ true
