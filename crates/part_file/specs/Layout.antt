-- Where a part stands in a flat file, and the steps of each operation.
use Rattle.std.specs.Prelude.{◌≡◌, ℕ, ◌+◌, ◌-◌, ◌*◌, ◌/◌, Bool, nat_lt, List, [], ◌∷◌, ◌++◌, take, replicate, codes, if◌then◌else◌}
use Rattle.byteorder.specs.Endian.{little_from, little_bytes}
use Rattle.flash_model.specs.declared.geometry.Geometry.{Geometry}
use Rattle.flash_model.specs.Geometry.{IsGeometry, page_count}
use Rattle.host_interface.specs.Steps.{Step, writes, barrier}

-- the sizes in the first twenty bytes, after the magic, in four bytes each
abbrev pub sizes_in : List ℕ → Geometry
sizes_in head = record { page = little_from 8 4 head; pages = little_from 12 4 head; blocks = little_from 16 4 head }

-- the first twenty bytes of a part with these sizes, which are lawful
pub record IsHead (head : List ℕ) (sizes : Geometry) : Type 0 where
  pub magic : take 8 head ≡ codes "UFFSPART"
  pub told : sizes ≡ sizes_in head
  pub lawful : IsGeometry sizes

-- the byte of a page's state, after the 4,096 of the head
abbrev pub state_place : ℕ → ℕ
state_place p = 4096 + p

-- the first byte of a page: the states are filled up to a multiple of 4,096
abbrev pub data_place : Geometry → ℕ → ℕ
data_place g p = 4096 + (page_count g + 4095) / 4096 * 4096 + p * g.page

-- how many bytes a part has
abbrev pub part_length : Geometry → ℕ
part_length g = data_place g (page_count g)

-- the head: the magic, and the sizes in four bytes each
abbrev pub head_text : Geometry → List ℕ
head_text g = codes "UFFSPART" ++ (little_bytes 4 g.page ++ (little_bytes 4 g.pages ++ little_bytes 4 g.blocks))

-- a part of which each page is erased
abbrev pub blank_part : Geometry → List ℕ
blank_part g = head_text g ++ replicate (part_length g - 20) 0

-- a block in which records stand
abbrev pub is_anchor : ℕ → Bool
is_anchor block = nat_lt block 8

-- a barrier on an anchor
abbrev pub barrier_at : ℕ → List Step
barrier_at block = if is_anchor block then barrier ∷ [] else []

-- a program: the bytes, and then the state 1; on an anchor a barrier after each
abbrev pub program_steps : Geometry → ℕ → List ℕ → List Step
program_steps g p bytes =
    (writes (data_place g p) bytes ∷ []) ++ (barrier_at (p / g.pages) ++ ((writes (state_place p) (1 ∷ []) ∷ []) ++ barrier_at (p / g.pages)))

-- an erase: the states 0 of the block's pages; on an anchor a barrier before and after
abbrev pub erase_steps : Geometry → ℕ → List Step
erase_steps g b = barrier_at b ++ ((writes (state_place (b * g.pages)) (replicate g.pages 0) ∷ []) ++ barrier_at b)
