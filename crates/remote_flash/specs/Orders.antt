-- How an order is spelled.
use Rattle.std.specs.Prelude.{◌≡◌, ◌⊎◌, ℕ, ◌<◌, List, [], ◌∷◌, ◌++◌, length}
use Rattle.byteorder.specs.Endian.{little_bytes}
use Rattle.flash_model.specs.declared.geometry.Geometry.{Geometry}
use Rattle.flash_model.specs.Geometry.{page_count}

-- a byte that says what is to be done, the number of the page or block in four bytes, the lowest first, and the bytes of a page
abbrev pub order_of : ℕ → ℕ → List ℕ → List ℕ
order_of kind number bytes = (kind ∷ []) ++ (little_bytes 4 number ++ bytes)

-- `p`: program a page
abbrev pub program_order : ℕ → List ℕ → List ℕ
program_order page bytes = order_of 112 page bytes

-- `e`: erase a block
abbrev pub erase_order : ℕ → List ℕ
erase_order block = order_of 101 block []

-- an order to program a whole page of a flash, or to erase a block of it
abbrev pub IsOrder : Geometry → List ℕ → Type 0
IsOrder g order =
    ((page : ℕ) × (bytes : List ℕ) × (page < page_count g) × (length bytes ≡ g.page) × (order ≡ program_order page bytes))
    ⊎ ((block : ℕ) × (block < g.blocks) × (order ≡ erase_order block))
