-- The blocks that a node names, as lists.
use Rattle.std.specs.Prelude.{ℕ, zero, suc, ◌%◌, ◌^◌, ◌&&◌, ◌==◌, nat_lt, Bool, Option, Some, None, List, [], ◌∷◌, ◌++◌, if◌then◌else◌}
use Rattle.node_format.specs.Items.{Item}
use Rattle.node_format.specs.declared.place.Place.{Place}
use Rattle.node_format.specs.declared.place.Place.TheVariants.{Dir, File}
use Rattle.node_format.specs.declared.headers.TheConstants.{SLOTS}

-- a directory's block, and the head of a file that is not empty
abbrev pub place_names : Place → List ℕ
place_names (Dir block) = block ∷ []
place_names (File head zero) = []
place_names (File head (suc n)) = head ∷ []

abbrev pub item_names : Item → List ℕ
item_names item = place_names item.place

-- the head of a file that is not empty alone
abbrev pub place_heads : Place → List ℕ
place_heads (Dir block) = []
place_heads (File head zero) = []
place_heads (File head (suc n)) = head ∷ []

abbrev pub item_heads : Item → List ℕ
item_heads item = place_heads item.place

-- a directory's block alone
abbrev pub place_directories : Place → List ℕ
place_directories (Dir block) = block ∷ []
place_directories (File head size) = []

abbrev pub item_directories : Item → List ℕ
item_directories item = place_directories item.place

-- the block of the node after a node of a directory; 0 names none
abbrev pub next_names : ℕ → List ℕ
next_names next = if next == 0 then [] else next ∷ []

-- whether the node of an index has a pointer at slot x, of those that nodes have
abbrev pub has_slot : ℕ → ℕ → Bool
has_slot index x = nat_lt 0 index && (index % 2 ^ x == 0)

-- the blocks of the pointers of an index at its first slots, so many
unfoldable pub slots_named : ℕ → (ℕ → ℕ) → ℕ → List ℕ
slots_named index pointer zero = []
slots_named index pointer (suc x) =
    if has_slot index x then slots_named index pointer x ++ pointer x ∷ [] else slots_named index pointer x

-- the blocks of the pointers of a body node
abbrev pub body_named : Option ℕ → (ℕ → ℕ) → List ℕ
body_named None pointer = []
body_named (Some index) pointer = slots_named index pointer SLOTS
