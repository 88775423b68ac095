-- Files that are whole bodies, as tests of their nodes.
use Rattle.std.specs.Prelude.{◌≡◌, ◌↔◌, ℕ, zero, suc, ◌-◌, ◌*◌, ◌≤◌, ◌==◌, ◌&&◌, ◌||◌, not, nat_le, Bool, true, false, Option, List, length}
use Rattle.std.specs.Option.{is_some, option_map_or}
use Rattle.std.specs.List.{list_all, range_with_len}
use Rattle.fs_types.specs.declared.limits.TheConstants.{MAX_FILE_BYTES}
use Rattle.nodes.specs.Bodies.{Blocks, index_of, pointer_of, data_of, head_index, IsBody}
use Rattle.reclaim.specs.Naming.{has_slot}

-- the node of a body has this index
abbrev pub has_index : Option (List ℕ) → ℕ → Bool
has_index node i = option_map_or (λ index. index == i) (index_of node) false

-- the slot after one, where the index has it, is that one of the node that it names
abbrev pub is_stepped : Blocks → (ℕ → ℕ) → ℕ → ℕ → Bool
is_stepped f pointer index x = not (has_slot index (suc x)) || (is_some (index_of (f (pointer x))) && (pointer_of (f (pointer x)) x == pointer (suc x)))

-- so is each slot after the first
abbrev pub are_stepped : Blocks → (ℕ → ℕ) → ℕ → Bool
are_stepped f pointer index = list_all (λ x. is_stepped f pointer index x) (range_with_len 0 15)

-- the node before that of an index has the index before it and is full, and the slots are stepped; the first node has none before it
abbrev pub is_after : ℕ → Blocks → (ℕ → ℕ) → ℕ → Bool
is_after capacity f pointer zero = true
is_after capacity f pointer (suc i) = has_index (f (pointer 0)) i && (length (data_of (f (pointer 0))) == capacity) && are_stepped f pointer (suc i)

-- the node in a block is one of a body, and comes after the node before it
abbrev pub is_step : ℕ → Blocks → ℕ → Bool
is_step capacity f block = option_map_or (is_after capacity f (pointer_of (f block))) (index_of (f block)) false

-- so do all nodes from that of an index in a block down to the first
unfoldable pub are_steps : (ℕ → Bool) → Blocks → ℕ → ℕ → Bool
are_steps is_good f zero block = is_good block
are_steps is_good f (suc i) block = is_good block && are_steps is_good f i (pointer_of (f block) 0)

-- the node in a block, with those before it, is a linked chain
abbrev pub is_linked : ℕ → Blocks → ℕ → Bool
is_linked capacity f block = option_map_or (λ index. are_steps (is_step capacity f) f index block) (index_of (f block)) false

-- a file that is not empty: its head has the index that its length asks, with the bytes that are left for it, and ends a linked chain
abbrev pub is_body : ℕ → Blocks → ℕ → ℕ → Bool
is_body capacity f head size =
    has_index (f head) (head_index capacity size) && nat_le (size - head_index capacity size * capacity) (length (data_of (f head))) && is_linked capacity f head

-- the file of this head and length is a whole linked body
abbrev pub is_file : ℕ → Blocks → ℕ → ℕ → Bool
is_file capacity f head zero = head == 0
is_file capacity f head (suc n) = is_body capacity f head (suc n)

-- the test says what a body is
abbrev pub WholeFileLaw : Type 0
WholeFileLaw = (capacity : ℕ) (f : Blocks) (head size : ℕ) → size ≤ MAX_FILE_BYTES → (is_file capacity f head size ≡ true) ↔ IsBody capacity f head size
