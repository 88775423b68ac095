-- How many bytes paths have, how many of them lead to owners of blocks, and which room they leave.
use Rattle.std.proofs.Common.{◌≡◌, ◌∙◌, ◌⊎◌, inl, inr, ◌+◌, ◌-◌, ◌*◌, ◌<◌, ◌≤◌, ℕ, Bool, true, false, Option, Some, None, [], ◌∷◌, ◌++◌, length, get_or, take, refl, sym, ap, subst, arith}
use Rattle.std.proofs.lemmas.Bool.{true≢false, and_parts, leb-true}
use Rattle.std.proofs.lemmas.List.Elements.{All-weaker}
use Rattle.std.proofs.lemmas.List.Sums.{sum_by-cons, sum_by-le, sum_by_more, sum_by_more_le, AllPass-from_list_all}
use Rattle.std.specs.Bool.{Decides}
use Rattle.std.specs.Prelude.{is_some, nat_le, sum_by, if◌then◌else◌}
use Rattle.std.specs.List.{list_all}
use Rattle.fs_types.specs.Names.{Name, Path, is_lawful, is_name, is_path}
use Rattle.fs_types.specs.declared.call.Stat.{Stat}
use Rattle.fs_types.specs.declared.limits.TheConstants.{MAX_NAMES, MAX_NAME_BYTES}
use Rattle.plain_trees.specs.Trees.{Tree, children, IsFileTree}
use Rattle.tree_counts.proofs.Sums.{sum_flat}
use Rattle.inquiries.specs.Items.{item_at, items_below, items_of, IsItemOf}
use Rattle.inquiries.specs.Listable.{IsLeft, IsListable, IsRoomLeft}
use Rattle.inquiries.specs.Owners.{owns_block, stat_owners, item_owners, owners_of, HasFewOwners}
use Rattle.inquiries.specs.PathBytes.{path_bytes, item_bytes, HasShortPaths}
use Rattle.inquiries.specs.declared.items.Item.{Item}
use Rattle.inquiries.specs.declared.path_room.Room.{Room}
use Rattle.inquiries.proofs.DifferenceLemmas.{items_there}
use Rattle.inquiries.proofs.Entries.{row, row-below, items_below-more, items_below-none}

-- ---- few entries

-- 16 names of 64 bytes, and as many slashes
short_path : (p : Path) → is_path p ≡ true → path_bytes p ≤ 1040
short_path p is =
    let parts = and_parts (list_all is_name p) (nat_le (length p) MAX_NAMES) is in
    let few : length p ≤ 16 = leb-true (length p) MAX_NAMES parts.1 in
    let each : path_bytes p ≤ length p * 65 = sum_by-le (λ (name : Name). length name + 1) 65 p (All-weaker (λ (name : Name). is_name name ≡ true) (λ (name : Name). length name + 1 ≤ 65)
    (λ name lawful. let short : length name ≤ 64 = leb-true (length name) MAX_NAME_BYTES (and_parts (is_lawful name) (nat_le (length name) MAX_NAME_BYTES) lawful).1 in omega (arith, short)) p (AllPass-from_list_all is_name p parts.0)) in
    omega (arith, few, each)

sure_short : (t : Tree) → IsFileTree t → length (items_of t) ≤ 16384 → HasShortPaths t
sure_short t good few =
    let each : sum_by item_bytes (items_of t) ≤ length (items_of t) * 1040 = sum_by-le item_bytes 1040 (items_of t)
    (All-weaker (IsItemOf t) (λ (item : Item). item_bytes item ≤ 1040) (λ item is. short_path item.path (good.paths item.path is.there)) (items_of t) (items_there t MAX_NAMES [])) in
    omega (arith, few, each)

-- what stands at a path is one
one_owner : (stat : Stat) → stat_owners stat ≤ 1
one_owner stat = by (owns_block stat)
  where
    by : (b : Bool) → (if b then 1 else 0) ≤ 1
    by true = omega arith
    by false = omega arith

sure_few : (t : Tree) → length (items_of t) ≤ 16384 → HasFewOwners t
sure_few t few =
    let each : owners_of t ≤ length (items_of t) * 1 = sum_by-le item_owners 1 (items_of t)
    (All-weaker (IsItemOf t) (λ (item : Item). item_owners item ≤ 1) (λ item is. one_owner item.stat) (items_of t) (items_there t MAX_NAMES [])) in
    omega (arith, few, each)

pub sure_listable : (t : Tree) → IsFileTree t → length (items_of t) ≤ 16384 → IsListable t
sure_listable t good few = record { paths = sure_short t good few; owners = sure_few t few }

-- ---- what room is left

-- some room is left by so much exactly where neither is more
pub left_decides : (room : Room) (bytes owners : ℕ) (o : Option Room) → IsRoomLeft room bytes owners o → Decides (is_some o) ((bytes ≤ room.bytes) × (owners ≤ room.owners))
left_decides room bytes owners (Some left) is = (λ some. (let first = is.0 in omega (arith, first), let second = is.1 in omega (arith, second)), λ fit. refl)
left_decides room bytes owners None (inl past) = (λ wrong. absurd (true≢false (sym wrong)), λ fit. absurd (let most = fit.0 in omega (arith, past, most)))
left_decides room bytes owners None (inr past) = (λ wrong. absurd (true≢false (sym wrong)), λ fit. absurd (let most = fit.1 in omega (arith, past, most)))

-- how much a tree may have
abbrev pub whole_room : Room
whole_room = record { bytes = 67108864; owners = 16384 }

pub listable_left : (t : Tree) (o : Option Room) → IsRoomLeft whole_room (sum_by item_bytes (items_below t MAX_NAMES [])) (sum_by item_owners (items_below t MAX_NAMES [])) o → Decides (is_some o) (IsListable t)
listable_left t o left =
    let decides = left_decides whole_room (sum_by item_bytes (items_below t MAX_NAMES [])) (sum_by item_owners (items_below t MAX_NAMES [])) o left in (
      λ some. (let fit = decides.0 some in record { paths = fit.0; owners = fit.1 }),
      λ listable. decides.1 (listable.paths, listable.owners),
    )

-- a room of which so much is taken, and of what is left more, and then more
module _ (room left : Room) (bytes owners : ℕ) (so_far : IsRoomLeft room bytes owners (Some left)) (own_bytes own_owners : ℕ) where
  -- that which comes next does not fit in
  pub past_own : (all_bytes all_owners : ℕ) → bytes + own_bytes ≤ all_bytes → owners + own_owners ≤ all_owners → IsRoomLeft left own_bytes own_owners None → IsRoomLeft room all_bytes all_owners None
  past_own all_bytes all_owners most_bytes most_owners (inl past) = inl (let first = so_far.0 in omega (arith, first, most_bytes, past))
  past_own all_bytes all_owners most_bytes most_owners (inr past) = inr (let second = so_far.1 in omega (arith, second, most_owners, past))

  module _ (beside : Room) (own : IsRoomLeft left own_bytes own_owners (Some beside)) (below_bytes below_owners : ℕ) where
    -- that which stands below it does not
    pub past_below : (all_bytes all_owners : ℕ) → bytes + (own_bytes + below_bytes) ≤ all_bytes → owners + (own_owners + below_owners) ≤ all_owners → IsRoomLeft beside below_bytes below_owners None → IsRoomLeft room all_bytes all_owners None
    past_below all_bytes all_owners most_bytes most_owners (inl past) = inl (let first = so_far.0 in let here = own.0 in omega (arith, first, here, most_bytes, past))
    past_below all_bytes all_owners most_bytes most_owners (inr past) = inr (let second = so_far.1 in let here = own.1 in omega (arith, second, here, most_owners, past))

    -- all of it does
    pub taken_more : (rest : Room) (more_bytes more_owners : ℕ) → more_bytes ≡ bytes + (own_bytes + below_bytes) → more_owners ≡ owners + (own_owners + below_owners) → IsRoomLeft beside below_bytes below_owners (Some rest) → IsRoomLeft room more_bytes more_owners (Some rest)
    taken_more rest more_bytes more_owners are_bytes are_owners last = (
      let first = so_far.0 in let here = own.0 in let below = last.0 in omega (arith, first, here, below, are_bytes),
      let second = so_far.1 in let here = own.1 in let below = last.1 in omega (arith, second, here, below, are_owners),
    )

-- ---- a directory, by what each of its items weighs

-- how much an entry weighs with what stands below it
abbrev pub entry_weight : (Item → ℕ) → Tree → ℕ → Path → Name × Bool → ℕ
entry_weight weight t levels directory entry = sum_by weight (row t levels directory entry)

module _ (weight : Item → ℕ) (t : Tree) (levels : ℕ) (directory : Path) where
  pub no_weight : levels ≡ 0 → sum_by weight (items_below t levels directory) ≡ 0
  no_weight none = ap (sum_by weight) (items_below-none t levels directory none)

  pub all_weight : 0 < levels → sum_by weight (items_below t levels directory) ≡ sum_by (entry_weight weight t (levels - 1) directory) (children t directory)
  all_weight some = ap (sum_by weight) (items_below-more t levels directory some) ∙ sum_flat weight (row t (levels - 1) directory) (children t directory)

  own_weight : (below : ℕ) (entry : Name × Bool) → below ≡ (if entry.1 then levels - 1 else 0)
      → entry_weight weight t (levels - 1) directory entry ≡ weight (item_at t (directory ++ entry.0 ∷ [])) + sum_by weight (items_below t below (directory ++ entry.0 ∷ []))
  own_weight below entry is =
      let here : Path = directory ++ entry.0 ∷ [] in
      ap (sum_by weight) (row-below t (levels - 1) below directory entry is) ∙ sum_by-cons weight (item_at t here) (items_below t below here)

  -- an entry at its place
  module _ (below i : ℕ) (entry : Name × Bool) (within : i < length (children t directory)) (at : entry ≡ get_or (children t directory) i entry) (is : below ≡ (if entry.1 then levels - 1 else 0)) where
    abbrev here : Path
    here = directory ++ entry.0 ∷ []

    abbrev told : ℕ
    told = weight (item_at t here) + sum_by weight (items_below t below here)

    own : entry_weight weight t (levels - 1) directory (get_or (children t directory) i entry) ≡ told
    own = ap (entry_weight weight t (levels - 1) directory) (sym at) ∙ own_weight below entry is

    pub entry_more : sum_by (entry_weight weight t (levels - 1) directory) (take (i + 1) (children t directory)) ≡ sum_by (entry_weight weight t (levels - 1) directory) (take i (children t directory)) + (weight (item_at t (directory ++ entry.0 ∷ [])) + sum_by weight (items_below t below (directory ++ entry.0 ∷ [])))
    entry_more = let more = sum_by_more (entry_weight weight t (levels - 1) directory) (children t directory) i entry within in omega (arith, more, own)

    pub entry_within : 0 < levels → sum_by (entry_weight weight t (levels - 1) directory) (take i (children t directory)) + (weight (item_at t (directory ++ entry.0 ∷ [])) + sum_by weight (items_below t below (directory ++ entry.0 ∷ []))) ≤ sum_by weight (items_below t levels directory)
    entry_within some =
        let most = sum_by_more_le (entry_weight weight t (levels - 1) directory) (children t directory) i entry within in
        let all = all_weight some in
        omega (arith, most, own, all)
