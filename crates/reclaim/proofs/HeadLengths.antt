-- What nodes allow of the lengths of files, and what a table tells of it.
use Rattle.std.proofs.Common.{◌≡◌, ◌⊎◌, inl, inr, ℕ, zero, suc, ◌+◌, ◌-◌, ◌*◌, ◌/◌, ◌^◌, ◌<◌, ◌≤◌, Bool, true, false, cond, Option, Some, None, List, [], ◌∷◌, ◌++◌, length, take, drop, length-drop, refl, sym, ap, subst, ◌∙◌, arith, suc-mul}
use Rattle.std.specs.Prelude.{Contains, slice_index, is_some, map, nat_le, nat_lt, ◌==◌}
use Rattle.std.specs.FinSet as set
use Rattle.std.specs.Ordering.{nat_cmp}
use Rattle.std.specs.Option.{option_map_or}
use Rattle.std.specs.List.{flat_map}
use Rattle.std.proofs.lemmas.Nat.{div-mul-add}
use Rattle.std.proofs.Math.Nat.{zero-mul}
use Rattle.std.proofs.lemmas.Bool.{true≢false, cases_lt, lt-ltb, ltb-true, leb-true}
use Rattle.std.proofs.lemmas.List.{take_more, take-append-drop, take-append-le, flat_map_more, get_or-take, length-take-le}
use Rattle.std.proofs.lemmas.List.Elements.{Contains-append_left, Contains-append_right, Contains-append_cases, Contains-get_or}
use Rattle.fs_types.specs.declared.limits.TheConstants.{MAX_FILE_BYTES}
use Rattle.node_format.specs.Headers.{field, body_header, body_magic, body_size, directory_magic, chain_magic, directory_size, IsNode}
use Rattle.node_format.specs.Items.{Item}
use Rattle.node_format.specs.Links.{Link}
use Rattle.node_format.specs.Directories.{size_of}
use Rattle.node_format.specs.declared.place.Place.{Place}
use Rattle.node_format.specs.declared.place.Place.TheVariants.{Dir, File}
use Rattle.nodes.specs.Bodies.{Blocks, index_of, pointer_of, data_of, head_index}
use Rattle.nodes.specs.Chains.{link_of, link_items}
use Rattle.nodes.specs.Reached.{Reached}
use Rattle.nodes.proofs.Entries.{directory_no_index}
use Rattle.reclaim.specs.Heads.{fits, in_word, longest, longest_by, length_before, before_told, told_in, told_by, FitsHead, FitHeads, IsKept, KeepsHeads, places_read, HeadsAreTold}
use Rattle.reclaim.specs.Looks.{IsSoundFile, places_of, used_of, Says}
use Rattle.reclaim.specs.Passes.{Pass, IsPass, Advances}
use Rattle.reclaim.specs.Sound.{IsHead, IsSoundPlace}
use Rattle.reclaim.specs.Tables.{IsTold, HasSeen}
use Rattle.reclaim.specs.Verified.{AreRoots}
use Rattle.reclaim.specs.declared.looks.Parts.{Parts}
use Rattle.reclaim.specs.declared.table.Table.{Table}
use Rattle.reclaim.proofs.FrontNames.{size_is}
use Rattle.reclaim.proofs.Heads.{fits_parts, fits_from, fits_none}
use Rattle.reclaim.proofs.Lengths.{entry_short, head_short}
use Rattle.reclaim.proofs.Marking.{begins_at, begins_length}
use Rattle.reclaim.proofs.Soundness.{trees_are_sound}

some_is : (a b : ℕ) → Some a ≡ Some b → a ≡ b
some_is a b is = ap (λ (o : Option ℕ). option_map_or (λ n. n) o a) is

-- ---- body nodes

-- the bytes of a body node after its header are those that it uses
used_bytes : (block index : ℕ) (bytes : List ℕ) → IsNode block bytes → index_of (Some bytes) ≡ Some index → field bytes 8 ≡ length (drop 80 bytes)
used_bytes block index bytes node is = on (field bytes 0 == body_magic) is node
  where
    on : (t : Bool) → cond t (Some (field bytes 4)) None ≡ Some index
        → cond t (body_size block (field bytes 8)) (cond (field bytes 0 == directory_magic) (directory_size block (field bytes 4) (field bytes 8)) (cond (field bytes 0 == chain_magic) (directory_size block (field bytes 4) (field bytes 8)) None)) ≡ Some (length bytes)
        → field bytes 8 ≡ length (drop 80 bytes)
    on true is size = omega (arith, size_is block (field bytes 8) (length bytes) size, length-drop 80 bytes)
    on false is size = absurd cc

body_within : (limit used n : ℕ) → body_size limit used ≡ Some n → (0 < used) × (n ≡ 80 + used) × (80 + used ≤ limit)
body_within limit used n is = on (nat_lt 0 used) (nat_le (body_header + used) limit) refl refl is
  where
    on : (t u : Bool) → nat_lt 0 used ≡ t → nat_le (body_header + used) limit ≡ u → cond t (cond u (Some (body_header + used)) None) None ≡ Some n → (0 < used) × (n ≡ 80 + used) × (80 + used ≤ limit)
    on true true some room is = (ltb-true 0 used some, sym (some_is (body_header + used) n is), leb-true (body_header + used) limit room)
    on true false some room is = absurd cc
    on false u some room is = absurd cc

-- a body node has data bytes, and no more than one that is full
body_data : (limit index : ℕ) (bytes : List ℕ) → IsNode limit bytes → index_of (Some bytes) ≡ Some index → (0 < length (drop 80 bytes)) × (length (drop 80 bytes) ≤ limit - 80)
body_data limit index bytes node is = on (field bytes 0 == body_magic) is node
  where
    on : (t : Bool) → cond t (Some (field bytes 4)) None ≡ Some index
        → cond t (body_size limit (field bytes 8)) (cond (field bytes 0 == directory_magic) (directory_size limit (field bytes 4) (field bytes 8)) (cond (field bytes 0 == chain_magic) (directory_size limit (field bytes 4) (field bytes 8)) None)) ≡ Some (length bytes)
        → (0 < length (drop 80 bytes)) × (length (drop 80 bytes) ≤ limit - 80)
    on true is size =
        let own = body_within limit (field bytes 8) (length bytes) size in
        (omega (arith, own.0, own.1, length-drop 80 bytes), omega (arith, own.1, own.2, length-drop 80 bytes))
    on false is size = absurd cc

-- the index of the last byte of a node
last_index : (capacity i m : ℕ) → 0 < m → m ≤ capacity → head_index capacity (i * capacity + m) ≡ i
last_index capacity i zero some few = absurd (omega (arith, some))
last_index capacity i (suc m) some few =
    let same : (i * capacity + suc m) - 1 ≡ i * capacity + m = omega arith in
    ap (λ (n : ℕ). n / capacity) same ∙ div-mul-add i capacity m (omega (arith, few))

module _ (limit : ℕ) (f : Blocks) (whole : (b : ℕ) (bytes : List ℕ) → f b ≡ Some bytes → IsNode limit bytes) where
  data_within : (b index : ℕ) → index_of (f b) ≡ Some index → (0 < length (data_of (f b))) × (length (data_of (f b)) ≤ limit - 80)
  data_within b index is = on (f b) refl is
    where
      on : (o : Option (List ℕ)) → f b ≡ o → index_of o ≡ Some index → (0 < length (data_of o)) × (length (data_of o) ≤ limit - 80)
      on None at is = absurd cc
      on (Some bytes) at is = body_data limit index bytes (whole b bytes at) is

  -- a file of bytes that its node allows ends there
  head_from : (head n : ℕ) → fits (limit - 80) (suc n) (longest (limit - 80) (f head)) ≡ true → IsHead (limit - 80) f head (suc n)
  head_from head n is = on (index_of (f head)) refl is
    where
      capacity : ℕ
      capacity = limit - 80

      m : ℕ
      m = length (data_of (f head))

      word : (i : ℕ) (t : Bool) → nat_lt (i * capacity + m) (2 ^ 32) ≡ t → index_of (f head) ≡ Some i → fits capacity (suc n) (cond t (i * capacity + m) 0) ≡ true → IsHead capacity f head (suc n)
      word i false out own is = absurd (fits_none capacity n is)
      word i true in_ own is =
          let parts = fits_parts capacity (suc n) (i * capacity + m) is in
          let size = data_within head i own in
          let at : i ≡ head_index capacity (suc n) = sym (parts.1 ∙ last_index capacity i m size.0 size.1) in
          (own ∙ ap (λ (k : ℕ). Some k) at, subst (λ (k : ℕ). suc n ≤ k * capacity + m) at parts.0)

      on : (o : Option ℕ) → index_of (f head) ≡ o → fits capacity (suc n) (option_map_or (λ i. in_word (i * capacity + m)) o 0) ≡ true → IsHead capacity f head (suc n)
      on None own is = absurd (fits_none capacity n is)
      on (Some i) own is = word i (nat_lt (i * capacity + m) (2 ^ 32)) refl own is

  pub file_from : (place : Place) → FitsHead (limit - 80) (λ b. longest (limit - 80) (f b)) place → IsSoundFile (limit - 80) f place
  file_from (Dir block) fit = tt
  file_from (File head zero) fit = fit
  file_from (File head (suc n)) fit = head_from head n fit

  -- and the other way round, where the file is not too long
  head_fits : (head n : ℕ) → limit ≤ 2 ^ 18 → suc n ≤ MAX_FILE_BYTES → IsHead (limit - 80) f head (suc n) → fits (limit - 80) (suc n) (longest (limit - 80) (f head)) ≡ true
  head_fits head n small few own =
      let size = data_within head i own.0 in
      let less : i * capacity + m < 2 ^ 32 = omega (arith, head_short capacity n few, size.1, small) in
      ap (λ (o : Option ℕ). fits capacity (suc n) (option_map_or (λ i. in_word (i * capacity + m)) o 0)) own.0
      ∙ ap (λ (t : Bool). fits capacity (suc n) (cond t (i * capacity + m) 0)) (lt-ltb (i * capacity + m) (2 ^ 32) less)
      ∙ fits_from capacity (suc n) (i * capacity + m) own.1 (sym (last_index capacity i m size.0 size.1))
    where
      capacity : ℕ
      capacity = limit - 80

      m : ℕ
      m = length (data_of (f head))

      i : ℕ
      i = head_index capacity (suc n)

  pub file_fits : (place : Place) → limit ≤ 2 ^ 18 → size_of place ≤ MAX_FILE_BYTES → IsSoundFile (limit - 80) f place → FitsHead (limit - 80) (λ b. longest (limit - 80) (f b)) place
  file_fits (Dir block) small few own = tt
  file_fits (File head zero) small few own = own
  file_fits (File head (suc n)) small few own = head_fits head n small few own

  -- the head of the file of all full nodes up to one is that one, and it is full
  pub full_from : (before i n : ℕ) → suc n ≡ suc i * (limit - 80) → IsHead (limit - 80) f before (suc n) → (index_of (f before) ≡ Some i) × (length (data_of (f before)) ≡ limit - 80)
  full_from before i n same own =
      let size = data_within before (head_index capacity (suc n)) own.0 in
      let all : suc n ≡ i * capacity + capacity = omega (arith, same, suc-mul i capacity) in
      let at : head_index capacity (suc n) ≡ i = ap (head_index capacity) all ∙ last_index capacity i capacity (omega (arith, size.0, size.1)) (omega arith) in
      let few : suc n ≤ i * capacity + length (data_of (f before)) = subst (λ (k : ℕ). suc n ≤ k * capacity + length (data_of (f before))) at own.1 in
      (own.0 ∙ ap (λ (k : ℕ). Some k) at, omega (arith, few, all, size.1))
    where
      capacity : ℕ
      capacity = limit - 80

  pub full_head : (before i n : ℕ) → suc n ≡ suc i * (limit - 80) → index_of (f before) ≡ Some i → length (data_of (f before)) ≡ limit - 80 → IsHead (limit - 80) f before (suc n)
  full_head before i n same is full =
      let size = data_within before i is in
      let all : suc n ≡ i * capacity + capacity = omega (arith, same, suc-mul i capacity) in
      let at : head_index capacity (suc n) ≡ i = ap (head_index capacity) all ∙ last_index capacity i capacity (omega (arith, size.0, size.1)) (omega arith) in
      (is ∙ ap (λ (k : ℕ). Some k) (sym at), subst (λ (k : ℕ). suc n ≤ k * capacity + length (data_of (f before))) (sym at) (omega (arith, all, full)))
    where
      capacity : ℕ
      capacity = limit - 80

  -- where a node of a body follows others, blocks have room for bytes
  pub some_room : (b i : ℕ) → index_of (f b) ≡ Some i → 0 < limit - 80
  some_room b i is = let size = data_within b i is in omega (arith, size.0, size.1)

-- ---- the bytes before a node

before_in : (before n : ℕ) (place : Place) → Contains (before_told before n) place → (k : ℕ) × (n ≡ suc k) × (place ≡ File before (suc k))
before_in before zero place has = absurd (omega (arith, has.1))
before_in before (suc k) place (zero, lt, is) = (k, refl, sym is)
before_in before (suc k) place (suc j, lt, is) = absurd (omega (arith, lt))

length_is : (capacity i n : ℕ) → length_before capacity (Some i) ≡ suc n → (suc n ≡ i * capacity) × (suc n < MAX_FILE_BYTES)
length_is capacity i n is = on (nat_lt (i * capacity) MAX_FILE_BYTES) refl is
  where
    on : (t : Bool) → nat_lt (i * capacity) MAX_FILE_BYTES ≡ t → cond t (i * capacity) 0 ≡ suc n → (suc n ≡ i * capacity) × (suc n < MAX_FILE_BYTES)
    on true less same = (sym same, omega (arith, same, ltb-true (i * capacity) MAX_FILE_BYTES less))
    on false past same = absurd (omega (arith, same))

length_of : (capacity i : ℕ) → i * capacity < MAX_FILE_BYTES → length_before capacity (Some i) ≡ i * capacity
length_of capacity i less = ap (λ (t : Bool). cond t (i * capacity) 0) (lt-ltb (i * capacity) MAX_FILE_BYTES less)

-- what parts tell is what the node tells
pub told_said : (capacity : ℕ) (node : Option (List ℕ)) (parts : Parts) → Says node parts → told_in capacity parts ≡ told_by capacity node
told_said capacity node parts says =
    ap (λ (l : List Place). l ++ before_told (slice_index parts.pointers.items 0) (length_before capacity parts.index)) says.places
    ∙ ap (λ (b : ℕ). places_of node ++ before_told b (length_before capacity parts.index)) (says.named.pointers_are 0 (omega arith))
    ∙ ap (λ (o : Option ℕ). places_of node ++ before_told (pointer_of node 0) (length_before capacity o)) says.named.index_is

-- a node of a directory allows none
pub link_allows : (capacity : ℕ) (node : Option (List ℕ)) (l : Link) → link_of node ≡ Some l → longest capacity node ≡ 0
link_allows capacity node l is = ap (λ (o : Option ℕ). longest_by capacity o (length (data_of node))) (directory_no_index node l is)

pub linked_allows : (capacity : ℕ) (node : Option (List ℕ)) → is_some (link_of node) ≡ true → longest capacity node ≡ 0
linked_allows capacity node some = on (link_of node) refl some
  where
    on : (o : Option Link) → link_of node ≡ o → is_some o ≡ true → longest capacity node ≡ 0
    on None is some = absurd (true≢false (sym some))
    on (Some l) is some = link_allows capacity node l is

-- what parts tell is what the node allows
pub parts_allow : (limit : ℕ) (node : Option (List ℕ)) (parts : Parts) → ((bytes : List ℕ) → node ≡ Some bytes → IsNode limit bytes) → Says node parts → longest (limit - 80) node ≡ longest_by (limit - 80) parts.index parts.used
parts_allow limit node parts whole says =
    on node whole ∙ ap (λ (o : Option ℕ). longest_by (limit - 80) o (used_of node)) (sym says.named.index_is) ∙ ap (longest_by (limit - 80) parts.index) (sym says.used)
  where
    on : (node : Option (List ℕ)) → ((bytes : List ℕ) → node ≡ Some bytes → IsNode limit bytes) → longest (limit - 80) node ≡ longest_by (limit - 80) (index_of node) (used_of node)
    on None whole = refl
    on (Some bytes) whole = by (index_of (Some bytes)) refl
      where
        by : (o : Option ℕ) → index_of (Some bytes) ≡ o → longest_by (limit - 80) o (length (drop 80 bytes)) ≡ longest_by (limit - 80) o (field bytes 8)
        by None is = refl
        by (Some i) is = ap (longest_by (limit - 80) (Some i)) (sym (used_bytes limit i bytes (whole bytes refl) is))

-- ---- the entries that were read

pub entry_in : {X : Type 0} → (g : ℕ → List X) (xs : List ℕ) (b : ℕ) (place : X) → Contains xs b → Contains (g b) place → Contains (flat_map g xs) place
entry_in {X} g [] b place (k, lt, is) has = absurd (omega (arith, lt))
entry_in {X} g (x ∷ xs) b place (zero, lt, is) has = Contains-append_left (g x) (flat_map g xs) place (subst (λ (c : ℕ). Contains (g c) place) (sym is) has)
entry_in {X} g (x ∷ xs) b place (suc k, lt, is) has = Contains-append_right (g x) (flat_map g xs) place (entry_in g xs b place (k, omega (arith, lt), is) has)

pub entry_of : {X : Type 0} → (g : ℕ → List X) (xs : List ℕ) (place : X) → Contains (flat_map g xs) place → (b : ℕ) × Contains xs b × Contains (g b) place
entry_of {X} g [] place (k, lt, is) = absurd (omega (arith, lt))
entry_of {X} g (x ∷ xs) place has = either (Contains-append_cases (g x) (flat_map g xs) place has) (entry_of g xs place)
  where
    either : Contains (g x) place ⊎ Contains (flat_map g xs) place → (Contains (flat_map g xs) place → (b : ℕ) × Contains xs b × Contains (g b) place) → (b : ℕ) × Contains (x ∷ xs) b × Contains (g b) place
    either (inl here) again = (x, (0, omega arith, refl), here)
    either (inr there) again = let own = again there in (own.0, Contains-append_right (x ∷ []) xs own.0 own.1, own.2)

-- the block of a place
abbrev head_at : Place → ℕ
head_at (Dir block) = block
head_at (File head size) = head

-- a place among those of a node's entries
place_in : (items : List Item) (item : Item) → Contains items item → Contains (map (λ (item : Item). item.place) items) item.place
place_in [] item (k, lt, is) = absurd (omega (arith, lt))
place_in (x ∷ xs) item (zero, lt, is) = (0, omega arith, ap (λ (i : Item). i.place) is)
place_in (x ∷ xs) item (suc k, lt, is) = Contains-append_right (x.place ∷ []) (map (λ (item : Item). item.place) xs) item.place (place_in xs item (k, omega (arith, lt), is))

-- the entry that has a place
item_of : (items : List Item) (at : Place) → Contains (map (λ (item : Item). item.place) items) at → (item : Item) × Contains items item × (item.place ≡ at)
item_of [] at (k, lt, is) = absurd (omega arith)
item_of (x ∷ xs) at (zero, lt, is) = (x, (0, omega arith, refl), is)
item_of (x ∷ xs) at (suc k, lt, is) = let rest = item_of xs at (k, omega arith, is) in (rest.0, Contains-append_right (x ∷ []) xs rest.0 rest.1, rest.2)

-- what was read is among the blocks that were taken
pub seen_taken : (f : Blocks) (p : Pass) (b : ℕ) → IsPass f p → HasSeen p b → Contains (take p.next p.order) b
seen_taken f p b pass (k, lt, at) =
    subst (Contains (take p.next p.order)) (get_or-take p.next p.order k 0 lt ∙ at) (Contains-get_or (take p.next p.order) k 0 (omega (arith, lt, length-take-le p.next p.order pass.within)))

pub taken_listed : (p : Pass) (b : ℕ) → Contains (take p.next p.order) b → Contains p.order b
taken_listed p b has = subst (λ (l : List ℕ). Contains l b) (take-append-drop p.next p.order) (Contains-append_left (take p.next p.order) (drop p.next p.order) b has)

-- ---- where all was read

module _ (limit : ℕ) (f : Blocks) (p : Pass) (t : Table) (pass : IsPass f p) (whole : (b : ℕ) (bytes : List ℕ) → f b ≡ Some bytes → IsNode limit bytes) (heads : HeadsAreTold (limit - 80) f p t) where
  -- what a node that was read tells of a head is so, where that was read
  told_place : (b : ℕ) (place : Place) → HasSeen p b → Contains (told_by (limit - 80) (f b)) place → ((head size : ℕ) → place ≡ File head size → 0 < size → HasSeen p head) → IsSoundFile (limit - 80) f place
  told_place b place seen within head_seen = file_from limit f whole place (on place refl (heads.kept place (entry_in (λ c. told_by (limit - 80) (f c)) (take p.next p.order) b place (seen_taken f p b pass seen) within)))
    where
      on : (at : Place) → place ≡ at → IsKept (limit - 80) t at → FitsHead (limit - 80) (λ c. longest (limit - 80) (f c)) at
      on (Dir block) is kept = tt
      on (File head zero) is kept = kept
      on (File head (suc n)) is kept =
          let was = heads.all head (seen_taken f p head pass (head_seen head (suc n) is (omega arith))) in
          ap (fits (limit - 80) (suc n)) (sym (heads.read head was kept.1)) ∙ kept.2

  -- the file of an entry is sound
  pub told_file : (b : ℕ) (item : Item) → HasSeen p b → Contains (link_items (f b)) item → ((head size : ℕ) → item.place ≡ File head size → 0 < size → HasSeen p head) → IsSoundFile (limit - 80) f item.place
  told_file b item seen within head_seen =
      told_place b item.place seen
      (Contains-append_left (places_of (f b)) (before_told (pointer_of (f b) 0) (length_before (limit - 80) (index_of (f b)))) item.place (place_in (link_items (f b)) item within)) head_seen

  -- the node before one of a body is full and has the index before
  pub told_before : (b i : ℕ) → HasSeen p b → index_of (f b) ≡ Some (suc i) → suc i * (limit - 80) < MAX_FILE_BYTES → HasSeen p (pointer_of (f b) 0)
      → (index_of (f (pointer_of (f b) 0)) ≡ Some i) × (length (data_of (f (pointer_of (f b) 0))) ≡ limit - 80)
  told_before b i seen is short before_seen = on (suc i * (limit - 80)) refl
    where
      before : ℕ
      before = pointer_of (f b) 0

      on : (n : ℕ) → suc i * (limit - 80) ≡ n → (index_of (f before) ≡ Some i) × (length (data_of (f before)) ≡ limit - 80)
      on zero none = absurd (omega (arith, none, suc-mul i (limit - 80), some_room limit f whole b (suc i) is))
      on (suc n) some =
          let size : length_before (limit - 80) (index_of (f b)) ≡ suc n = ap (length_before (limit - 80)) is ∙ length_of (limit - 80) (suc i) short ∙ some in
          full_from limit f whole before i n (sym some)
          (told_place b (File before (suc n)) seen
          (Contains-append_right (places_of (f b)) (before_told before (length_before (limit - 80) (index_of (f b)))) (File before (suc n))
          (subst (λ (k : ℕ). Contains (before_told before k) (File before (suc n))) (sym size) (0, omega arith, refl)))
          (λ head size at more. subst (HasSeen p) (ap head_at at) before_seen))

-- ---- where roots have trees

module _ (limit : ℕ) (f : Blocks) (roots : List ℕ) (trees : AreRoots limit f roots) (small : limit ≤ 2 ^ 18) (whole : (b : ℕ) (bytes : List ℕ) → f b ≡ Some bytes → IsNode limit bytes) where
  node_fits : (b : ℕ) → Reached f roots b → (place : Place) → Contains (places_of (f b)) place → FitsHead (limit - 80) (λ c. longest (limit - 80) (f c)) place
  node_fits b reached place has =
      let found = item_of (link_items (f b)) place has in
      let item = found.0 in
      subst (FitsHead (limit - 80) (λ c. longest (limit - 80) (f c))) found.2 (file_fits limit f whole item.place small (entry_short (f b) item found.1) (sound item found.1))
    where
      sound : (item : Item) → Contains (link_items (f b)) item → IsSoundFile (limit - 80) f item.place
      sound item within = on (link_of (f b)) refl within
        where
          file : (place : Place) → IsSoundPlace (limit - 80) f place → IsSoundFile (limit - 80) f place
          file (Dir block) own = tt
          file (File head size) own = own

          on : (o : Option Link) → link_of (f b) ≡ o → Contains (option_map_or (λ l. l.items) o []) item → IsSoundFile (limit - 80) f item.place
          on None is within = absurd (omega (arith, within.1))
          on (Some l) is within = file item.place (((trees_are_sound (limit - 80) f roots trees).nodes b reached).names.entries l is item within)

  -- the node before one of a body
  before_fits : (b : ℕ) → Reached f roots b → (place : Place) → Contains (before_told (pointer_of (f b) 0) (length_before (limit - 80) (index_of (f b)))) place → FitsHead (limit - 80) (λ c. longest (limit - 80) (f c)) place
  before_fits b reached place has = on (index_of (f b)) refl has
    where
      before : ℕ
      before = pointer_of (f b) 0

      by : (i n : ℕ) → index_of (f b) ≡ Some i → suc n ≡ i * (limit - 80) → suc n < MAX_FILE_BYTES → FitsHead (limit - 80) (λ c. longest (limit - 80) (f c)) (File before (suc n))
      by zero n is same few = absurd (omega (arith, same, zero-mul (limit - 80)))
      by (suc i) n is same few =
          let own = ((trees_are_sound (limit - 80) f roots trees).nodes b reached).names.pointers (suc i) is in
          file_fits limit f whole (File before (suc n)) small (omega (arith, few)) (full_head limit f whole before i n same own.0 own.1)

      on : (o : Option ℕ) → index_of (f b) ≡ o → Contains (before_told before (length_before (limit - 80) o)) place → FitsHead (limit - 80) (λ c. longest (limit - 80) (f c)) place
      on None is within = absurd (omega (arith, within.1))
      on (Some i) is within =
          let (n, size, at) = before_in before (length_before (limit - 80) (Some i)) place within in
          let own = length_is (limit - 80) i n size in
          subst (FitsHead (limit - 80) (λ c. longest (limit - 80) (f c))) (sym at) (by i n is own.0 own.1)

  -- all that a node tells
  all_fits : (b : ℕ) → Reached f roots b → (place : Place) → Contains (told_by (limit - 80) (f b)) place → FitsHead (limit - 80) (λ c. longest (limit - 80) (f c)) place
  all_fits b reached place has = elim (Contains-append_cases (places_of (f b)) (before_told (pointer_of (f b) 0) (length_before (limit - 80) (index_of (f b)))) place has) [
    | inl entry ↦ node_fits b reached place entry
    | inr before ↦ before_fits b reached place before
  ]

  -- all that the nodes tell that a pass has read, and that of a block that it reads next
  pub trees_fit : (p : Pass) (block : ℕ) (places : List Place) → p.roots ≡ roots → IsPass f p → Reached f roots block → places ≡ told_by (limit - 80) (f block)
      → FitHeads (limit - 80) (λ c. longest (limit - 80) (f c)) (places_read (limit - 80) f p ++ places)
  trees_fit p block places same pass reached are place has = elim (Contains-append_cases (places_read (limit - 80) f p) places place has) [
    | inl before ↦
        let own = entry_of (λ c. told_by (limit - 80) (f c)) (take p.next p.order) place before in
        all_fits own.0 (subst (λ (l : List ℕ). Reached f l own.0) same (pass.reached own.0 (taken_listed p own.0 own.1))) place own.2
    | inr here ↦ all_fits block reached place (subst (λ (l : List Place). Contains l place) are here)
  ]

-- ---- one block more

module _ (f : Blocks) (p q : Pass) (block : ℕ) (on : Advances p q) (left : p.next < length p.order) (at : block ≡ slice_index p.order p.next) (next : q.next ≡ p.next + 1) where
  pub taken_on : take q.next q.order ≡ take p.next p.order ++ block ∷ []
  taken_on =
      ap (λ (n : ℕ). take n q.order) next ∙ take_more q.order p.next 0 (omega (arith, left, begins_length p.order q.order on.begins))
      ∙ ap (λ (l : List ℕ). l ++ slice_index q.order p.next ∷ []) (ap (take p.next) (sym on.begins.1) ∙ take-append-le p.next p.order on.begins.0 (omega (arith, left)))
      ∙ ap (λ (b : ℕ). take p.next p.order ++ b ∷ []) (begins_at p.order q.order p.next on.begins left ∙ sym at)

  places_on : (capacity : ℕ) → places_read capacity f q ≡ places_read capacity f p ++ told_by capacity (f block)
  places_on capacity = ap (flat_map (λ b. told_by capacity (f b))) taken_on ∙ sym (flat_map_more (λ b. told_by capacity (f b)) [] (take p.next p.order) block)

  pub heads_on : (capacity : ℕ) (places : List Place) (t : Table) → places ≡ told_by capacity (f block) → KeepsHeads capacity (λ b. longest capacity (f b)) (take p.next p.order ++ block ∷ []) (places_read capacity f p ++ places) t → HeadsAreTold capacity f q t
  heads_on capacity places t are keeps =
      subst (λ (l : List ℕ). KeepsHeads capacity (λ b. longest capacity (f b)) l (places_read capacity f q) t) (sym taken_on)
      (subst (λ (l : List Place). KeepsHeads capacity (λ b. longest capacity (f b)) (take p.next p.order ++ block ∷ []) l t) (ap (λ (l : List Place). places_read capacity f p ++ l) are ∙ sym (places_on capacity)) keeps)

-- a block that is read next is not known
pub next_fresh : (f : Blocks) (p : Pass) (t : Table) (block : ℕ) → IsPass f p → IsTold f p t → p.next < length p.order → block ≡ slice_index p.order p.next → set.contains t.links.members block ≡ false
next_fresh f p t block pass told left at = on (set.contains t.links.members block) refl
  where
    on : (s : Bool) → set.contains t.links.members block ≡ s → s ≡ false
    on false is = refl
    on true is =
        let seen = (told.held block is).2 in
        absurd (pass.distinct seen.0 p.next seen.1 left (seen.2 ∙ at))

-- nothing was read
pub heads_none : (capacity : ℕ) (f : Blocks) (p : Pass) (t : Table) → p.next ≡ 0 → ((b : ℕ) → t.links.blocks ≤ b → f b ≡ None) → t.links.members ≡ set.empty → t.read.members ≡ set.empty → ((b : ℕ) → slice_index t.words b ≡ 0)
    → HeadsAreTold capacity f p t
heads_none capacity f p t none high links read words = record {
  beyond = λ b past. elim (cases_lt b t.links.blocks) [
    | inl less ↦ absurd (past less)
    | inr over ↦ ap (longest capacity) (high b over)
  ];
  links = λ b has. absurd (true≢false (sym has ∙ ap (λ s. set.contains s b) links ∙ set.contains-empty nat_cmp b));
  all = λ b has. absurd (omega (arith, (subst (λ (n : ℕ). Contains (take n p.order) b) none has).1));
  read = λ b has. absurd (true≢false (sym has ∙ ap (λ s. set.contains s b) read ∙ set.contains-empty nat_cmp b));
  kept = λ place has. absurd (omega (arith, (subst (λ (n : ℕ). Contains (flat_map (λ b. told_by capacity (f b)) (take n p.order)) place) none has).1));
  from = λ b lacks unread word. absurd (word (words b));
}
