-- The old nodes of which an edit keeps bytes.
use Rattle.std.proofs.Common.{◌≡◌, ℕ, ◌+◌, ◌-◌, ◌*◌, ◌/◌, ◌<◌, ◌≤◌, ◌⊎◌, inl, inr, List, [], ◌∷◌, ◌++◌, length, get_or, take, drop, replicate, slice_index, refl, sym, ap, subst, ◌∙◌, arith, length-append, length-drop}
use Rattle.std.specs.Prelude.{min, max}
use Rattle.std.proofs.lemmas.Bool.Decides.{nat_tests}
use Rattle.std.proofs.lemmas.Bool.{cases_lt}
use Rattle.std.proofs.lemmas.List.{get_or_append_left, get_or-append_right, get_or-take, get_or-drop, get_or_past, get_or-replicate, length-take-le, drop_at, ext_get_or}
use Rattle.plain_trees.specs.Contents.{read_from}
use Rattle.nodes.specs.Bodies.{Blocks, pointer_of, data_of, back, data_to, head_index, body, IsChain, IsBody}
use Rattle.nodes.proofs.Bodies.{back_back, chain_node}
use Rattle.tree_edits.specs.Reading.{AreBlocks}
use Rattle.tree_edits.specs.Writing.{edited, byte_after}
use Rattle.tree_edits.proofs.EditedBytes.{edited_length, edited_at, byte_of}
use Rattle.tree_edits.proofs.Fronts.{front_chain}
use Rattle.tree_edits.proofs.Appended.{index_at}
use Rattle.tree_edits.proofs.Places.{HasPointer}
use Rattle.tree_edits.proofs.Parts.{IsRange, range_found, body_read, data_split, data_length, whole_body}

-- ---- the blocks of the last nodes

pub more_listed : (f : Blocks) (head block step : ℕ) (blocks : List ℕ) → length blocks ≡ step → block ≡ back f head step → AreBlocks f head blocks → AreBlocks f head (blocks ++ block ∷ [])
more_listed f head block step blocks size is listed k lt = on (cases_lt k (length blocks))
  where
    on : (k < length blocks) ⊎ (length blocks ≤ k) → slice_index (blocks ++ block ∷ []) k ≡ back f head k
    on (inl before) = get_or_append_left blocks (block ∷ []) 0 k before ∙ listed k before
    on (inr past) =
        let same : k ≡ length blocks = omega (arith, length-append blocks (block ∷ [])) in
        ap (slice_index (blocks ++ block ∷ [])) same ∙ get_or-append_right blocks (block ∷ []) (length blocks) (length blocks) 0 refl (omega arith)
        ∙ (let none : length blocks - length blocks ≡ 0 = omega arith in ap (slice_index (block ∷ [])) none) ∙ is ∙ ap (back f head) (sym size ∙ sym same)

pub listed_chain : (capacity : ℕ) (f : Blocks) (head size step : ℕ) → 0 < size → IsBody capacity f head size → step ≤ head_index capacity size → IsChain capacity f (head_index capacity size - step) (back f head step)
listed_chain capacity f head size step some is le = front_chain capacity f step (head_index capacity size - step) (head_index capacity size) head (omega arith) (whole_body capacity f head size some is).chain

pub listed_pointer : (capacity : ℕ) (f : Blocks) (head size step : ℕ) → 0 < size → IsBody capacity f head size → step < head_index capacity size → HasPointer (f (back f head step)) 0
listed_pointer capacity f head size step some is lt =
    let left : ℕ = head_index capacity size - step in
    (left, chain_node capacity left (back f head step) f (listed_chain capacity f head size step some is (omega arith)), (omega arith, omega arith, (left, omega arith)))

pub listed_next : (f : Blocks) (head step : ℕ) → pointer_of (f (back f head step)) 0 ≡ back f head (step + 1)
listed_next f head step = back_back f step 1 head

-- ---- the bytes of one node

pub record IsPart (capacity : ℕ) (f : Blocks) (head size index n block : ℕ) : Type 0 where
  pub long : n ≤ length (data_of (f block))
  pub bytes : take n (data_of (f block)) ≡ read_from (body capacity f head size) (index * capacity) n

pub part_of : (capacity : ℕ) (f : Blocks) (head size index n block : ℕ) → 0 < capacity → IsBody capacity f head size → 0 < n → n ≤ capacity → index * capacity + n ≤ size → block ≡ back f head ((size - 1) / capacity - index) → IsPart capacity f head size index n block
part_of capacity f head size index n block least is some fits within found =
    let end : ℕ = index * capacity + n in
    let last : (end - 1) / capacity ≡ index = index_at capacity index n end some fits refl in
    let at : block ≡ back f head ((size - 1) / capacity - (end - 1) / capacity) = found ∙ ap (λ (i : ℕ). back f head ((size - 1) / capacity - i)) (sym last) in
    let range : IsRange capacity f head size (index * capacity) end block = range_found capacity capacity f head size (index * capacity) end block refl least (omega arith) within is at in
    let chain : IsChain capacity f index block = subst (λ (i : ℕ). IsChain capacity f i block) last range.chain in
    let long : end ≤ length (data_to f index block) = subst (λ (i : ℕ). end ≤ length (data_to f i block)) last range.within in
    let split = data_split capacity f index block chain in
    let count : end - index * capacity ≡ n = omega arith in
    let own : drop (index * capacity) (data_to f index block) ≡ data_of (f block) = ap (drop (index * capacity)) split.parts ∙ drop_at split.front (data_of (f block)) (index * capacity) split.size in
    record {
      long = omega (arith, data_length capacity f index block chain);
      bytes = ap (take n) (sym own) ∙ ap (λ (k : ℕ). take k (drop (index * capacity) (data_to f index block))) (sym count) ∙ ap (λ (i : ℕ). take (end - index * capacity) (drop (index * capacity) (data_to f i block))) (sym last)
          ∙ body_read capacity capacity f head size (index * capacity) n end block refl (omega arith) (omega arith) is range;
    }

-- ---- the bytes that an edit keeps

-- the bytes of a body from a place on, that an edit from `offset` to `end` does not write
abbrev pub AreKept : List ℕ → ℕ → ℕ → ℕ → List ℕ → Type 0
AreKept file start offset end out = (i : ℕ) → i < length out → (start + i < offset) ⊎ (end ≤ start + i) → slice_index out i ≡ slice_index file (start + i)

-- past the end there are zeros
zeros_past : (file out : List ℕ) (start i : ℕ) → out ≡ replicate (length out) 0 → i < length out → length file ≤ start + i → slice_index out i ≡ slice_index file (start + i)
zeros_past file out start i zeros lt past = ap (λ (xs : List ℕ). slice_index xs i) zeros ∙ get_or-replicate (length out) i 0 0 lt ∙ sym (get_or_past file (start + i) 0 past)

pub none_kept : (file out : List ℕ) (start offset end kept : ℕ) → out ≡ replicate (length out) 0 → kept ≡ min (length file - start) (length out) → (kept ≡ 0) ⊎ ((offset ≤ start) × (start + kept ≤ end)) → AreKept file start offset end out
none_kept file out start offset end kept zeros is (inl none) i lt which = zeros_past file out start i zeros lt (omega arith)
none_kept file out start offset end kept zeros is (inr (from, to)) i lt (inl before) = absurd (omega arith)
none_kept file out start offset end kept zeros is (inr (from, to)) i lt (inr past) = zeros_past file out start i zeros lt (omega arith)

pub part_kept : (file out part : List ℕ) (start offset end kept : ℕ) → out ≡ replicate (length out) 0 → kept ≡ min (length file - start) (length out) → kept ≤ length part → take kept part ≡ read_from file start kept
    → (i : ℕ) → i < length out → (start + i < offset) ⊎ (end ≤ start + i) → slice_index (take kept part ++ drop kept out) i ≡ slice_index file (start + i)
part_kept file out part start offset end kept zeros is long bytes i lt which = on (cases_lt i kept)
  where
    size : length (take kept part) ≡ kept
    size = length-take-le kept part long

    on : (i < kept) ⊎ (kept ≤ i) → slice_index (take kept part ++ drop kept out) i ≡ slice_index file (start + i)
    on (inl within) =
        get_or_append_left (take kept part) (drop kept out) 0 i (omega (arith, size)) ∙ ap (λ (xs : List ℕ). slice_index xs i) bytes
        ∙ get_or-take kept (drop start file) i 0 within ∙ get_or-drop start file i 0
    on (inr past) =
        let there : kept + (i - kept) ≡ i = omega arith in
        get_or-append_right (take kept part) (drop kept out) kept i 0 size past ∙ get_or-drop kept out (i - kept) 0 ∙ ap (slice_index out) there
        ∙ zeros_past file out start i zeros lt (omega arith)

-- ---- the bytes that are written over them

pub overlaid_edit : (file mid out bytes : List ℕ) (start offset size : ℕ) → length out ≡ length mid → AreKept file start offset (offset + length bytes) mid
    → ((i : ℕ) → i < length mid → slice_index out i ≡ byte_after mid start offset bytes (start + i)) → start + length mid ≤ size → out ≡ read_from (edited file offset bytes size) start (length mid)
overlaid_edit file mid out bytes start offset size same kept put fits =
    let count : length (read_from whole start (length mid)) ≡ length mid = length-take-le (length mid) (drop start whole) (omega (arith, length-drop start whole, edited_length file offset bytes size)) in
    ext_get_or 0 out (read_from whole start (length mid)) (same ∙ sym count) (λ i lt. each i (omega (arith, same)))
  where
    whole : List ℕ
    whole = edited file offset bytes size

    byte_is : (i : ℕ) → i < length mid → (start + i < offset) ⊎ (offset ≤ start + i) → (start + i < offset + length bytes) ⊎ (offset + length bytes ≤ start + i) → byte_after mid start offset bytes (start + i) ≡ byte_of file offset bytes (start + i)
    byte_is i lt (inl before) other = let e : start + i - start ≡ i = omega arith in kept_before (start + i) before ∙ ap (slice_index mid) e ∙ kept i lt (inl before) ∙ sym (own_before (start + i) before)
      where
        kept_before : (place : ℕ) → place < offset → byte_after mid start offset bytes place ≡ slice_index mid (place - start)
        kept_before place lt = grind (arith, nat_tests)

        own_before : (place : ℕ) → place < offset → byte_of file offset bytes place ≡ get_or file place 0
        own_before place lt = grind (arith, nat_tests)
    byte_is i lt (inr from) (inl within) = put_within (start + i) from within ∙ sym (own_within (start + i) from within)
      where
        put_within : (place : ℕ) → offset ≤ place → place < offset + length bytes → byte_after mid start offset bytes place ≡ slice_index bytes (place - offset)
        put_within place le lt = grind (arith, nat_tests)

        own_within : (place : ℕ) → offset ≤ place → place < offset + length bytes → byte_of file offset bytes place ≡ get_or bytes (place - offset) 0
        own_within place le lt = grind (arith, nat_tests)
    byte_is i lt (inr from) (inr past) = let e : start + i - start ≡ i = omega arith in kept_past (start + i) past ∙ ap (slice_index mid) e ∙ kept i lt (inr past) ∙ sym (own_past (start + i) past)
      where
        kept_past : (place : ℕ) → offset + length bytes ≤ place → byte_after mid start offset bytes place ≡ slice_index mid (place - start)
        kept_past place le = grind (arith, nat_tests)

        own_past : (place : ℕ) → offset + length bytes ≤ place → byte_of file offset bytes place ≡ get_or file place 0
        own_past place le = grind (arith, nat_tests)

    each : (i : ℕ) → i < length mid → get_or out i 0 ≡ get_or (read_from whole start (length mid)) i 0
    each i lt =
        put i lt ∙ byte_is i lt (cases_lt (start + i) offset) (cases_lt (start + i) (offset + length bytes)) ∙ sym (edited_at file offset bytes size (start + i) (omega arith))
        ∙ sym (get_or-take (length mid) (drop start whole) i 0 lt ∙ get_or-drop start whole i 0)

-- bytes put over a part of others
pub put_over : (old bytes part : List ℕ) (start offset from to i : ℕ) → from ≡ max start offset → to ≡ min (start + length old) (offset + length bytes) → from < to → part ≡ take (to - from) (drop (from - offset) bytes) → i < length old
    → slice_index (take (from - start) old ++ (part ++ drop (to - start) old)) i ≡ byte_after old start offset bytes (start + i)
put_over old bytes part start offset from to i from_is to_is lt is within = on (cases_lt i (from - start)) (cases_lt i (to - start))
  where
    size : length part ≡ to - from
    size = ap length is ∙ length-take-le (to - from) (drop (from - offset) bytes) (omega (arith, length-drop (from - offset) bytes))

    front : length (take (from - start) old) ≡ from - start
    front = length-take-le (from - start) old (omega arith)

    e : start + i - start ≡ i
    e = omega arith

    outside : (place : ℕ) → (place < offset) ⊎ (offset + length bytes ≤ place) → byte_after old start offset bytes place ≡ slice_index old (place - start)
    outside place (inl before) = grind (arith, nat_tests)
    outside place (inr past) = grind (arith, nat_tests)

    inside : (place : ℕ) → offset ≤ place → place < offset + length bytes → byte_after old start offset bytes place ≡ slice_index bytes (place - offset)
    inside place le lt = grind (arith, nat_tests)

    on : (i < from - start) ⊎ (from - start ≤ i) → (i < to - start) ⊎ (to - start ≤ i) → slice_index (take (from - start) old ++ (part ++ drop (to - start) old)) i ≡ byte_after old start offset bytes (start + i)
    on (inl before) other =
        get_or_append_left (take (from - start) old) (part ++ drop (to - start) old) 0 i (omega (arith, front)) ∙ get_or-take (from - start) old i 0 before ∙ ap (slice_index old) (sym e)
        ∙ sym (outside (start + i) (inl (omega arith)))
    on (inr past) (inl in_part) =
        let k : ℕ = i - (from - start) in
        let there : from - offset + k ≡ start + i - offset = omega arith in
        get_or-append_right (take (from - start) old) (part ++ drop (to - start) old) (from - start) i 0 front past ∙ get_or_append_left part (drop (to - start) old) 0 k (omega (arith, size))
        ∙ ap (λ (xs : List ℕ). slice_index xs k) is ∙ get_or-take (to - from) (drop (from - offset) bytes) k 0 (omega arith) ∙ get_or-drop (from - offset) bytes k 0 ∙ ap (slice_index bytes) there
        ∙ sym (inside (start + i) (omega arith) (omega arith))
    on (inr past) (inr after) =
        let k : ℕ = i - (from - start) in
        let there : to - start + (k - (to - from)) ≡ start + i - start = omega arith in
        get_or-append_right (take (from - start) old) (part ++ drop (to - start) old) (from - start) i 0 front past ∙ get_or-append_right part (drop (to - start) old) (to - from) k 0 size (omega arith)
        ∙ get_or-drop (to - start) old (k - (to - from)) 0 ∙ ap (slice_index old) there ∙ sym (outside (start + i) (inr (omega arith)))
