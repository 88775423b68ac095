-- Bodies while nodes are written: what is held stays, and a body grows by a node.
use Rattle.std.proofs.Common.{◌≡◌, ℕ, zero, suc, ◌+◌, ◌-◌, ◌*◌, ◌^◌, ◌/◌, ◌%◌, ◌<◌, ◌≤◌, min, ◌⊎◌, inl, inr, Bool, true, false, Option, Some, None, List, [], ◌∷◌, ◌++◌, length, slice_index, take, drop, if◌then◌else◌, ◌==◌, refl, sym, ap, subst, ◌∙◌, arith, suc-mul}
use Rattle.std.proofs.lemmas.List.{take_all, take_min, length-take-le, length-drop}
use Rattle.std.proofs.lemmas.Nat.{mul-le, le-div, div-add-mod', mod_below}
use Rattle.std.proofs.Math.Seq.{take-add}
use Rattle.fs_types.specs.Names.{Path}
use Rattle.plain_trees.specs.Contents.{Entry, read_from}
use Rattle.node_format.specs.Headers.{field, body_header, body_magic, IsNode}
use Rattle.node_format.specs.BodyNodes.{IsBodySpelling, HasSlot}
use Rattle.node_format.specs.declared.place.Place.TheVariants.{Dir, File}
use Rattle.nodes.specs.Bodies.{Blocks, index_of, data_of, head_index, body, IsChain, IsBody, back, pointer_of}
use Rattle.nodes.specs.Trees.{leads, HasTree, IsWholePlace}
use Rattle.nodes.specs.Reached.{Reached, IsHeld, Keeps, PlaceNames}
use Rattle.nodes.proofs.Entries.{place_is}
use Rattle.nodes.proofs.Frames.{frame_law}
use Rattle.nodes.proofs.Reaching.{reached_own, reached_below, before_named}
use Rattle.nodes.proofs.Bodies.{chain_node}
use Rattle.tree_edits.specs.declared.file_body.Body.{Body}
use Rattle.tree_edits.specs.declared.change.Change.{Change}
use Rattle.tree_edits.specs.declared.body_start.Start.{Start}
use Rattle.tree_edits.specs.Reading.{AreBlocks, HoldsBody}
use Rattle.tree_edits.specs.Writing.{slot_before, AreLinked, IsBodyFront, IsGrown, IsWritten, HoldsIndex, HoldsPart, BodyOnlyReaches, BeginsChange, IsStored}
use Rattle.tree_edits.proofs.Fronts.{has_head}
use Rattle.tree_edits.proofs.Parts.{data_length}
use Rattle.tree_edits.proofs.Appended.{IsNext, IsAppended, append_node, index_at, divides_least}
use Rattle.tree_edits.proofs.NodeBytes.{data_fits}

-- ---- what is held stays

file_tree : (capacity : ℕ) (f : Blocks) (head size : ℕ) → IsBody capacity f head size → HasTree capacity f (File head size) 0
file_tree capacity f head size is [] (Dir block) leads = absurd cc
file_tree capacity f head size is [] (File other length) leads = (subst (IsWholePlace capacity f) (place_is (File head size) (File other length) leads) is, omega arith)
file_tree capacity f head size is (n ∷ path) at leads = absurd cc

shown_bytes : (x y : List ℕ) → (let a : Option Entry = Some (Entry.File x) in let b : Option Entry = Some (Entry.File y) in a ≡ b) → x ≡ y
shown_bytes x y e = cc

-- a held body stays: whole, with its bytes, held, and reaching nothing new
pub record Stays (capacity : ℕ) (old new : Blocks) (kept' : ℕ → Bool) (head size : ℕ) : Type 0 where
  pub whole : IsBody capacity new head size
  pub shown : body capacity new head size ≡ body capacity old head size
  pub held : IsHeld new kept' (File head size)
  pub reached : 0 < size → (b : ℕ) → Reached new (head ∷ []) b → Reached old (head ∷ []) b

pub body_stays : (capacity : ℕ) (old new : Blocks) (kept kept' : ℕ → Bool) (head size : ℕ) → Keeps kept old kept' new → IsBody capacity old head size → IsHeld old kept (File head size) → Stays capacity old new kept' head size
body_stays capacity old new kept kept' head size keeps is held =
    let law = frame_law old new kept kept' keeps in
    let was = file_tree capacity old head size is in
    record {
      whole = (law.shape capacity 0 (File head size) held was [] (File head size) refl).0;
      shown = let same = law.same capacity 0 (File head size) held was in shown_bytes (body capacity new head size) (body capacity old head size) (ap (λ (t : Path → Option Entry). t []) same);
      held = law.held (File head size) held;
      reached = λ some b r. law.reached head b (λ root is block below. held root (some, is) block below) r;
    }

-- and after reads alone, which change no node
pub holds_later : (limit limit' capacity : ℕ) (f f' : Blocks) (of : Body) → limit' ≡ limit → f' ≡ f → HoldsBody limit f capacity of → HoldsBody limit' f' capacity of
holds_later limit limit' capacity f f' of same_limit same_nodes holds = record {
  capacity_is = holds.capacity_is ∙ ap (λ (n : ℕ). n - body_header) (sym same_limit);
  least = holds.least;
  whole = subst (λ (h : Blocks). IsBody capacity h of.head of.length) (sym same_nodes) holds.whole;
}

pub stored_later : (capacity head size : ℕ) (f f' : Blocks) (kept kept' : ℕ → Bool) → f' ≡ f → kept' ≡ kept → IsStored capacity f kept head size → IsStored capacity f' kept' head size
stored_later capacity head size f f' kept kept' same_nodes same_kept is =
    subst (λ (h : Blocks). IsStored capacity h kept' head size) (sym same_nodes) (subst (λ (k : ℕ → Bool). IsStored capacity f k head size) (sym same_kept) is)

pub start_later : (f f' : Blocks) {change : Change} {end : ℕ} {start : Start} → f' ≡ f → BeginsChange f change end start → BeginsChange f' change end start
start_later f f' {change} {end} {start} same is = subst (λ (h : Blocks). BeginsChange h change end start) (sym same) is

-- so do the nodes before a held one
pub back_stays : (capacity : ℕ) (old new : Blocks) (kept kept' : ℕ → Bool) → Keeps kept old kept' new → (i n block : ℕ) → n ≤ i → IsChain capacity old i block → ((b : ℕ) → Reached old (block ∷ []) b → kept b ≡ true) → back new block n ≡ back old block n
back_stays capacity old new kept kept' keeps i zero block le chain held = refl
back_stays capacity old new kept kept' keeps zero (suc n) block le chain held = absurd (omega arith)
back_stays capacity old new kept kept' keeps (suc i) (suc n) block le chain held =
    let before = pointer_of (old block) 0 in
    ap (λ (node : Option (List ℕ)). back new (pointer_of node 0) n) (keeps.same block (held block (reached_own old block)))
    ∙ back_stays capacity old new kept kept' keeps i n before (omega arith) chain.2 (λ b reached. held b (reached_below old block before (before_named old i block chain.0) reached))

-- so do the blocks of its last nodes
pub blocks_stay : (capacity : ℕ) (old new : Blocks) (kept kept' : ℕ → Bool) (head size : ℕ) (blocks : List ℕ) → Keeps kept old kept' new → IsBody capacity old head size → IsHeld old kept (File head size)
    → length blocks ≤ head_index capacity size + 1 → AreBlocks old head blocks → AreBlocks new head blocks
blocks_stay capacity old new kept kept' head zero blocks keeps is held few listed k lt = listed k lt ∙ sym (none_back k (omega arith))
  where
    none_back : (k : ℕ) → k < 1 → back new head k ≡ back old head k
    none_back zero lt = refl
    none_back (suc k) lt = absurd (omega arith)
blocks_stay capacity old new kept kept' head (suc n) blocks keeps is held few listed k lt =
    listed k lt ∙ sym (back_stays capacity old new kept kept' keeps (head_index capacity (suc n)) k head (omega arith) is.0 (held head (omega arith, refl)))

-- ---- one node more

pub product_some : (capacity i : ℕ) → 0 < capacity → 0 < i → 0 < i * capacity
product_some capacity zero least some = absurd (omega arith)
product_some capacity (suc i) least some = omega (arith, suc-mul i capacity)

-- the nodes of a body of full nodes are linked
pub are_linked : (capacity : ℕ) (f : Blocks) (head i : ℕ) → 0 < capacity → IsBody capacity f head (i * capacity) → AreLinked capacity f head i
are_linked capacity f head zero least is = tt
are_linked capacity f head (suc i) least is =
    let index : head_index capacity (suc i * capacity) ≡ i = index_at capacity i capacity (suc i * capacity) least (omega arith) (omega (arith, suc-mul i capacity)) in
    let h = has_head capacity f i head (suc i * capacity) (product_some capacity (suc i) least (omega arith)) index is in
    (h.chain, h.linked)

slots_stay : (capacity : ℕ) (old new : Blocks) (kept kept' : ℕ → Bool) (head i : ℕ) → Keeps kept old kept' new → AreLinked capacity old head i → (0 < i → (b : ℕ) → Reached old (head ∷ []) b → kept b ≡ true)
    → (x : ℕ) → HasSlot i x → slot_before old head x ≡ slot_before new head x
slots_stay capacity old new kept kept' head zero keeps linked held x has = absurd (omega (arith, has.1))
slots_stay capacity old new kept kept' head (suc i) keeps linked held x has =
    sym (back_stays capacity old new kept kept' keeps i (2 ^ x - 1) head (omega (arith, divides_least x (suc i) has.1 has.2)) linked.0 (held has.1))

pub grown : (capacity : ℕ) (old new : Blocks) (kept kept' : ℕ → Bool) (head i next : ℕ) (bytes : List ℕ) → Keeps kept old kept' new → IsBody capacity old head (i * capacity) → IsHeld old kept (File head (i * capacity))
    → (0 < i → length (data_of (old head)) ≡ capacity) → 0 < length bytes → length bytes ≤ capacity → IsNext old new head i next bytes → HoldsIndex (new next) i bytes → kept next ≡ false → kept' next ≡ true → IsGrown capacity old new kept kept' head i next bytes
grown capacity old new kept kept' head i next bytes keeps whole held full some fits node holds was_free is_kept =
    record {
      whole = more.whole;
      shown = more.shown ∙ ap (λ (front : List ℕ). front ++ bytes) stays.shown;
      held = λ root names b r. all_kept b (more.reached b (subst (λ (n : ℕ). Reached new (n ∷ []) b) (sym names.1) r));
      fresh = was_free;
      node = holds;
      reached = λ b r. before b (more.reached b r);
    }
  where
    stays : Stays capacity old new kept' head (i * capacity)
    stays = body_stays capacity old new kept kept' head (i * capacity) keeps whole held

    size : 0 < i → 0 < i * capacity
    size below = product_some capacity i (omega arith) below

    same_head : 0 < i → new head ≡ old head
    same_head below = keeps.same head (held head (size below, refl) head (reached_own old head))

    more : IsAppended capacity new head i next bytes
    more = append_node capacity new head i next bytes some fits stays.whole (λ below. ap (λ (n : Option (List ℕ)). length (data_of n)) (same_head below) ∙ full below) (record {
      index = node.index;
      bytes = node.bytes;
      slots = λ x has. node.slots x has
          ∙ slots_stay capacity old new kept kept' head i keeps (are_linked capacity old head i (omega arith) whole) (λ there b reached. held head (size there, refl) b reached) x has;
    })

    all_kept : (b : ℕ) → (next ≡ b) ⊎ ((0 < i) × Reached new (head ∷ []) b) → kept' b ≡ true
    all_kept b (inl here) = ap kept' (sym here) ∙ is_kept
    all_kept b (inr (below, reached)) = stays.held head (size below, refl) b reached

    before : (b : ℕ) → (next ≡ b) ⊎ ((0 < i) × Reached new (head ∷ []) b) → (next ≡ b) ⊎ ((0 < i) × Reached old (head ∷ []) b)
    before b (inl here) = inl here
    before b (inr (below, reached)) = inr (below, stays.reached (size below) b reached)

-- the node of a block from the bytes that were written
pub is_next : (old new : Blocks) (head i next : ℕ) (pointers bytes node : List ℕ) → new next ≡ Some node → IsBodySpelling node i pointers bytes
    → ((x : ℕ) → HasSlot i x → slice_index pointers x ≡ slot_before old head x) → IsNext old new head i next bytes
is_next old new head i next pointers bytes node is spelled slots = record {
  index = ap index_of is ∙ found (field node 0) spelled.node.magic ∙ ap (λ (n : ℕ). Some n) spelled.index_is;
  bytes = ap data_of is ∙ spelled.data_is;
  slots = λ x has. ap (λ (n : Option (List ℕ)). pointer_of n x) is ∙ (spelled.slots x has.0).pointer has ∙ slots x has;
}
  where
    found : (magic : ℕ) → magic ≡ body_magic → (if magic == body_magic then Some (field node 4) else None) ≡ Some (field node 4)
    found magic e = ap (λ (m : ℕ). if m == body_magic then Some (field node 4) else None) e

-- the head of a body of full nodes is full
pub is_full : (capacity : ℕ) (f : Blocks) (head i : ℕ) → 0 < capacity → IsBody capacity f head (i * capacity) → length (data_of (f head)) ≤ capacity → 0 < i → length (data_of (f head)) ≡ capacity
is_full capacity f head zero least is fits some = absurd (omega arith)
is_full capacity f head (suc i) least is fits some =
    let index : head_index capacity (suc i * capacity) ≡ i = index_at capacity i capacity (suc i * capacity) least (omega arith) (omega (arith, suc-mul i capacity)) in
    let h = has_head capacity f i head (suc i * capacity) (product_some capacity (suc i) least some) index is in
    omega (arith, h.long, data_length capacity f i head h.chain, suc-mul i capacity)

pub head_full : (block capacity : ℕ) (f : Blocks) (head i : ℕ) → capacity ≡ block - body_header → 0 < capacity → IsBody capacity f head (i * capacity) → ((bytes : List ℕ) → f head ≡ Some bytes → IsNode block bytes) → 0 < i → length (data_of (f head)) ≡ capacity
head_full block capacity f head zero capacity_is least is whole some = absurd (omega arith)
head_full block capacity f head (suc i) capacity_is least is whole some =
    let fits = data_fits block (f head) i whole (chain_node capacity i head f (are_linked capacity f head (suc i) least is).0) in
    is_full capacity f head (suc i) least is (omega arith) some

-- ---- a body made node by node

-- the first bytes of what is wanted stand in a body that reaches what the old one did, and blocks that were
-- not kept, with their parts
pub record IsBegun (capacity : ℕ) (f0 : Blocks) (kept0 : ℕ → Bool) (from : Body) (bytes : List ℕ) (f : Blocks) (kept : ℕ → Bool) (head size : ℕ) : Type 0 where
  pub whole : IsBody capacity f head size
  pub shown : body capacity f head size ≡ take size bytes
  pub held : IsHeld f kept (File head size)
  pub reached : 0 < size → (b : ℕ) → Reached f (head ∷ []) b → ((0 < from.length) × Reached f0 (from.head ∷ []) b) ⊎ ((kept0 b ≡ false) × HoldsPart capacity bytes (f b))

-- the nodes of the old body before the edit
pub begun_front : (capacity : ℕ) (f : Blocks) (kept : ℕ → Bool) (from : Body) (bytes : List ℕ) (front size : ℕ) → size ≤ from.length → IsHeld f kept (File from.head from.length)
    → IsBodyFront capacity f from.head from.length front size → take size bytes ≡ take size (body capacity f from.head from.length) → IsBegun capacity f kept from bytes f kept front size
begun_front capacity f kept from bytes front size le held is same = record {
  whole = is.whole;
  shown = is.shown ∙ sym same;
  held = λ root names b r. held from.head (omega (arith, names.0), refl) b (is.reached names.0 b (subst (λ (n : ℕ). Reached f (n ∷ []) b) (sym names.1) r));
  reached = λ some b r. inl (omega arith, is.reached some b r);
}

-- one node more
pub begun_more : (capacity : ℕ) (f0 f f' : Blocks) (kept0 kept kept' : ℕ → Bool) (from : Body) (bytes : List ℕ) (head i next : ℕ) (chunk : List ℕ) (count size : ℕ) → 0 < capacity
    → Keeps kept f kept' f' → IsBegun capacity f0 kept0 from bytes f kept head (i * capacity) → IsGrown capacity f f' kept kept' head i next chunk → ((b : ℕ) → kept b ≡ false → kept0 b ≡ false)
    → chunk ≡ take count (drop (i * capacity) bytes) → chunk ≡ read_from bytes (i * capacity) capacity → length chunk ≡ count → size ≡ i * capacity + count → IsBegun capacity f0 kept0 from bytes f' kept' next size
begun_more capacity f0 f f' kept0 kept kept' from bytes head i next chunk count size least keeps begun more was chunk_is part counted size_is =
    let long : i * capacity + length chunk ≡ size = omega arith in
    let added : i * capacity + count ≡ size = omega arith in
    record {
      whole = subst (IsBody capacity f' next) long more.whole;
      shown = ap (body capacity f' next) (sym long) ∙ more.shown ∙ ap (λ (front : List ℕ). front ++ chunk) begun.shown ∙ ap (λ (rest : List ℕ). take (i * capacity) bytes ++ rest) chunk_is
          ∙ sym (take-add (i * capacity) count bytes) ∙ ap (λ (n : ℕ). take n bytes) added;
      held = subst (λ (n : ℕ). IsHeld f' kept' (File next n)) long more.held;
      reached = λ some b r. on b (more.reached b r);
    }
  where
    again : (b : ℕ) → f' b ≡ f b → ((0 < from.length) × Reached f0 (from.head ∷ []) b) ⊎ ((kept0 b ≡ false) × HoldsPart capacity bytes (f b))
        → ((0 < from.length) × Reached f0 (from.head ∷ []) b) ⊎ ((kept0 b ≡ false) × HoldsPart capacity bytes (f' b))
    again b same (inl old) = inl old
    again b same (inr (free, holds)) = inr (free, subst (HoldsPart capacity bytes) (sym same) holds)

    on : (b : ℕ) → (next ≡ b) ⊎ ((0 < i) × Reached f (head ∷ []) b) → ((0 < from.length) × Reached f0 (from.head ∷ []) b) ⊎ ((kept0 b ≡ false) × HoldsPart capacity bytes (f' b))
    on b (inl here) = inr (was b (ap kept (sym here) ∙ more.fresh), subst (λ (n : ℕ). HoldsPart capacity bytes (f' n)) here (i, subst (HoldsIndex (f' next) i) part more.node))
    on b (inr (below, reached)) =
        let size = product_some capacity i least below in
        again b (keeps.same b (begun.held head (size, refl) b reached)) (begun.reached size b reached)

before_end : (capacity i last size : ℕ) → last * capacity < size → i ≤ last → i * capacity < size
before_end capacity i last size lt le =
    let rows = mul-le i capacity last capacity le (omega arith) in
    omega arith

-- a node that is to be written begins before the end
pub starts_within : (capacity i size : ℕ) → 0 < capacity → 0 < size → i < (size - 1) / capacity + 1 → i * capacity < size
starts_within capacity i size least some lt =
    let last : ℕ = (size - 1) / capacity in
    let below : last * capacity < size = omega (arith, div-add-mod' (size - 1) capacity) in
    before_end capacity i last size below (omega arith)

-- and the node after the last would begin at the end or past it
pub ends_past : (capacity size : ℕ) → 0 < capacity → size ≤ ((size - 1) / capacity + 1) * capacity
ends_past capacity size least =
    let last : ℕ = (size - 1) / capacity in
    let rest : (size - 1) % capacity < capacity = mod_below (size - 1) capacity least in
    let more : (last + 1) * capacity ≡ last * capacity + capacity = omega arith in
    omega (arith, div-add-mod' (size - 1) capacity)

-- the first node that is written is not past the last
pub starts_before : (capacity from size : ℕ) → 0 < capacity → from < size → from / capacity ≤ (size - 1) / capacity
starts_before capacity from size least lt = le-div (from / capacity) (size - 1) capacity least (omega (arith, div-add-mod' from capacity))

pub first_within : (start offset old size : ℕ) → start ≤ min offset old → min offset old < size → (start ≤ offset) × (start ≤ old) × (start ≤ size)
first_within start offset old size le lt = (omega arith, omega arith, omega arith)

pub first_own : (start size : ℕ) → start ≤ size → start ≡ min start size
first_own start size le = omega arith

pub own_first : (start size : ℕ) → start < size → min start size ≡ start
own_first start size lt = omega arith

-- the index after the last ends the bytes
pub all_ends : (capacity i size : ℕ) → 0 < capacity → i ≡ (size - 1) / capacity + 1 → min (i * capacity) size ≡ size
all_ends capacity i size least is =
    let past = ends_past capacity size least in
    let rows : i * capacity ≡ ((size - 1) / capacity + 1) * capacity = ap (λ (n : ℕ). n * capacity) is in
    omega (arith, past, rows)

pub part_length : (bytes : List ℕ) (start count size : ℕ) → length bytes ≡ size → start + count ≤ size → length (take count (drop start bytes)) ≡ count
part_length bytes start count size is fits = length-take-le count (drop start bytes) (omega (arith, length-drop start bytes))

-- one turn: a node of the next bytes more, or of what is left of them
pub turn : (capacity : ℕ) (f0 f f' : Blocks) (kept0 kept kept' : ℕ → Bool) (from : Body) (bytes : List ℕ) (head i next size : ℕ) → 0 < capacity → i * capacity < size → length bytes ≡ size
    → Keeps kept f kept' f' → IsBegun capacity f0 kept0 from bytes f kept head (min (i * capacity) size) → IsGrown capacity f f' kept kept' head i next (take (min capacity (size - i * capacity)) (drop (i * capacity) bytes))
    → ((b : ℕ) → kept b ≡ false → kept0 b ≡ false) → IsBegun capacity f0 kept0 from bytes f' kept' next (min ((i + 1) * capacity) size)
turn capacity f0 f f' kept0 kept kept' from bytes head i next size least within long keeps begun more was =
    let count : ℕ = min capacity (size - i * capacity) in
    let so_far : min (i * capacity) size ≡ i * capacity = omega arith in
    let rows : (i + 1) * capacity ≡ i * capacity + capacity = omega arith in
    let here = subst (IsBegun capacity f0 kept0 from bytes f kept head) so_far begun in
    let counted = part_length bytes (i * capacity) count size long (omega arith) in
    let left : size - i * capacity ≡ length (drop (i * capacity) bytes) = omega (arith, length-drop (i * capacity) bytes) in
    let part = ap (λ (n : ℕ). take (min capacity n) (drop (i * capacity) bytes)) left ∙ take_min capacity (drop (i * capacity) bytes) in
    begun_more capacity f0 f f' kept0 kept kept' from bytes head i next (take count (drop (i * capacity) bytes)) count (min ((i + 1) * capacity) size) least keeps here more was refl part counted (omega arith)

-- what a node more gives, said of the state before a call that only reads
pub grown_from : (capacity : ℕ) (f f' f'' : Blocks) (kept kept' kept'' : ℕ → Bool) (head i next : ℕ) (bytes bytes' : List ℕ) → f' ≡ f → kept' ≡ kept → bytes ≡ bytes'
    → IsGrown capacity f' f'' kept' kept'' head i next bytes → IsGrown capacity f f'' kept kept'' head i next bytes'
grown_from capacity f f' f'' kept kept' kept'' head i next bytes bytes' same_nodes same_kept same more =
    subst (IsGrown capacity f f'' kept kept'' head i next) same
    (subst (λ (k : ℕ → Bool). IsGrown capacity f f'' k kept'' head i next bytes) same_kept (subst (λ (h : Blocks). IsGrown capacity h f'' kept' kept'' head i next bytes) same_nodes more))

-- all of the bytes
pub written_whole : (capacity : ℕ) (f0 f : Blocks) (kept0 kept : ℕ → Bool) (from to : Body) (bytes : List ℕ) → IsBegun capacity f0 kept0 from bytes f kept to.head to.length → to.length ≡ length bytes → IsWritten capacity f kept to bytes
written_whole capacity f0 f kept0 kept from to bytes begun counted = record {
  whole = begun.whole;
  shown = begun.shown ∙ take_all to.length bytes (omega arith);
  held = begun.held;
  counted = counted;
}

pub written_reaches : (capacity : ℕ) (f0 f : Blocks) (kept0 kept : ℕ → Bool) (from to : Body) (bytes : List ℕ) → IsBegun capacity f0 kept0 from bytes f kept to.head to.length → to.length ≡ length bytes → BodyOnlyReaches capacity f0 f kept0 from to
written_reaches capacity f0 f kept0 kept from to bytes begun counted root b names r =
    on (begun.reached names.0 b (subst (λ (n : ℕ). Reached f (n ∷ []) b) (sym names.1) r))
  where
    shown : body capacity f to.head to.length ≡ bytes
    shown = begun.shown ∙ take_all to.length bytes (omega arith)

    on : ((0 < from.length) × Reached f0 (from.head ∷ []) b) ⊎ ((kept0 b ≡ false) × HoldsPart capacity bytes (f b))
        → ((first : ℕ) × PlaceNames (File from.head from.length) first × Reached f0 (first ∷ []) b) ⊎ ((kept0 b ≡ false) × HoldsPart capacity (body capacity f to.head to.length) (f b))
    on (inl (below, reached)) = inl (from.head, (below, refl), reached)
    on (inr (free, holds)) = inr (free, subst (λ (xs : List ℕ). HoldsPart capacity xs (f b)) (sym shown) holds)
