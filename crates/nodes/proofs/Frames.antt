-- Where all that a place reaches is kept, nothing of it changes.
use Rattle.std.proofs.Common.{◌≡◌, ℕ, zero, suc, ◌*◌, ◌^◌, ◌≤◌, Bool, true, Option, Some, None, unwrap_or, List, [], ◌∷◌, ◌++◌, length, map, take, refl, sym, ap, subst, ◌∙◌, arith, suc-mul}
use Rattle.std.specs.Prelude.{Contains}
use Rattle.std.specs.Option.{option_map, option_and_then}
use Rattle.std.specs.List.{flat_map}
use Rattle.std.specs.FinMap.{from_entries}
use Rattle.fs_types.specs.Names.{Name, Path}
use Rattle.plain_trees.specs.Contents.{Entry}
use Rattle.node_format.specs.Items.{Item, named_place}
use Rattle.node_format.specs.declared.place.Place.{Place}
use Rattle.node_format.specs.declared.place.Place.TheVariants.{Dir, File}
use Rattle.node_format.specs.BodyNodes.{HasSlot}
use Rattle.nodes.specs.Bodies.{Blocks, index_of, pointer_of, data_of, back, data_to, head_index, body, IsChain, IsLinked, IsBody}
use Rattle.nodes.specs.Trees.{entries_in, child, leads, entry_at, tree_at, IsWholePlace, HasTree, listed, items_in}
use Rattle.nodes.specs.Chains.{chain}
use Rattle.nodes.specs.Reached.{IsHeld, Keeps, Reached, IsFirst, IsNamed, Names}
use Rattle.nodes.specs.TreeLaws.{FrameLaw, AllFrames}
use Rattle.nodes.proofs.Chains.{chain_frame}
use Rattle.nodes.proofs.Chained.{entry_named, reached_chain}
use Rattle.nodes.proofs.Reaching.{reached_own, reached_below, before_named, held_child, held_leads}

divides_le : (m power n : ℕ) → suc n ≡ m * power → power ≤ suc n
divides_le zero power n e = absurd (omega arith)
divides_le (suc m) power n e = omega (arith, suc-mul m power)

-- lists made of equal parts
flat_map-same : {A : Type 0} (f g : Item → List A) (items : List Item) → ((item : Item) → Contains items item → f item ≡ g item) → flat_map f items ≡ flat_map g items
flat_map-same f g [] same = refl
flat_map-same f g (item ∷ items) same =
    let first : f item ≡ g item = same item (0, omega arith, refl) in
    let rest : flat_map f items ≡ flat_map g items = flat_map-same f g items (λ other inside. same other (suc inside.0, omega (arith, inside.1), inside.2)) in
    λ i. first i ++ rest i

module _ (old new : Blocks) (kept kept' : ℕ → Bool) (keeps : Keeps kept old kept' new) where
  -- all that a block reaches is kept
  abbrev Held : ℕ → Type 0
  Held block = (b : ℕ) → Reached old (block ∷ []) b → kept b ≡ true

  same_node : (block : ℕ) → Held block → new block ≡ old block
  same_node block held = keeps.same block (held block (reached_own old block))

  same_chain : (block : ℕ) → Held block → (entries_in new block ≡ entries_in old block) × (chain new block ≡ chain old block)
  same_chain block held = chain_frame old new block (λ b inside. keeps.same b (held b (reached_chain old block b inside)))

  held_before : (i block : ℕ) → index_of (old block) ≡ Some (suc i) → Held block → Held (pointer_of (old block) 0)
  held_before i block is held b reached = held b (reached_below old block (pointer_of (old block) 0) (before_named old i block is) reached)

  -- ---- bodies

  data_same : (capacity i block : ℕ) → IsChain capacity old i block → Held block → data_to new i block ≡ data_to old i block
  data_same capacity zero block chain held = ap data_of (same_node block held)
  data_same capacity (suc i) block chain held =
      ap (λ (node : Option (List ℕ)). data_to new i (pointer_of node 0) ++ data_of node) (same_node block held)
      ∙ ap (λ (bytes : List ℕ). bytes ++ data_of (old block)) (data_same capacity i (pointer_of (old block) 0) chain.2 (held_before i block chain.0 held))

  chain_same : (capacity i block : ℕ) → IsChain capacity old i block → Held block → IsChain capacity new i block
  chain_same capacity zero block chain held = ap index_of (same_node block held) ∙ chain
  chain_same capacity (suc i) block chain held =
      let before = held_before i block chain.0 held in
      subst (λ (node : Option (List ℕ)). (index_of node ≡ Some (suc i)) × (length (data_of (new (pointer_of node 0))) ≡ capacity) × IsChain capacity new i (pointer_of node 0)) (sym (same_node block held))
      (chain.0, ap (λ (node : Option (List ℕ)). length (data_of node)) (same_node (pointer_of (old block) 0) before) ∙ chain.1, chain_same capacity i (pointer_of (old block) 0) chain.2 before)

  back_same : (capacity i n block : ℕ) → n ≤ i → IsChain capacity old i block → Held block → back new block n ≡ back old block n
  back_same capacity i zero block le chain held = refl
  back_same capacity zero (suc n) block le chain held = absurd (omega arith)
  back_same capacity (suc i) (suc n) block le chain held =
      ap (λ (node : Option (List ℕ)). back new (pointer_of node 0) n) (same_node block held)
      ∙ back_same capacity i n (pointer_of (old block) 0) (omega arith) chain.2 (held_before i block chain.0 held)

  linked_same : (capacity i block : ℕ) → IsChain capacity old i block → Held block → IsLinked old i block → IsLinked new i block
  linked_same capacity zero block chain held linked = tt
  linked_same capacity (suc i) block chain held linked =
      subst (λ (node : Option (List ℕ)). ((x : ℕ) → HasSlot (suc i) x → pointer_of node x ≡ back new block (2 ^ x)) × IsLinked new i (pointer_of node 0)) (sym (same_node block held)) (
        (λ x has. linked.0 x has ∙ sym (back_same capacity (suc i) (2 ^ x) block (divides_le has.2.0 (2 ^ x) i has.2.1) chain held)),
        linked_same capacity i (pointer_of (old block) 0) chain.2 (held_before i block chain.0 held) linked.1,
      )

  body_same : (capacity head size : ℕ) → IsBody capacity old head size → IsHeld old kept (File head size) → body capacity new head size ≡ body capacity old head size
  body_same capacity head zero is held = refl
  body_same capacity head (suc n) is held = ap (take (suc n)) (data_same capacity (head_index capacity (suc n)) head is.0 (held head (omega arith, refl)))

  -- ---- places

  whole_same : (capacity : ℕ) (at : Place) → IsHeld old kept at → IsWholePlace capacity old at → IsWholePlace capacity new at
  whole_same capacity (Dir block) held (items, is) = (items, (same_chain block (held block refl)).0 ∙ is)
  whole_same capacity (File head zero) held is = is
  whole_same capacity (File head (suc n)) held is =
      let below = held head (omega arith, refl) in
      let i = head_index capacity (suc n) in
      let long : suc n ≤ length (data_to new i head) = omega (arith, is.1, ap length (data_same capacity i head is.0 below)) in
      (chain_same capacity i head is.0 below, long, linked_same capacity i head is.0 below is.2)

  entry_same : (capacity : ℕ) (at : Place) → IsHeld old kept at → IsWholePlace capacity old at → entry_at capacity new at ≡ entry_at capacity old at
  entry_same capacity (Dir block) held is = refl
  entry_same capacity (File head size) held is = ap Entry.File (body_same capacity head size is held)

  child_same : (at : Place) (name : Name) → IsHeld old kept at → child new at name ≡ child old at name
  child_same (Dir block) name held = ap (λ (o : Option (List Item)). named_place (unwrap_or o []) name) (same_chain block (held block refl)).0
  child_same (File head size) name held = refl

  pub leads_same : (path : Path) (at : Place) → IsHeld old kept at → leads new at path ≡ leads old at path
  leads_same [] at held = refl
  leads_same (n ∷ path) at held =
      ap (option_and_then (λ next. leads new next path)) (child_same at n held) ∙ on (child old at n) refl (leads_same path)
    where
      on : (o : Option Place) → child old at n ≡ o → ((next : Place) → IsHeld old kept next → leads new next path ≡ leads old next path)
          → option_and_then (λ next. leads new next path) o ≡ option_and_then (λ next. leads old next path) o
      on None is again = refl
      on (Some next) is again = again next (held_child old kept at n next is held)

  -- all that paths lead to from a place is whole
  abbrev Whole : ℕ → Place → Type 0
  Whole capacity at = (path : Path) (place : Place) → leads old at path ≡ Some place → IsWholePlace capacity old place

  pub tree_same : (capacity : ℕ) (at : Place) → IsHeld old kept at → Whole capacity at → (path : Path) → tree_at capacity new at path ≡ tree_at capacity old at path
  tree_same capacity at held whole path = ap (option_map (entry_at capacity new)) (leads_same path at held) ∙ on (leads old at path) refl
    where
      on : (o : Option Place) → leads old at path ≡ o → option_map (entry_at capacity new) o ≡ option_map (entry_at capacity old) o
      on None is = refl
      on (Some place) is = ap Some (entry_same capacity place (held_leads old kept path at place is held) (whole path place is))

  shape_same : (capacity depth : ℕ) (at : Place) → IsHeld old kept at → HasTree capacity old at depth → HasTree capacity new at depth
  shape_same capacity depth at held has path place leads =
      let before = sym (leads_same path at held) ∙ leads in
      let was = has path place before in
      (whole_same capacity place (held_leads old kept path at place before held) was.0, was.1)

  -- ---- what is reached

  pub reached_before : (root : ℕ) → Held root → {b : ℕ} → Reached new (root ∷ []) b → Reached old (root ∷ []) b
  reached_before root held (IsFirst first) = IsFirst first
  reached_before root held (IsNamed {block = before} {next = next} reached names) =
      let earlier = reached_before root held reached in
      IsNamed earlier (subst (λ (node : Option (List ℕ)). Names node next) (keeps.same before (held before earlier)) names)

  held_same : (at : Place) → IsHeld old kept at → IsHeld new kept' at
  held_same at held root names b reached = keeps.stays b (held root names b (reached_before root (held root names) reached))

  -- ---- finite maps

  whole_item : (capacity block : ℕ) (item : Item) → Contains (items_in old block) item → Whole capacity (Dir block) → Whole capacity item.place
  whole_item capacity block item inside whole path place is =
      whole (item.name ∷ path) place (ap (option_and_then (λ next. leads old next path)) (entry_named old block item inside) ∙ is)

  listed_same : (capacity depth : ℕ) (at : Place) → IsHeld old kept at → Whole capacity at → listed capacity new depth at ≡ listed capacity old depth at
  listed_same capacity depth (File head size) held whole = ap (λ (bytes : List ℕ). ([], Entry.File bytes) ∷ []) (body_same capacity head size (whole [] (File head size) refl) held)
  listed_same capacity zero (Dir block) held whole = refl
  listed_same capacity (suc depth) (Dir block) held whole =
      ap (λ (o : Option (List Item)). ([], Entry.Dir) ∷ flat_map (λ item. map (λ e. (item.name ∷ e.0, e.1)) (listed capacity new depth item.place)) (unwrap_or o [])) (same_chain block (held block refl)).0
      ∙ ap (λ (es : List (Path × Entry)). ([], Entry.Dir) ∷ es)
      (flat_map-same (λ item. map (λ e. (item.name ∷ e.0, e.1)) (listed capacity new depth item.place)) (λ item. map (λ e. (item.name ∷ e.0, e.1)) (listed capacity old depth item.place)) (items_in old block)
      (λ item inside. ap (map (λ e. (item.name ∷ e.0, e.1)))
      (listed_same capacity depth item.place (held_child old kept (Dir block) item.name item.place (entry_named old block item inside) held) (whole_item capacity block item inside whole))))

  frame : FrameLaw old new kept kept'
  frame = record {
    held = held_same;
    reached = λ root block held. reached_before root (held root refl);
    shape = shape_same;
    same = λ capacity depth at held has i path. tree_same capacity at held (λ p place is. (has p place is).0) path i;
    roots = λ capacity root held is. ap from_entries (listed_same capacity 16 (Dir root) held (λ p place leads. (is p place leads).0));
  }

pub frame_law : AllFrames
frame_law old new kept kept' keeps = frame old new kept kept' keeps
