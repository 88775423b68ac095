-- A node put after the last one of a body.
use Rattle.std.proofs.Common.{◌≡◌, ℕ, zero, suc, ◌+◌, ◌-◌, ◌*◌, ◌/◌, ◌^◌, ◌<◌, ◌≤◌, ◌⊎◌, inl, inr, Option, Some, None, List, [], ◌∷◌, ◌++◌, length, take, refl, sym, ap, subst, ◌∙◌, arith, suc-mul, length-append}
use Rattle.std.proofs.lemmas.List.{take_all}
use Rattle.std.proofs.lemmas.Nat.{pow_pos, div-mul-add}
use Rattle.std.specs.Prelude.{Contains}
use Rattle.nodes.specs.Bodies.{Blocks, index_of, pointer_of, data_of, back, data_to, head_index, body, IsChain, IsLinked, IsBody}
use Rattle.std.specs.Option.{option_map_or}
use Rattle.node_format.specs.Links.{Link}
use Rattle.nodes.specs.Chains.{link_of}
use Rattle.nodes.specs.Reached.{Reached, Names, BodyNames}
use Rattle.nodes.proofs.Entries.{directory_no_index}
use Rattle.nodes.proofs.Reaching.{IsReachedBy, reached_by}
use Rattle.tree_edits.specs.Writing.{slot_before}
use Rattle.tree_edits.proofs.Parts.{data_length}
use Rattle.tree_edits.proofs.Fronts.{reached_back, HasHead, has_head, is_body, body_taken}
use Rattle.node_format.specs.BodyNodes.{Divides, HasSlot}

-- ---- slots

pub power_double : (x : ℕ) → 2 ^ suc x ≡ 2 ^ x + 2 ^ x
power_double x = omega arith

pub divides_least : (x index : ℕ) → 0 < index → Divides x index → 2 ^ x ≤ index
divides_least x index some (zero, e) = absurd (omega arith)
divides_least x index some (suc m, e) = omega (arith, suc-mul m (2 ^ x))

-- ---- one node more

-- the node in a block is the one of this index after a body, whose nodes were there before, and holds this data
pub record IsNext (old f : Blocks) (head i next : ℕ) (chunk : List ℕ) : Type 0 where
  pub index : index_of (f next) ≡ Some i
  pub bytes : data_of (f next) ≡ chunk
  pub slots : (x : ℕ) → HasSlot i x → pointer_of (f next) x ≡ slot_before old head x

pub record IsAppended (capacity : ℕ) (f : Blocks) (head i next : ℕ) (chunk : List ℕ) : Type 0 where
  pub whole : IsBody capacity f next (i * capacity + length chunk)
  pub shown : body capacity f next (i * capacity + length chunk) ≡ body capacity f head (i * capacity) ++ chunk
  pub reached : (b : ℕ) → Reached f (next ∷ []) b → (next ≡ b) ⊎ ((0 < i) × Reached f (head ∷ []) b)

-- the index of the head of a body of so many full nodes and some bytes more
pub index_at : (capacity i more size : ℕ) → 0 < more → more ≤ capacity → size ≡ i * capacity + more → head_index capacity size ≡ i
index_at capacity i more size least most e =
    let before : size - 1 ≡ i * capacity + (more - 1) = omega arith in
    ap (λ (n : ℕ). n / capacity) before ∙ div-mul-add i capacity (more - 1) (omega arith)

-- a body node names what its slots say, and nothing else
named_by : (f : Blocks) (i block b : ℕ) → index_of (f block) ≡ Some i → Names (f block) b → BodyNames (Some i) (pointer_of (f block)) b
named_by f i block b is (inl (item, within, names)) = on (link_of (f block)) refl
  where
    none-in : Contains [] item → ⊥
    none-in (k, below, is) = omega arith

    on : (o : Option Link) → link_of (f block) ≡ o → BodyNames (Some i) (pointer_of (f block)) b
    on None e = absurd (none-in (subst (λ (o : Option Link). Contains (option_map_or (λ l. l.items) o []) item) e within))
    on (Some l) e = let none = directory_no_index (f block) l e in absurd cc
named_by f i block b is (inr (inl names)) = subst (λ (index : Option ℕ). BodyNames index (pointer_of (f block)) b) is names
named_by f i block b is (inr (inr (some, next))) = on (link_of (f block)) refl
  where
    on : (o : Option Link) → link_of (f block) ≡ o → BodyNames (Some i) (pointer_of (f block)) b
    on None e = absurd (let zero_is = ap (λ (o : Option Link). option_map_or (λ l. l.next) o 0) e in omega (arith, some, zero_is))
    on (Some l) e = let none = directory_no_index (f block) l e in absurd cc

module _ (capacity : ℕ) (f : Blocks) (head next : ℕ) (chunk : List ℕ) (some : 0 < length chunk) (fits : length chunk ≤ capacity) where
  append_first : IsNext f f head 0 next chunk → IsAppended capacity f head 0 next chunk
  append_first node =
      let size : 0 * capacity + length chunk ≡ length chunk = omega arith in
      let none : 0 * capacity ≡ 0 = omega arith in
      let has : HasHead capacity f 0 next (0 * capacity + length chunk) = record {
        some = omega arith;
        index = index_at capacity 0 (length chunk) (0 * capacity + length chunk) some fits refl;
        chain = node.index;
        long = omega (arith, ap length node.bytes);
        linked = tt;
      } in
      record {
        whole = is_body capacity f 0 next (0 * capacity + length chunk) has;
        shown = body_taken capacity f 0 next (0 * capacity + length chunk) has ∙ ap (take (0 * capacity + length chunk)) node.bytes ∙ take_all (0 * capacity + length chunk) chunk (omega arith)
            ∙ sym (ap (λ (n : ℕ). body capacity f head n ++ chunk) none);
        reached = λ b r. alone b (reached_by f next r);
      }
    where
      alone : (b : ℕ) → IsReachedBy f next b → (next ≡ b) ⊎ ((0 < 0) × Reached f (head ∷ []) b)
      alone b (inl here) = inl here
      alone b (inr (other, names, reached)) = let own = named_by f 0 next other node.index names in absurd (omega (arith, own.1.1))

  append_more : (i : ℕ) → IsBody capacity f head (suc i * capacity) → length (data_of (f head)) ≡ capacity → IsNext f f head (suc i) next chunk → IsAppended capacity f head (suc i) next chunk
  append_more i whole full node =
      let size : ℕ = suc i * capacity + length chunk in
      let old_index : head_index capacity (suc i * capacity) ≡ i = index_at capacity i capacity (suc i * capacity) (omega arith) (omega arith) (omega (arith, suc-mul i capacity)) in
      let old = has_head capacity f i head (suc i * capacity) (omega (arith, suc-mul i capacity)) old_index whole in
      let back_one : pointer_of (f next) 0 ≡ head = node.slots 0 (omega arith, omega arith, (suc i, omega arith)) in
      let front : length (data_to f i head) ≡ suc i * capacity = omega (arith, data_length capacity f i head old.chain, suc-mul i capacity) in
      let bytes : data_to f (suc i) next ≡ data_to f i head ++ chunk = ap (λ (b : ℕ). data_to f i b ++ data_of (f next)) back_one ∙ ap (λ (d : List ℕ). data_to f i head ++ d) node.bytes in
      let count : length (data_to f (suc i) next) ≡ size = ap length bytes ∙ omega (arith, length-append (data_to f i head) chunk) in
      let chain : IsChain capacity f (suc i) next = (
        node.index,
        ap (λ (b : ℕ). length (data_of (f b))) back_one ∙ full,
        subst (λ (b : ℕ). IsChain capacity f i b) (sym back_one) old.chain,
      ) in
      let has : HasHead capacity f (suc i) next size = record {
        some = omega arith;
        index = index_at capacity (suc i) (length chunk) size some fits refl;
        chain = chain;
        long = omega arith;
        linked = ((λ x has. node.slots x has ∙ stepped x back_one), subst (λ (b : ℕ). IsLinked f i b) (sym back_one) old.linked);
      } in
      record {
        whole = is_body capacity f (suc i) next size has;
        shown = body_taken capacity f (suc i) next size has ∙ take_all size (data_to f (suc i) next) (omega arith) ∙ bytes
            ∙ ap (λ (d : List ℕ). d ++ chunk) (sym (body_taken capacity f i head (suc i * capacity) old ∙ take_all (suc i * capacity) (data_to f i head) (omega arith)));
        reached = λ b r. below old.chain b (reached_by f next r);
      }
    where
      stepped : (x : ℕ) → pointer_of (f next) 0 ≡ head → slot_before f head x ≡ back f next (2 ^ x)
      stepped x back_one =
          let one : suc (2 ^ x - 1) ≡ 2 ^ x = omega (arith, pow_pos x) in
          sym (ap (λ (b : ℕ). back f b (2 ^ x - 1)) back_one) ∙ ap (back f next) one

      below : IsChain capacity f i head → (b : ℕ) → IsReachedBy f next b → (next ≡ b) ⊎ ((0 < suc i) × Reached f (head ∷ []) b)
      below chain b (inl here) = inl here
      below chain b (inr (other, names, reached)) =
          let own = named_by f (suc i) next other node.index names in
          let place : other ≡ slot_before f head own.0 = sym own.2 ∙ node.slots own.0 own.1 in
          let within : 2 ^ own.0 - 1 ≤ i = omega (arith, divides_least own.0 (suc i) (omega arith) own.1.2) in
          inr (omega arith, reached_back capacity f (2 ^ own.0 - 1) i head within chain (subst (λ (r : ℕ). Reached f (r ∷ []) b) place reached))

-- a node after full ones: the body goes on by its data
pub append_node : (capacity : ℕ) (f : Blocks) (head i next : ℕ) (chunk : List ℕ) → 0 < length chunk → length chunk ≤ capacity → IsBody capacity f head (i * capacity) → (0 < i → length (data_of (f head)) ≡ capacity)
    → IsNext f f head i next chunk → IsAppended capacity f head i next chunk
append_node capacity f head zero next chunk some fits whole full node = append_first capacity f head next chunk some fits node
append_node capacity f head (suc i) next chunk some fits whole full node = append_more capacity f head next chunk some fits i whole (full (omega arith)) node
