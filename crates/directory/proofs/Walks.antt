-- The nodes of a directory read one after the other.
use Rattle.std.proofs.Common.{◌≡◌, ℕ, zero, suc, ◌+◌, ◌-◌, ◌<◌, ◌≤◌, ◌⊎◌, inl, inr, true, false, eqb, List, [], ◌∷◌, ◌++◌, length, refl, sym, ap, subst, ◌∙◌, arith, append_assoc, length-append}
use Rattle.std.specs.Prelude.{Contains}
use Rattle.std.proofs.lemmas.List.Concat.{flat_map-append}
use Rattle.std.proofs.lemmas.List.Elements.{Contains-append_right}
use Rattle.node_format.specs.Items.{Item}
use Rattle.nodes.specs.Bodies.{Blocks}
use Rattle.nodes.specs.Chains.{next_of, link_items, most_after, blocks_after, chain}
use Rattle.directory.specs.Seeking.{entries_along}

-- so many nodes of a directory were read, in these blocks; those that are left are at most so many, from a block on
pub record IsWalk (f : Blocks) (block n next read : ℕ) (front : List ℕ) : Type 0 where
  pub listed : chain f block ≡ front ++ blocks_after n f next
  pub size : length front ≡ read

pub append_none : {A : Type 0} (xs : List A) → xs ++ [] ≡ xs
append_none [] = refl
append_none (x ∷ xs) = ap (λ ys. x ∷ ys) (append_none xs)

pub one_along : (f : Blocks) (block : ℕ) → entries_along f (block ∷ []) ≡ link_items (f block)
one_along f block = append_none (link_items (f block))

pub more_along : (f : Blocks) (front : List ℕ) (next : ℕ) → entries_along f (front ++ next ∷ []) ≡ entries_along f front ++ link_items (f next)
more_along f front next = flat_map-append (λ (b : ℕ). link_items (f b)) front (next ∷ []) ∙ ap (λ (items : List Item). entries_along f front ++ items) (one_along f next)

-- the first node was read
pub walk_begun : (f : Blocks) (block next : ℕ) → next_of (f block) ≡ next → IsWalk f block (most_after - 0) next 1 (block ∷ [])
walk_begun f block next to = record {
  listed = ap (λ (c : ℕ). block ∷ blocks_after most_after f c) to;
  size = refl;
}

listed_more : (f : Blocks) (n next : ℕ) → eqb next 0 ≡ false → blocks_after (suc n) f next ≡ next ∷ blocks_after n f (next_of (f next))
listed_more f n next some = rw some refl

-- one node more
pub walk_on : (f : Blocks) (block n next next' read : ℕ) (front : List ℕ) → IsWalk f block (suc n) next read front → eqb next 0 ≡ false → next_of (f next) ≡ next' → IsWalk f block n next' (read + 1) (front ++ next ∷ [])
walk_on f block n next next' read front w some to = record {
  listed = w.listed ∙ ap (λ (bs : List ℕ). front ++ bs) (listed_more f n next some ∙ ap (λ (c : ℕ). next ∷ blocks_after n f c) to) ∙ sym (append_assoc front (next ∷ []) (blocks_after n f next'));
  size = omega (arith, length-append front (next ∷ []), w.size);
}

-- one node fewer is left
pub walk_less : (f : Blocks) (block counter next read : ℕ) (front : List ℕ) → counter < most_after → IsWalk f block (most_after - counter) next read front → IsWalk f block (suc (most_after - (counter + 1))) next read front
walk_less f block counter next read front less w = let k : most_after - counter ≡ suc (most_after - (counter + 1)) = omega arith in subst (λ (n : ℕ). IsWalk f block n next read front) k w

-- no node is left
pub walk_over : (f : Blocks) (block n next read : ℕ) (front : List ℕ) → IsWalk f block n next read front → (eqb next 0 ≡ true) ⊎ (n ≡ 0) → chain f block ≡ front
walk_over f block n next read front w over = w.listed ∙ ap (λ (bs : List ℕ). front ++ bs) (none n over) ∙ append_none front
  where
    none : (n : ℕ) → (eqb next 0 ≡ true) ⊎ (n ≡ 0) → blocks_after n f next ≡ []
    none zero over = refl
    none (suc n) (inl last) = rw last refl
    none (suc n) (inr at_end) = absurd (omega (arith, at_end))

-- the nodes that were read are some of all
pub walk_most : (f : Blocks) (block n next read : ℕ) (front : List ℕ) → IsWalk f block n next read front → read ≤ length (chain f block)
walk_most f block n next read front w = omega (arith, ap length w.listed, length-append front (blocks_after n f next), w.size)

-- so is the next one
pub walk_more : (f : Blocks) (block n next read : ℕ) (front : List ℕ) → IsWalk f block (suc n) next read front → eqb next 0 ≡ false → read + 1 ≤ length (chain f block)
walk_more f block n next read front w some =
    let more : length (blocks_after (suc n) f next) ≡ suc (length (blocks_after n f (next_of (f next)))) = ap length (listed_more f n next some) in
    omega (arith, ap length w.listed, length-append front (blocks_after (suc n) f next), w.size, more)

pub walk_here : (f : Blocks) (block n next read : ℕ) (front : List ℕ) → IsWalk f block (suc n) next read front → eqb next 0 ≡ false → Contains (chain f block) next
walk_here f block n next read front w some =
    subst (λ (bs : List ℕ). Contains bs next) (sym (w.listed ∙ ap (λ (bs : List ℕ). front ++ bs) (listed_more f n next some)))
    (Contains-append_right front (next ∷ blocks_after n f (next_of (f next))) next (0, omega arith, refl))
