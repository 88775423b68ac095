-- The nodes of a body, each so many before another.
use Rattle.std.proofs.Common.{◌≡◌, ℕ, zero, suc, ◌+◌, ◌-◌, ◌≤◌, Some, sym, ap, subst, ◌∙◌, arith}
use Rattle.nodes.specs.Bodies.{Blocks, index_of, pointer_of, back, IsChain, IsLinked}

pub back_back : (f : Blocks) (m n block : ℕ) → back f (back f block m) n ≡ back f block (m + n)
back_back f zero n block =
    let e : n ≡ 0 + n = omega arith in
    ap (back f block) e
back_back f (suc m) n block =
    let e : suc m + n ≡ suc (m + n) = omega arith in
    back_back f m n (pointer_of (f block) 0) ∙ ap (back f block) (sym e)

pub chain_node : (capacity i block : ℕ) (f : Blocks) → IsChain capacity f i block → index_of (f block) ≡ Some i
chain_node capacity zero block f chain = chain
chain_node capacity (suc i) block f chain = chain.0

pub chain_back : (capacity : ℕ) (f : Blocks) (n i block : ℕ) → n ≤ i → IsChain capacity f i block → IsChain capacity f (i - n) (back f block n)
chain_back capacity f zero i block le chain = subst (λ (k : ℕ). IsChain capacity f k block) (omega arith) chain
chain_back capacity f (suc n) zero block le chain = absurd (omega arith)
chain_back capacity f (suc n) (suc i) block le chain =
    let e : i - n ≡ suc i - suc n = omega arith in
    subst (λ (k : ℕ). IsChain capacity f k (back f (pointer_of (f block) 0) n)) e (chain_back capacity f n i (pointer_of (f block) 0) (omega arith) chain.2)

pub linked_back : (f : Blocks) (n i block : ℕ) → n ≤ i → IsLinked f i block → IsLinked f (i - n) (back f block n)
linked_back f zero i block le linked = subst (λ (k : ℕ). IsLinked f k block) (omega arith) linked
linked_back f (suc n) zero block le linked = absurd (omega arith)
linked_back f (suc n) (suc i) block le linked =
    let e : i - n ≡ suc i - suc n = omega arith in
    subst (λ (k : ℕ). IsLinked f k (back f (pointer_of (f block) 0) n)) e (linked_back f n i (pointer_of (f block) 0) (omega arith) linked.1)
