-- A known node of a body: its chain, and what is found from it.
use Rattle.std.proofs.Common.{◌≡◌, ℕ, ◌+◌, ◌-◌, ◌<◌, ◌≤◌, Some, Result, sym, ap, subst, ◌∙◌, arith}
use Rattle.std.specs.Option.{ForSome}
use Rattle.std.specs.Prelude.{IfOk}
use Rattle.std.proofs.lemmas.Result.{IfOk-weaker}
use Rattle.fs_types.specs.declared.fault.Fault.{Fault}
use Rattle.nodes.specs.Bodies.{Blocks, back, head_index, IsBody, IsChain, IsLinked}
use Rattle.nodes.proofs.Bodies.{back_back, chain_back, linked_back}
use Rattle.tree_edits.specs.declared.file_body.Body.{Body}
use Rattle.tree_edits.specs.declared.known_node.KnownNode.{KnownNode}
use Rattle.tree_edits.specs.Reading.{HasDigits, IsNodeOf}
use Rattle.tree_edits.proofs.Parts.{whole_body}

module _ (capacity : ℕ) (f : Blocks) (body : Body) (node : KnownNode) (has : IsNodeOf capacity f body node) where
  abbrev last : ℕ
  last = head_index capacity body.length

  here : last - (last - node.index) ≡ node.index
  here = let within = has.within in omega arith

  -- the nodes before it
  pub known_chain : 0 < body.length → IsBody capacity f body.head body.length → IsChain capacity f node.index node.block
  known_chain some is =
      let whole = whole_body capacity f body.head body.length some is in
      subst (λ (b : ℕ). IsChain capacity f node.index b) (sym has.there)
      (subst (λ (k : ℕ). IsChain capacity f k (back f body.head (last - node.index))) here (chain_back capacity f (last - node.index) last body.head (omega arith) whole.chain))

  pub known_linked : 0 < body.length → IsBody capacity f body.head body.length → IsLinked f node.index node.block
  known_linked some is =
      let whole = whole_body capacity f body.head body.length some is in
      subst (λ (b : ℕ). IsLinked f node.index b) (sym has.there)
      (subst (λ (k : ℕ). IsLinked f k (back f body.head (last - node.index))) here (linked_back f (last - node.index) last body.head (omega arith) whole.linked))

  -- what is found from it is so far from the head
  from_head : (index block : ℕ) → index ≤ node.index → block ≡ back f node.block (node.index - index) → block ≡ back f body.head (last - index)
  from_head index block before found =
      let within = has.within in
      let far : (last - node.index) + (node.index - index) ≡ last - index = omega arith in
      found ∙ ap (λ (b : ℕ). back f b (node.index - index)) has.there ∙ back_back f (last - node.index) (node.index - index) body.head ∙ ap (back f body.head) far

  pub found_from_head : (index : ℕ) (result : Result ℕ Fault) → index ≤ node.index → IfOk result (λ block. block ≡ back f node.block (node.index - index)) → IfOk result (λ block. block ≡ back f body.head (last - index))
  found_from_head index result before found =
      IfOk-weaker result (λ (block : ℕ). block ≡ back f node.block (node.index - index)) (λ (block : ℕ). block ≡ back f body.head (last - index)) (λ block. from_head index block before) found

  -- its index has no more digits
  pub known_digits : (digits : ℕ) → HasDigits last digits → HasDigits node.index digits
  known_digits digits small = let within = has.within in (small.0, omega (arith, small.1))

-- the node that was found is one of the body
pub found_node : (capacity capacity' : ℕ) (f : Blocks) (body : Body) (index block : ℕ) → capacity' ≡ capacity → index ≤ head_index capacity' body.length → block ≡ back f body.head (head_index capacity' body.length - index)
    → ForSome (Some (record { index = index; block = block })) (IsNodeOf capacity f body)
found_node capacity capacity' f body index block same within there node is =
    subst (IsNodeOf capacity f body) (some_same (record { index = index; block = block }) node is)
    (record {
      within = subst (λ (r : ℕ). index ≤ head_index r body.length) same within;
      there = subst (λ (r : ℕ). block ≡ back f body.head (head_index r body.length - index)) same there;
    })
  where
    some_same : (a b : KnownNode) → Some a ≡ Some b → a ≡ b
    some_same a b e = cc
