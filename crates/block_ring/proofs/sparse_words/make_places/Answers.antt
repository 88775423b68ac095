use Rattle.std.proofs.Common.{◌≡◌, ℕ, List, length, vec_len, sym, ap, ◌∙◌, arith}
use Rattle.std.specs.Prelude.{slice_index}
use Rattle.std.proofs.lemmas.Bool.{eqb-true}
use Rattle.std.proofs.lemmas.List.{get_or_past, length-replicate}
use Rattle.block_ring.proofs.SparseLists.{zeros_get}
use Rattle.block_ring.proofs.sparse_words.make_places.Goals as goal

pub returns-clause-count : goal.returns-clause-count
returns-clause-count c =
    let zeros = c.in_ok-made.ensures.items_if_clones_equal (λ y same. same) in
    omega (arith, ap length zeros, length-replicate {A = ℕ} c.args.count 0)

pub returns-clause-same : goal.returns-clause-same
returns-clause-same c i =
    let old = c.args.places.now in
    let zeros = c.in_ok-made.ensures.items_if_clones_equal (λ y same. same) in
    let none : length old.items ≡ 0 = omega (arith, eqb-true (vec_len old) 0 (sym c.is_empty.ensures ∙ c.if-not-is_empty.false), old.ok.0) in
    ap (λ (l : List ℕ). slice_index l i) zeros ∙ zeros_get _ i ∙ sym (get_or_past old.items i 0 (omega (arith, none)))
