-- The bytes of a file are those of its nodes, from the first one on.
use Rattle.std.proofs.Common.{◌≡◌, ◌∙◌, ℕ, zero, suc, ◌<◌, List, [], ◌∷◌, ◌++◌, take, refl, sym, ap, arith}
use Rattle.std.specs.Prelude.{reverse}
use Rattle.std.specs.List.{flat_map}
use Rattle.std.proofs.lemmas.List.{append-nil, append_assoc, reverse-append}
use Rattle.std.proofs.lemmas.List.Concat.{flat_map-append}
use Rattle.nodes.specs.Bodies.{Blocks, body, data_of, data_to, head_index, pointer_of}
use Rattle.known_nodes.specs.FileBytes.{blocks_back, data_in}

pub data_back : (f : Blocks) (i block : ℕ) → flat_map (data_in f) (reverse (blocks_back f i block)) ≡ data_to f i block
unfolding blocks_back
data_back f zero block = append-nil (data_of (f block))
data_back f (suc i) block =
    let rest = blocks_back f i (pointer_of (f block) 0) in
    ap (flat_map (data_in f)) (reverse-append (block ∷ []) rest)
    ∙ flat_map-append (data_in f) (reverse rest) (block ∷ [])
    ∙ (λ k. data_back f i (pointer_of (f block) 0) k ++ append-nil (data_of (f block)) k)

pub body_is : (capacity : ℕ) (f : Blocks) (head n : ℕ) → 0 < n → body capacity f head n ≡ take n (data_to f (head_index capacity n) head)
body_is capacity f head zero some = absurd (omega (arith, some))
body_is capacity f head (suc n) some = refl

-- one node less is left
pub back_on : (f : Blocks) (all before after : List ℕ) (k n block next : ℕ) → k ≡ suc n → before ++ blocks_back f k block ≡ all → after ≡ before ++ block ∷ [] → next ≡ pointer_of (f block) 0 → after ++ blocks_back f n next ≡ all
unfolding blocks_back
back_on f all before after k n block next more is pushed goes =
    (λ i. pushed i ++ blocks_back f n (goes i)) ∙ append_assoc before (block ∷ []) (blocks_back f n (pointer_of (f block) 0)) ∙ ap (λ (m : ℕ). before ++ blocks_back f m block) (sym more) ∙ is

pub back_end : (f : Blocks) (all before after : List ℕ) (k block : ℕ) → k ≡ 0 → before ++ blocks_back f k block ≡ all → after ≡ before ++ block ∷ [] → after ≡ all
unfolding blocks_back
back_end f all before after k block last is pushed = pushed ∙ ap (λ (m : ℕ). before ++ blocks_back f m block) (sym last) ∙ is
