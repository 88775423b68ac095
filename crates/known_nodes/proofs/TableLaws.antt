-- What tables by block tell of all blocks.
use Rattle.std.proofs.Common.{◌≡◌, ℕ, zero, suc, ◌<◌, ◌≤◌, inl, inr, ◌⊎◌, Bool, true, false, Option, Some, None, List, length, get_or, sym, ap, ◌∙◌, arith}
use Rattle.std.specs.Prelude.{◌&&◌}
use Rattle.std.specs.Option.{option_map_or}
use Rattle.std.proofs.lemmas.Bool.{cases_lt}
use Rattle.std.proofs.lemmas.List.{get_or_past}
use Rattle.nodes.specs.Bodies.{Blocks, index_of, pointer_of}
use Rattle.known_nodes.specs.Tables.{blocks_in, marks_in}
use Rattle.known_nodes.specs.WholeFiles.{is_after, is_step, are_steps, is_linked}
use Rattle.known_nodes.proofs.WholeFileLaws.{linked_at}

-- a list that has each of so many, past which none is
pub table_all : (items : List (Option (List ℕ))) (f : Blocks) (n : ℕ) → length items ≡ n → ((b : ℕ) → b < n → get_or items b None ≡ f b) → ((b : ℕ) → n ≤ b → f b ≡ None) → blocks_in items ≡ f
table_all items f n all each none = λ i b. at b (cases_lt b n) i
  where
    at : (b : ℕ) → ((b < n) ⊎ (n ≤ b)) → get_or items b None ≡ f b
    at b (inl below) = each b below
    at b (inr past) = get_or_past items b None (omega (arith, all, past)) ∙ sym (none b past)

pub marks_all : (items : List Bool) (p : ℕ → Bool) (n : ℕ) → length items ≡ n → ((b : ℕ) → b < n → get_or items b false ≡ p b) → ((b : ℕ) → n ≤ b → p b ≡ false) → marks_in items ≡ p
marks_all items p n all each none = λ i b. at b (cases_lt b n) i
  where
    at : (b : ℕ) → ((b < n) ⊎ (n ≤ b)) → get_or items b false ≡ p b
    at b (inl below) = each b below
    at b (inr past) = get_or_past items b false (omega (arith, all, past)) ∙ sym (none b past)

-- a block without a node is none of these
pub no_step : (capacity : ℕ) (f : Blocks) (b : ℕ) → f b ≡ None → is_step capacity f b ≡ false
no_step capacity f b none = ap (λ (o : Option (List ℕ)). option_map_or (is_after capacity f (pointer_of o)) (index_of o) false) none

pub none_linked : (capacity : ℕ) (f : Blocks) (b : ℕ) → f b ≡ None → is_linked capacity f b ≡ false
none_linked capacity f b none = ap (λ (o : Option (List ℕ)). option_map_or (λ index. are_steps (is_step capacity f) f index b) (index_of o) false) none

-- ---- nodes down to the first of a file

pub steps_on : (good : ℕ → Bool) (f : Blocks) (k m at : ℕ) → k ≡ suc m → good at ≡ true → are_steps good f k at ≡ are_steps good f m (pointer_of (f at) 0)
unfolding are_steps
steps_on good f k m at is holds = ap (λ (n : ℕ). are_steps good f n at) is ∙ ap (λ (b : Bool). b && are_steps good f m (pointer_of (f at) 0)) holds

pub steps_stop : (good : ℕ → Bool) (f : Blocks) (m at : ℕ) → good at ≡ false → are_steps good f m at ≡ false
unfolding are_steps
steps_stop good f zero at fails = fails
steps_stop good f (suc m) at fails = ap (λ (b : Bool). b && are_steps good f m (pointer_of (f at) 0)) fails

pub steps_last : (good : ℕ → Bool) (f : Blocks) (k at : ℕ) → k ≡ 0 → are_steps good f k at ≡ good at
unfolding are_steps
steps_last good f k at none = ap (λ (n : ℕ). are_steps good f n at) none

pub linked_is : (capacity : ℕ) (f : Blocks) (good : ℕ → Bool) (block index : ℕ) → index_of (f block) ≡ Some index → good ≡ is_step capacity f → are_steps good f index block ≡ is_linked capacity f block
linked_is capacity f good block index is are = ap (λ (g : ℕ → Bool). are_steps g f index block) are ∙ sym (linked_at capacity f block index is)

-- the node in a block has no index
pub unlinked : (capacity : ℕ) (f : Blocks) (block : ℕ) → index_of (f block) ≡ None → is_linked capacity f block ≡ false
unlinked capacity f block none = ap (λ (o : Option ℕ). option_map_or (λ index. are_steps (is_step capacity f) f index block) o false) none
