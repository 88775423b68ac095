-- The fronts of chains: what the nodes up to an index hold, and what they reach.
use Rattle.std.proofs.Common.{◌≡◌, ℕ, zero, suc, ◌+◌, ◌-◌, ◌*◌, ◌<◌, ◌≤◌, [], ◌∷◌, length, take, refl, sym, ap, subst, ◌∙◌, arith, suc-mul}
use Rattle.std.proofs.lemmas.List.{take-append-le, take-take, length-take, length-take-le}
use Rattle.std.proofs.lemmas.Nat.{le-div}
use Rattle.nodes.specs.Bodies.{Blocks, pointer_of, data_of, back, data_to, head_index, body, IsChain, IsLinked, IsBody}
use Rattle.nodes.specs.Reached.{Reached}
use Rattle.tree_edits.specs.Writing.{IsBodyFront}
use Rattle.tree_edits.proofs.Parts.{data_length}
use Rattle.nodes.proofs.Reaching.{reached_below, before_named}
use Rattle.nodes.proofs.Bodies.{chain_back, linked_back}

-- ---- steps back

pub front_chain : (capacity : ℕ) (f : Blocks) (n j i block : ℕ) → n + j ≡ i → IsChain capacity f i block → IsChain capacity f j (back f block n)
front_chain capacity f n j i block e chain =
    let left : i - n ≡ j = omega arith in
    subst (λ (k : ℕ). IsChain capacity f k (back f block n)) left (chain_back capacity f n i block (omega arith) chain)

pub front_linked : (f : Blocks) (n j i block : ℕ) → n + j ≡ i → IsLinked f i block → IsLinked f j (back f block n)
front_linked f n j i block e linked =
    let left : i - n ≡ j = omega arith in
    subst (λ (k : ℕ). IsLinked f k (back f block n)) left (linked_back f n i block (omega arith) linked)

-- what a node before reaches, the head reaches
pub reached_back : (capacity : ℕ) (f : Blocks) (n i block : ℕ) → n ≤ i → IsChain capacity f i block → {b : ℕ} → Reached f (back f block n ∷ []) b → Reached f (block ∷ []) b
reached_back capacity f zero i block le chain reached = reached
reached_back capacity f (suc n) zero block le chain reached = absurd (omega arith)
reached_back capacity f (suc n) (suc i) block le chain reached =
    reached_below f block (pointer_of (f block) 0) (before_named f i block chain.0) (reached_back capacity f n i (pointer_of (f block) 0) (omega arith) chain.2 reached)

-- ---- data

-- the front of a chain holds the beginning of its data
pub data_front : (capacity : ℕ) (f : Blocks) (n j i block m : ℕ) → n + j ≡ i → IsChain capacity f i block → m ≤ suc j * capacity → take m (data_to f j (back f block n)) ≡ take m (data_to f i block)
data_front capacity f zero j i block m e chain le = let same : j ≡ i = omega arith in ap (λ (k : ℕ). take m (data_to f k block)) same
data_front capacity f (suc n) j zero block m e chain le = absurd (omega arith)
data_front capacity f (suc n) j (suc i) block m e chain le =
    let before = pointer_of (f block) 0 in
    let rows : suc j * capacity ≤ suc i * capacity = rows_le capacity j i (omega arith) in
    let long : m ≤ length (data_to f i before) = omega (arith, data_length capacity f i before chain.2, chain.1, suc-mul i capacity) in
    data_front capacity f n j i before m (omega arith) chain.2 le ∙ sym (take-append-le m (data_to f i before) (data_of (f block)) long)
  where
    rows_le : (capacity j i : ℕ) → j ≤ i → suc j * capacity ≤ suc i * capacity
    rows_le capacity j i le = grind arith

-- ---- bodies by the index of the head

-- a body of so many bytes, more than none, whose head has this index
pub record HasHead (capacity : ℕ) (f : Blocks) (i head size : ℕ) : Type 0 where
  pub some : 0 < size
  pub index : head_index capacity size ≡ i
  pub chain : IsChain capacity f i head
  pub long : size ≤ length (data_to f i head)
  pub linked : IsLinked f i head

pub has_head : (capacity : ℕ) (f : Blocks) (i head size : ℕ) → 0 < size → head_index capacity size ≡ i → IsBody capacity f head size → HasHead capacity f i head size
has_head capacity f i head zero some index is = absurd (omega arith)
has_head capacity f i head (suc n) some index is = record {
  some = some;
  index = index;
  chain = subst (λ (k : ℕ). IsChain capacity f k head) index is.0;
  long = subst (λ (k : ℕ). suc n ≤ length (data_to f k head)) index is.1;
  linked = subst (λ (k : ℕ). IsLinked f k head) index is.2;
}

pub is_body : (capacity : ℕ) (f : Blocks) (i head size : ℕ) → HasHead capacity f i head size → IsBody capacity f head size
is_body capacity f i head zero h = absurd (omega (arith, h.some))
is_body capacity f i head (suc n) h = (
  subst (λ (k : ℕ). IsChain capacity f k head) (sym h.index) h.chain,
  subst (λ (k : ℕ). suc n ≤ length (data_to f k head)) (sym h.index) h.long,
  subst (λ (k : ℕ). IsLinked f k head) (sym h.index) h.linked,
)

pub body_taken : (capacity : ℕ) (f : Blocks) (i head size : ℕ) → HasHead capacity f i head size → body capacity f head size ≡ take size (data_to f i head)
body_taken capacity f i head zero h = absurd (omega (arith, h.some))
body_taken capacity f i head (suc n) h = ap (λ (k : ℕ). take (suc n) (data_to f k head)) h.index

pub body_length : (capacity : ℕ) (f : Blocks) (head size : ℕ) → IsBody capacity f head size → length (body capacity f head size) ≡ size
body_length capacity f head zero is = refl
body_length capacity f head (suc n) is = length-take-le (suc n) (data_to f (head_index capacity (suc n)) head) is.1

-- the last node of a front has no byte of the nodes after it
pub front_within : (capacity m : ℕ) → 0 < capacity → 0 < m → m ≤ suc (head_index capacity m) * capacity
front_within capacity m some more = omega (arith, suc-mul (head_index capacity m) capacity)

-- a front ends at its last index or before
pub front_before : (capacity m size : ℕ) → 0 < capacity → m ≤ size → head_index capacity m ≤ head_index capacity size
front_before capacity m size some le = le-div (head_index capacity m) (size - 1) capacity some (omega arith)

-- the front of a body is a body: its beginning
pub front_of : (capacity : ℕ) (f : Blocks) (head size m n : ℕ) → 0 < capacity → IsBody capacity f head size → 0 < m → m ≤ size → n ≡ head_index capacity size - head_index capacity m → IsBodyFront capacity f head size (back f head n) m
front_of capacity f head size m n some is more le steps =
    let i = head_index capacity size in
    let j = head_index capacity m in
    let before : j ≤ i = front_before capacity m size some le in
    let sum : n + j ≡ i = omega arith in
    let h = has_head capacity f i head size (omega arith) refl is in
    let within : m ≤ suc j * capacity = front_within capacity m some more in
    let front = data_front capacity f n j i head m sum h.chain within in
    let long : m ≤ length (data_to f i head) = omega (arith, h.long) in
    let cut : length (take m (data_to f j (back f head n))) ≡ m = ap length front ∙ length-take-le m (data_to f i head) long in
    let has : HasHead capacity f j (back f head n) m = record {
      some = more;
      index = refl;
      chain = front_chain capacity f n j i head sum h.chain;
      long = omega (arith, cut, length-take m (data_to f j (back f head n)));
      linked = front_linked f n j i head sum h.linked;
    } in
    record {
      whole = is_body capacity f j (back f head n) m has;
      shown = body_taken capacity f j (back f head n) m has ∙ front ∙ sym (ap (take m) (body_taken capacity f i head size h) ∙ take-take m size (data_to f i head) le);
      reached = λ _ b r. reached_back capacity f n i head (omega arith) h.chain r;
    }
