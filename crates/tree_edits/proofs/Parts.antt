-- A range of a chain's bytes, read node by node from its end.
use Rattle.std.proofs.Common.{◌≡◌, ℕ, zero, suc, ◌+◌, ◌-◌, ◌*◌, ◌/◌, ◌<◌, ◌≤◌, inl, inr, List, [], ◌++◌, length, take, drop, refl, sym, ap, subst, ◌∙◌, append_assoc, arith, suc-mul}
use Rattle.std.specs.Prelude.{min, max}
use Rattle.std.proofs.Math.Nat.{div-mul-le_self, lt-div-mul-add}
use Rattle.std.proofs.Math.Seq.{take-add, drop-append-add}
use Rattle.std.proofs.lemmas.Bool.{cases_lt, lt-ltb, le-ltb}
use Rattle.std.proofs.lemmas.Nat.{le-div, div-mul-add, mul-le}
use Rattle.std.proofs.lemmas.List.{length-append, length-drop, length-take-le, take-append-le, drop-append-le, drop_at, drop-drop, take-append-drop, take_min, append-nil}
use borrow.Rule.Slice.PartMut.{put_mid}
use Rattle.nodes.specs.Bodies.{Blocks, pointer_of, data_of, back, data_to, head_index, body, IsChain, IsLinked, IsBody}
use Rattle.nodes.proofs.Bodies.{chain_back}
use Rattle.plain_trees.specs.Contents.{read_from}
use Rattle.tree_edits.specs.Reading.{nodes_between, nodes_of_range}

-- ---- lists

-- so many items from a place on, in two parts
range_parts : (xs : List ℕ) (start from end : ℕ) → start ≤ from → from ≤ end → take (end - start) (drop start xs) ≡ take (from - start) (drop start xs) ++ take (end - from) (drop from xs)
range_parts xs start from end le le' =
    let e : end - start ≡ (from - start) + (end - from) = omega arith in
    let d : start + (from - start) ≡ from = omega arith in
    ap (λ (n : ℕ). take n (drop start xs)) e ∙ take-add (from - start) (end - from) (drop start xs)
    ∙ ap (λ (ys : List ℕ). take (from - start) (drop start xs) ++ take (end - from) ys) (drop-drop (from - start) start xs ∙ ap (λ (n : ℕ). drop n xs) d)

-- a range within the front
range_front : (xs ys : List ℕ) (start end : ℕ) → start ≤ end → end ≤ length xs → take (end - start) (drop start (xs ++ ys)) ≡ take (end - start) (drop start xs)
range_front xs ys start end le within =
    ap (take (end - start)) (drop-append-le start xs ys (omega arith)) ∙ take-append-le (end - start) (drop start xs) ys (omega (arith, length-drop start xs))

-- what follows the front
pub drop_past : (xs ys : List ℕ) (n : ℕ) → length xs ≤ n → drop n (xs ++ ys) ≡ drop (n - length xs) ys
drop_past xs ys n le =
    let e : n ≡ length xs + (n - length xs) = omega arith in
    ap (λ (k : ℕ). drop k (xs ++ ys)) e ∙ drop-append-add xs ys (n - length xs)

-- ---- the data of a chain

-- the data up to a node is that of the nodes before it, and its own
pub record IsSplit (capacity : ℕ) (f : Blocks) (i block : ℕ) : Type 0 where
  pub front : List ℕ
  pub parts : data_to f i block ≡ front ++ data_of (f block)
  pub size : length front ≡ i * capacity

pub data_length : (capacity : ℕ) (f : Blocks) (i block : ℕ) → IsChain capacity f i block → length (data_to f i block) ≡ i * capacity + length (data_of (f block))
data_length capacity f zero block chain = omega arith
data_length capacity f (suc i) block chain =
    let before = data_length capacity f i (pointer_of (f block) 0) chain.2 in
    omega (arith, length-append (data_to f i (pointer_of (f block) 0)) (data_of (f block)), before, chain.1, suc-mul i capacity)

pub data_split : (capacity : ℕ) (f : Blocks) (i block : ℕ) → IsChain capacity f i block → IsSplit capacity f i block
data_split capacity f zero block chain = record { front = []; parts = refl; size = omega arith }
data_split capacity f (suc i) block chain = record {
  front = data_to f i (pointer_of (f block) 0);
  parts = refl;
  size = omega (arith, data_length capacity f i (pointer_of (f block) 0) chain.2, chain.1, suc-mul i capacity);
}

-- ---- indices

pub div_mono : (capacity a b : ℕ) → 0 < capacity → a ≤ b → a / capacity ≤ b / capacity
div_mono capacity a b some le = le-div (a / capacity) b capacity some (omega (arith, div-mul-le_self a capacity))

-- where the node of the last byte begins, and ends
pub record IsLast (capacity end index : ℕ) : Type 0 where
  pub starts : index * capacity < end
  pub ends : end ≤ index * capacity + capacity

pub last_of : (capacity end : ℕ) → 0 < capacity → 0 < end → IsLast capacity end ((end - 1) / capacity)
last_of capacity end some more = record { starts = omega (arith, div-mul-le_self (end - 1) capacity); ends = (let h = lt-div-mul-add {a = end - 1} {b = capacity} some in omega arith) }

-- the byte before a node's first is the last one of the node before it
pub before_start : (capacity j : ℕ) → 0 < capacity → (suc j * capacity - 1) / capacity ≡ j
before_start capacity j some =
    let e : suc j * capacity - 1 ≡ j * capacity + (capacity - 1) = omega (arith, suc-mul j capacity) in
    ap (λ (n : ℕ). n / capacity) e ∙ div-mul-add j capacity (capacity - 1) (omega arith)

-- ---- what is left to read

-- the chain to the node of the last byte that is left, and what is left and what was filled are what is wanted
pub record IsLeft (capacity : ℕ) (f : Blocks) (start end index block : ℕ) (out wanted : List ℕ) : Type 0 where
  pub last : start < end → IsLast capacity end index
  pub chain : start < end → IsChain capacity f index block
  pub within : start < end → end ≤ length (data_to f index block)
  pub above : start ≤ end
  pub size : end - start ≤ length out
  pub left : take (end - start) (drop start (data_to f index block)) ++ drop (end - start) out ≡ wanted

-- one node was read: the piece of its data was filled in
pub record IsStep (capacity : ℕ) (f : Blocks) (start end index block from next : ℕ) (out out' : List ℕ) : Type 0 where
  pub piece : List ℕ
  pub is_from : from ≡ max start (index * capacity)
  pub copied : piece ≡ take (end - from) (drop (from - index * capacity) (data_of (f block)))
  pub filled : out' ≡ take (from - start) out ++ (piece ++ drop (end - start) out)
  pub before : start < from → 0 < index → next ≡ pointer_of (f block) 0

pub finished : (capacity : ℕ) (f : Blocks) (start end index block : ℕ) (out wanted : List ℕ) → end ≤ start → IsLeft capacity f start end index block out wanted → out ≡ wanted
finished capacity f start end index block out wanted done left =
    let e : end - start ≡ 0 = omega arith in
    subst (λ (n : ℕ). take n (drop start (data_to f index block)) ++ drop n out ≡ wanted) e left.left

-- the node of the last byte has the bytes up to it
pub piece_length : (capacity : ℕ) (f : Blocks) (start end index block : ℕ) (out wanted : List ℕ) → start < end → IsLeft capacity f start end index block out wanted → end ≤ index * capacity + length (data_of (f block))
piece_length capacity f start end index block out wanted lt left = omega (arith, left.within lt, data_length capacity f index block (left.chain lt))

so_far : (capacity : ℕ) (f : Blocks) (start end index block from next : ℕ) (out out' wanted : List ℕ) → start < end → IsLeft capacity f start end index block out wanted → IsStep capacity f start end index block from next out out'
    → take (from - start) (drop start (data_to f index block)) ++ drop (from - start) out' ≡ wanted
so_far capacity f start end index block from next out out' wanted lt left step =
    let last = left.last lt in
    let split = data_split capacity f index block (left.chain lt) in
    let le : start ≤ from = omega (arith, step.is_from) in
    let le' : from ≤ end = omega (arith, step.is_from, last.starts) in
    let after : drop from (data_to f index block) ≡ drop (from - index * capacity) (data_of (f block)) =
    ap (drop from) split.parts ∙ drop_past split.front (data_of (f block)) from (omega (arith, split.size, step.is_from))
    ∙ ap (λ (n : ℕ). drop (from - n) (data_of (f block))) split.size in
    let piece : take (end - from) (drop from (data_to f index block)) ≡ step.piece = ap (take (end - from)) after ∙ sym step.copied in
    let front = take (from - start) (drop start (data_to f index block)) in
    let rest = drop (end - start) out in
    let filled : drop (from - start) out' ≡ step.piece ++ rest =
    ap (drop (from - start)) step.filled ∙ drop_at (take (from - start) out) (step.piece ++ rest) (from - start) (length-take-le (from - start) out (omega (arith, left.size))) in
    ap (λ (ys : List ℕ). front ++ ys) filled
    ∙ sym (append_assoc front step.piece rest)
    ∙ ap (λ (ys : List ℕ). (front ++ ys) ++ rest) (sym piece)
    ∙ ap (λ (ys : List ℕ). ys ++ rest) (sym (range_parts (data_to f index block) start from end le le'))
    ∙ left.left

pub step_left : (capacity : ℕ) (f : Blocks) (start end index block from next : ℕ) (out out' wanted : List ℕ) (index' : ℕ) → 0 < capacity → start < end → IsLeft capacity f start end index block out wanted → IsStep capacity f start end index block from next out out'
    → length out' ≡ length out → index' ≡ (from - 1) / capacity → IsLeft capacity f start from index' next out' wanted
step_left capacity f start end index block from next out out' wanted index' some lt left step same is = elim (cases_lt start from) [
  | inl more ↦ inner index refl more
  | inr done ↦ record {
    last = λ more. absurd (omega arith);
    chain = λ more. absurd (omega arith);
    within = λ more. absurd (omega arith);
    above = omega (arith, step.is_from);
    size = omega (arith, left.size);
    left = (let none : from - start ≡ 0 = omega arith in
        subst (λ (n : ℕ). take n (drop start (data_to f index' next)) ++ drop n out' ≡ wanted) (sym none)
        (subst (λ (n : ℕ). take n (drop start (data_to f index block)) ++ drop n out' ≡ wanted) none (so_far capacity f start end index block from next out out' wanted lt left step)));
  }
]
  where
    at : (j : ℕ) → index ≡ suc j → start < from → IsLeft capacity f start from j next out' wanted
    at j e more =
        let last = left.last lt in
        let chain = subst (λ (i : ℕ). IsChain capacity f i block) e (left.chain lt) in
        let begins : from ≡ suc j * capacity = omega (arith, step.is_from, ap (λ (i : ℕ). i * capacity) e) in
        let to : next ≡ pointer_of (f block) 0 = step.before more (omega (arith, e)) in
        let size : length (data_to f j (pointer_of (f block) 0)) ≡ from = omega (arith, data_length capacity f j (pointer_of (f block) 0) chain.2, chain.1, begins, suc-mul j capacity) in
        let all = subst (λ (i : ℕ). take (from - start) (drop start (data_to f i block)) ++ drop (from - start) out' ≡ wanted) e (so_far capacity f start end index block from next out out' wanted lt left step) in
        let front = range_front (data_to f j (pointer_of (f block) 0)) (data_of (f block)) start from (omega arith) (omega (arith, size)) in
        subst (λ (b : ℕ). IsLeft capacity f start from j b out' wanted) (sym to) (record {
          last = λ _. record { starts = omega (arith, begins, suc-mul j capacity); ends = omega (arith, begins, suc-mul j capacity) };
          chain = λ _. chain.2;
          within = λ _. omega (arith, size);
          above = omega arith;
          size = omega (arith, left.size, step.is_from, last.starts);
          left = ap (λ (ys : List ℕ). ys ++ drop (from - start) out') (sym front) ∙ all;
        })

    inner : (i : ℕ) → index ≡ i → start < from → IsLeft capacity f start from index' next out' wanted
    inner zero e more = absurd (omega (arith, step.is_from, ap (λ (i : ℕ). i * capacity) e))
    inner (suc j) e more =
        let begins : from ≡ suc j * capacity = omega (arith, step.is_from, ap (λ (i : ℕ). i * capacity) e) in
        let k : index' ≡ j = is ∙ ap (λ (n : ℕ). (n - 1) / capacity) begins ∙ before_start capacity j some in
        subst (λ (i : ℕ). IsLeft capacity f start from i next out' wanted) (sym k) (at j e more)

-- the piece that is filled in is as long as the bytes that the node has of what is left
pub part_length : (start end from : ℕ) (out : List ℕ) → start ≤ from → from ≤ end → end - start ≤ length out → length (take (end - start - (from - start)) (drop (from - start) out)) ≡ end - from
part_length start end from out le le' size =
    length-take-le (end - start - (from - start)) (drop (from - start) out) (omega (arith, length-drop (from - start) out)) ∙ (let e : end - start - (from - start) ≡ end - from = omega arith in e)

pub step_of : (capacity : ℕ) (f : Blocks) (start end index block from next : ℕ) (out ys out' : List ℕ) → start < end → IsLast capacity end index → end - start ≤ length out → from ≡ max start (index * capacity)
    → ys ≡ take (length (take (end - start - (from - start)) (drop (from - start) out))) (drop (from - index * capacity) (data_of (f block))) → out' ≡ put_mid (from - start) (end - start - (from - start)) out ys
    → (start < from → 0 < index → next ≡ pointer_of (f block) 0) → IsStep capacity f start end index block from next out out'
step_of capacity f start end index block from next out ys out' lt last size is copied filled before =
    let le : start ≤ from = omega (arith, is) in
    let le' : from ≤ end = omega (arith, is, last.starts) in
    let e : (from - start) + (end - start - (from - start)) ≡ end - start = omega arith in
    record {
      piece = ys;
      is_from = is;
      copied = copied ∙ ap (λ (n : ℕ). take n (drop (from - index * capacity) (data_of (f block)))) (part_length start end from out le le' size);
      filled = filled ∙ ap (λ (rest : List ℕ). take (from - start) out ++ (ys ++ rest)) (drop-drop (end - start - (from - start)) (from - start) out ∙ ap (λ (n : ℕ). drop n out) e);
      before = before;
    }

pub filled_length : (a k : ℕ) (out ys : List ℕ) → a + k ≤ length out → length ys ≡ k → length (put_mid a k out ys) ≡ length out
filled_length a k out ys within long =
    omega (
      arith,
      length-append (take a out) (ys ++ drop k (drop a out)),
      length-append ys (drop k (drop a out)),
      length-take-le a out (omega arith),
      length-drop k (drop a out),
      length-drop a out,
    )

-- ---- reads

pub count_some : (capacity start end : ℕ) → start < end → nodes_between capacity start end ≡ (end - 1) / capacity + 1 - start / capacity
count_some capacity start end lt = rw (lt-ltb start end lt) refl

pub count_none : (capacity start end : ℕ) → end ≤ start → nodes_between capacity start end ≡ 0
count_none capacity start end le = rw (le-ltb start end le) refl

-- each node that is read is one fewer that is left
pub one_fewer : (capacity start end from : ℕ) → 0 < capacity → start < end → from ≡ max start ((end - 1) / capacity * capacity) → nodes_between capacity start from + 1 ≤ nodes_between capacity start end
one_fewer capacity start end from some lt is = elim (cases_lt start from) [ inl more ↦ inner ((end - 1) / capacity) refl more | inr done ↦ rw (count_none capacity start from done, count_some capacity start end lt) (omega (arith, div_mono capacity start (end - 1) some (omega arith))) ]
  where
    inner : (i : ℕ) → (end - 1) / capacity ≡ i → start < from → nodes_between capacity start from + 1 ≤ nodes_between capacity start end
    inner zero e more = absurd (omega (arith, is, ap (λ (i : ℕ). i * capacity) e))
    inner (suc j) e more =
        let begins : from ≡ suc j * capacity = omega (arith, is, ap (λ (i : ℕ). i * capacity) e) in
        let k : (from - 1) / capacity ≡ j = ap (λ (n : ℕ). (n - 1) / capacity) begins ∙ before_start capacity j some in
        rw (count_some capacity start from more, count_some capacity start end lt) (omega (arith, k, e, div_mono capacity start (from - 1) some (omega arith)))

-- so its pages are asked no more
pub pages_fewer : (pages left before asked now most : ℕ) → left + 1 ≤ before → now ≤ asked + pages → asked + before * pages ≤ most → now + left * pages ≤ most
pages_fewer pages left before asked now most fewer step so_far =
    let rows : (left + 1) * pages ≤ before * pages = mul-le (left + 1) pages before pages fewer (omega arith) in
    let parts : (left + 1) * pages ≡ left * pages + pages = grind arith in
    omega arith

-- ---- a range of a body

-- a body that is not empty, by the chain of its nodes
pub record IsWholeBody (capacity : ℕ) (f : Blocks) (head size : ℕ) : Type 0 where
  pub chain : IsChain capacity f (head_index capacity size) head
  pub long : size ≤ length (data_to f (head_index capacity size) head)
  pub linked : IsLinked f (head_index capacity size) head
  pub body_is : body capacity f head size ≡ take size (data_to f (head_index capacity size) head)

pub whole_body : (capacity : ℕ) (f : Blocks) (head size : ℕ) → 0 < size → IsBody capacity f head size → IsWholeBody capacity f head size
whole_body capacity f head zero some is = absurd (omega arith)
whole_body capacity f head (suc n) some is = record { chain = is.0; long = is.1; linked = is.2; body_is = refl }

-- the data up to a node before another is the beginning of what is up to that one
data_front : (capacity : ℕ) (f : Blocks) (n i block : ℕ) → n ≤ i → IsChain capacity f i block → (rest : List ℕ) × (data_to f i block ≡ data_to f (i - n) (back f block n) ++ rest)
data_front capacity f zero i block le chain = ([], ap (λ (k : ℕ). data_to f k block) (let e : i ≡ i - 0 = omega arith in e) ∙ sym (append-nil (data_to f (i - 0) block)))
data_front capacity f (suc n) zero block le chain = absurd (omega arith)
data_front capacity f (suc n) (suc i) block le chain =
    let before = data_front capacity f n i (pointer_of (f block) 0) (omega arith) chain.2 in
    let e : i - n ≡ suc i - suc n = omega arith in
    let front = data_to f (i - n) (back f (pointer_of (f block) 0) n) in (
      before.0 ++ data_of (f block),
      ap (λ (xs : List ℕ). xs ++ data_of (f block)) before.1 ∙ append_assoc front before.0 (data_of (f block))
          ∙ ap (λ (k : ℕ). data_to f k (back f (pointer_of (f block) 0) n) ++ (before.0 ++ data_of (f block))) e,
    )

-- each node before the head is full
full_back : (capacity : ℕ) (f : Blocks) (n i block : ℕ) → n < i → IsChain capacity f i block → length (data_of (f (back f block (suc n)))) ≡ capacity
full_back capacity f zero zero block lt chain = absurd (omega arith)
full_back capacity f zero (suc i) block lt chain = chain.1
full_back capacity f (suc n) zero block lt chain = absurd (omega arith)
full_back capacity f (suc n) (suc i) block lt chain = full_back capacity f n i (pointer_of (f block) 0) (omega arith) chain.2

-- the chain to the node of the last byte of a range
pub record IsRange (capacity : ℕ) (f : Blocks) (head size start end block : ℕ) : Type 0 where
  pub chain : IsChain capacity f ((end - 1) / capacity) block
  pub within : end ≤ length (data_to f ((end - 1) / capacity) block)
  pub bytes : take (end - start) (drop start (take size (data_to f (head_index capacity size) head))) ≡ take (end - start) (drop start (data_to f ((end - 1) / capacity) block))

pub range_of : (capacity : ℕ) (f : Blocks) (head size start end block : ℕ) → 0 < capacity → start < end → end ≤ size → IsWholeBody capacity f head size → block ≡ back f head (head_index capacity size - (end - 1) / capacity) → IsRange capacity f head size start end block
range_of capacity f head size start end block some lt le whole is = record {
  chain = chain;
  within = within;
  bytes = sym (range_front (take size (data_to f i head)) (drop size (data_to f i head)) start end (omega arith) (omega (arith, length-take-le size (data_to f i head) whole.long)))
      ∙ ap (λ (xs : List ℕ). take (end - start) (drop start xs)) (take-append-drop size (data_to f i head) ∙ parts)
      ∙ range_front (data_to f k block) front.0 start end (omega arith) within;
}
  where
    i : ℕ
    i = head_index capacity size

    k : ℕ
    k = (end - 1) / capacity

    before : k ≤ i
    before = div_mono capacity (end - 1) (size - 1) some (omega arith)

    e : i - (i - k) ≡ k
    e = omega (arith, before)

    front : (rest : List ℕ) × (data_to f i head ≡ data_to f (i - (i - k)) (back f head (i - k)) ++ rest)
    front = data_front capacity f (i - k) i head (omega arith) whole.chain

    parts : data_to f i head ≡ data_to f k block ++ front.0
    parts = front.1 ∙ (λ j. data_to f (e j) (sym is j) ++ front.0)

    chain : IsChain capacity f k block
    chain = subst (λ (n : ℕ). IsChain capacity f n block) e (subst (λ (b : ℕ). IsChain capacity f (i - (i - k)) b) (sym is) (chain_back capacity f (i - k) i head (omega arith) whole.chain))

    inner : (n : ℕ) → i - k ≡ n → end ≤ length (data_to f k block)
    inner zero z =
        let same : k ≡ i = omega (arith, before) in
        let here : block ≡ head = is ∙ ap (back f head) z in
        let all : data_to f k block ≡ data_to f i head = λ j. data_to f (same j) (here j) in
        omega (arith, ap length all, whole.long)
    inner (suc n) z =
        let full : length (data_of (f block)) ≡ capacity = ap (λ (b : ℕ). length (data_of (f b))) (is ∙ ap (back f head) z) ∙ full_back capacity f n i head (omega (arith, z)) whole.chain in
        omega (arith, data_length capacity f k block chain, full, (last_of capacity end some (omega arith)).ends)

    within : end ≤ length (data_to f k block)
    within = inner (i - k) refl

-- what is read, by its start and end
range_read : (bytes : List ℕ) (size offset count end : ℕ) → length bytes ≡ size → end ≡ min size (offset + count) → offset < end → read_from bytes offset count ≡ take (end - offset) (drop offset bytes)
range_read bytes size offset count end long is lt =
    let few : min count (length (drop offset bytes)) ≡ end - offset = omega (arith, length-drop offset bytes) in
    sym (take_min count (drop offset bytes)) ∙ ap (λ (n : ℕ). take n (drop offset bytes)) few

-- the node of the last byte was found
pub range_found : (capacity capacity' : ℕ) (f : Blocks) (head size start end block : ℕ) → capacity' ≡ capacity → 0 < capacity' → start < end → end ≤ size → IsBody capacity f head size → block ≡ back f head ((size - 1) / capacity' - (end - 1) / capacity') → IsRange capacity' f head size start end block
range_found capacity capacity' f head size start end block same some lt le is found =
    range_of capacity' f head size start end block some lt le (whole_body capacity' f head size (omega arith) (subst (λ (r : ℕ). IsBody r f head size) (sym same) is)) found

pub body_read : (capacity capacity' : ℕ) (f : Blocks) (head size offset count end block : ℕ) → capacity' ≡ capacity → end ≡ min size (offset + count) → offset < end → IsBody capacity f head size → IsRange capacity' f head size offset end block
    → take (end - offset) (drop offset (data_to f ((end - 1) / capacity') block)) ≡ read_from (body capacity f head size) offset count
body_read capacity capacity' f head size offset count end block same is lt has range =
    let whole = whole_body capacity' f head size (omega arith) (subst (λ (r : ℕ). IsBody r f head size) (sym same) has) in
    let bytes = take size (data_to f (head_index capacity' size) head) in
    sym range.bytes ∙ sym (range_read bytes size offset count end (length-take-le size (data_to f (head_index capacity' size) head) whole.long) is lt)
    ∙ ap (λ (xs : List ℕ). read_from xs offset count) (sym whole.body_is ∙ ap (λ (r : ℕ). body r f head size) same)

-- where there is a byte to read, there is a node that holds it
pub some_nodes : (capacity size offset count : ℕ) → 0 < capacity → offset < min size (offset + count) → 1 ≤ nodes_of_range capacity size offset count
some_nodes capacity size offset count some lt =
    rw (count_some capacity offset (min size (offset + count)) lt) (omega (arith, div_mono capacity offset (min size (offset + count) - 1) some (omega arith)))
