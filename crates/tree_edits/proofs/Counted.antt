-- The reads of an edit: two for each node that keeps a byte after the edit, and a few for the first one.
use Rattle.std.proofs.Common.{◌≡◌, ℕ, zero, suc, ◌+◌, ◌-◌, ◌*◌, ◌/◌, ◌^◌, ◌<◌, ◌≤◌, ◌%◌, ◌⊎◌, inl, inr, ap, subst, arith, suc-mul}
use Rattle.std.specs.Prelude.{min}
use Rattle.std.proofs.lemmas.Bool.{cases_lt}
use Rattle.std.proofs.lemmas.Nat.{mul-le, le-div, div-add-mod', mod_below}
use Rattle.std.proofs.Math.Nat.{div-mul-le_self}
use Rattle.plain_trees.specs.Contents.{nodes_from}
use Rattle.nodes.specs.Bodies.{head_index}
use Rattle.tree_edits.specs.Reading.{nodes_between, HasDigits}
use Rattle.tree_edits.specs.Writing.{KeepsNone}
use Rattle.tree_edits.proofs.Parts.{count_some, count_none, div_mono}

-- the reads so far: the nodes after the edit are read once each, and the first that is written with a few more
pub record AreFew (capacity size end first index before now : ℕ) : Type 0 where
  pub all : (digits : ℕ) → HasDigits (head_index capacity size) digits → now ≤ before + ((nodes_between capacity end size - (head_index capacity size + 1 - index)) + (1 + 2 * digits))
  pub none : index ≤ first → now ≤ before

pub few_first : (capacity size offset first digits : ℕ) → 0 < capacity → first ≡ min offset size / capacity → head_index capacity size < 2 ^ digits → first ≤ 2 ^ digits
few_first capacity size offset first digits least is small = on first is
  where
    on : (k : ℕ) → k ≡ min offset size / capacity → k ≤ 2 ^ digits
    on zero e = omega arith
    on (suc k) e =
        let rows : suc k * capacity ≤ min offset size = omega (arith, mul-le (suc k) capacity (min offset size / capacity) capacity (omega arith) (omega arith), div-mul-le_self (min offset size) capacity) in
        let before : k ≤ (size - 1) / capacity = le-div k (size - 1) capacity least (omega (arith, suc-mul k capacity)) in
        omega arith

-- the reads of a start
pub few_begun : (capacity size offset end first before front table now : ℕ) → 0 < capacity → first ≡ min offset size / capacity
    → ((digits : ℕ) → HasDigits (head_index capacity size) digits → front ≤ before + 2 * digits) → ((digits : ℕ) → first ≤ 2 ^ digits → table ≤ front + digits) → now ≤ table + nodes_between capacity end size
    → (digits : ℕ) → HasDigits (head_index capacity size) digits → now ≤ before + (nodes_between capacity end size + 3 * digits)
few_begun capacity size offset end first before front table now least is by_front by_table by_list digits small =
    let a = by_front digits small in
    let b = by_table digits (few_first capacity size offset first digits least is small.1) in
    omega arith

-- none so far
pub few_none : (capacity size end first now : ℕ) → AreFew capacity size end first first now now
few_none capacity size end first now = record {
  all = λ digits small. omega arith;
  none = λ at. omega arith;
}

-- one node more
pub few_on : (capacity size offset end first index count before now now' blocks : ℕ) → 0 < capacity → first ≡ min offset size / capacity → first ≤ index → count ≤ capacity → blocks ≡ nodes_between capacity end size
    → (KeepsNone size offset end (index * capacity) (index * capacity + count) → now' ≡ now) → (head_index capacity size - index < blocks → now' ≤ now + 1) → ((digits : ℕ) → HasDigits (head_index capacity size) digits → now' ≤ now + (1 + 2 * digits))
    → AreFew capacity size end first index before now → AreFew capacity size end first (index + 1) before now'
few_on capacity size offset end first index count before now now' blocks least is from fits counted unread listed any few = record {
  all = λ digits small. all digits small (cases_lt (index * capacity) size) (cases_lt first index);
  none = λ at. absurd (omega arith);
}
  where
    same : (digits : ℕ) → HasDigits (head_index capacity size) digits → now' ≡ now → now' ≤ before + ((nodes_between capacity end size - (head_index capacity size + 1 - (index + 1))) + (1 + 2 * digits))
    same digits small e = (let most = few.all digits small in omega arith)

    one : (digits : ℕ) → HasDigits (head_index capacity size) digits → index ≤ head_index capacity size → head_index capacity size - index < nodes_between capacity end size → now' ≤ now + 1
        → now' ≤ before + ((nodes_between capacity end size - (head_index capacity size + 1 - (index + 1))) + (1 + 2 * digits))
    one digits small le lt e = (let most = few.all digits small in omega arith)

    -- the edit begins before a node after the first
    begins : first < index → index * capacity < size → offset ≤ index * capacity
    begins lt within =
        let rest : min offset size < (first + 1) * capacity = over in
        let rows : (first + 1) * capacity ≤ index * capacity = mul-le (first + 1) capacity index capacity (omega arith) (omega arith) in
        omega arith
      where
        over : min offset size < (first + 1) * capacity
        over =
            let parts : min offset size / capacity * capacity + min offset size % capacity ≡ min offset size = div-add-mod' (min offset size) capacity in
            let left : min offset size % capacity < capacity = mod_below (min offset size) capacity least in
            let rows : (min offset size / capacity + 1) * capacity ≡ min offset size / capacity * capacity + capacity = grind arith in
            let again : (first + 1) * capacity ≡ (min offset size / capacity + 1) * capacity = ap (λ (k : ℕ). (k + 1) * capacity) is in
            omega arith

    ends : nodes_between capacity end size ≤ head_index capacity size - index → index ≤ head_index capacity size → min (index * capacity + count) size ≤ end
    ends le at = on (cases_lt end size)
      where
        on : (end < size) ⊎ (size ≤ end) → min (index * capacity + count) size ≤ end
        on (inr past) = omega arith
        on (inl lt) =
            let number : nodes_between capacity end size ≡ (size - 1) / capacity + 1 - end / capacity = count_some capacity end size lt in
            let below : end / capacity ≤ (size - 1) / capacity = div_mono capacity end (size - 1) least (omega arith) in
            let next : index + 1 ≤ end / capacity = omega arith in
            let rows : (index + 1) * capacity ≤ end / capacity * capacity = mul-le (index + 1) capacity (end / capacity) capacity next (omega arith) in
            let parts : (index + 1) * capacity ≡ index * capacity + capacity = grind arith in
            omega (arith, div-mul-le_self end capacity)

    all : (digits : ℕ) → HasDigits (head_index capacity size) digits → (index * capacity < size) ⊎ (size ≤ index * capacity) → (first < index) ⊎ (index ≤ first)
        → now' ≤ before + ((nodes_between capacity end size - (head_index capacity size + 1 - (index + 1))) + (1 + 2 * digits))
    all digits small (inr past) other = same digits small (unread (inl past))
    all digits small (inl within) (inr at) = (let begun = few.none at in let more = any digits small in omega arith)
    all digits small (inl within) (inl lt) =
        let le : index ≤ head_index capacity size = le-div index (size - 1) capacity least (omega arith) in
        on le (cases_lt (head_index capacity size - index) (nodes_between capacity end size))
      where
        on : index ≤ head_index capacity size → (head_index capacity size - index < nodes_between capacity end size) ⊎ (nodes_between capacity end size ≤ head_index capacity size - index)
            → now' ≤ before + ((nodes_between capacity end size - (head_index capacity size + 1 - (index + 1))) + (1 + 2 * digits))
        on le (inl in_list) = one digits small le in_list (listed (omega arith))
        on le (inr not_in_list) = same digits small (unread (inr (begins lt within, ends not_in_list le)))

-- in all
pub few_all : (capacity size end first index before now : ℕ) → AreFew capacity size end first index before now → (digits : ℕ) → HasDigits (head_index capacity size) digits → now ≤ before + (nodes_between capacity end size + (1 + 2 * digits))
few_all capacity size end first index before now few digits small = (let most = few.all digits small in omega arith)

abbrev pub AreAll : ℕ → ℕ → ℕ → ℕ → ℕ → Type 0
AreAll size end before now capacity = (digits : ℕ) → HasDigits (head_index capacity size) digits → now ≤ before + (2 * nodes_between capacity end size + (1 + 5 * digits))

-- a start alone
pub few_begun_all : (capacity size end before now : ℕ) → ((digits : ℕ) → HasDigits (head_index capacity size) digits → now ≤ before + (nodes_between capacity end size + 3 * digits)) → AreAll size end before now capacity
few_begun_all capacity size end before now a digits small = (let few = a digits small in omega arith)

-- a start, and the nodes written
pub few_both : (capacity size end before middle now : ℕ) → ((digits : ℕ) → HasDigits (head_index capacity size) digits → middle ≤ before + (nodes_between capacity end size + 3 * digits))
    → ((digits : ℕ) → HasDigits (head_index capacity size) digits → now ≤ middle + (nodes_between capacity end size + (1 + 2 * digits))) → AreAll size end before now capacity
few_both capacity size end before middle now a b digits small =
    let first = a digits small in
    let rest = b digits small in
    omega arith

-- a node was written for each index from the first on
pub written_count : (capacity from size first index before now : ℕ) → 0 < capacity → first ≡ from / capacity → from < size → (size - 1) / capacity + 1 ≤ index → (first ≤ (size - 1) / capacity + 1 → index ≤ (size - 1) / capacity + 1) → now ≡ before + (index - first)
    → now ≡ before + nodes_from capacity from size
written_count capacity from size first index before now least first_is lt ended most is =
    let order : from / capacity ≤ (size - 1) / capacity = div_mono capacity from (size - 1) least (omega arith) in
    let last : index ≡ (size - 1) / capacity + 1 = (let le = most (omega arith) in omega arith) in
    omega arith

-- no more nodes are listed than there are
pub few_listed : (capacity size end count capacity' : ℕ) → capacity ≡ capacity' → count ≡ nodes_between capacity end size → count ≤ head_index capacity' size + 1
few_listed capacity size end count capacity' same is = subst (λ (r : ℕ). count ≤ head_index r size + 1) same (on (cases_lt end size))
  where
    on : (end < size) ⊎ (size ≤ end) → count ≤ head_index capacity size + 1
    on (inl lt) = omega (arith, is, count_some capacity end size lt)
    on (inr le) = omega (arith, is, count_none capacity end size le)
