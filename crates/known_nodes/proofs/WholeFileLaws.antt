-- The test of a file's nodes says what a body is.
use Rattle.std.proofs.Common.{◌≡◌, ℕ, zero, suc, ◌-◌, ◌*◌, ◌^◌, ◌<◌, ◌≤◌, Bool, true, false, not, Option, Some, None, List, length, refl, sym, ap, subst, ◌∙◌, arith}
use Rattle.std.specs.Prelude.{◌&&◌, ◌||◌, ◌==◌, nat_le}
use Rattle.std.specs.Option.{is_some, option_map_or}
use Rattle.std.specs.List.{list_all, range_with_len}
use Rattle.std.proofs.lemmas.Bool.{true≢false, eqb-true, eq-eqb, leb-true, le-leb, and_parts, and_from}
use Rattle.std.proofs.lemmas.List.FromFn.{length-range_with_len, get_or-range_with_len}
use Rattle.std.proofs.lemmas.List.Recursion.{and_at, and_from_places, and_fails_at}
use Rattle.fs_types.specs.declared.limits.TheConstants.{MAX_FILE_BYTES}
use Rattle.node_format.specs.BodyNodes.{HasSlot}
use Rattle.nodes.specs.Bodies.{Blocks, index_of, pointer_of, data_of, back, head_index, IsChain, IsLinked, IsBody}
use Rattle.nodes.proofs.Bodies.{chain_node}
use Rattle.reclaim.specs.Naming.{has_slot}
use Rattle.reclaim.specs.Sound.{AreStepped}
use Rattle.reclaim.proofs.Chains.{data_length, fewer_slots}
use Rattle.reclaim.proofs.Lengths.{head_short, shorter}
use Rattle.reclaim.proofs.NamedLaws.{has_slot-divides, divides-has_slot}
use Rattle.reclaim.proofs.Soundness.{slot_more, chain_stepped}
use Rattle.known_nodes.specs.WholeFiles.{has_index, is_stepped, are_stepped, is_after, is_step, are_steps, is_linked, is_body, is_file, WholeFileLaw}

-- ---- tests of numbers in a row

pub all_at : (p : ℕ → Bool) (n x : ℕ) → x < n → list_all p (range_with_len 0 n) ≡ true → p x ≡ true
all_at p n x below all =
    let inside : x < length (range_with_len 0 n) = omega (arith, length-range_with_len 0 n, below) in
    subst (λ (y : ℕ). p y ≡ true) (get_or-range_with_len 0 n x 0 below ∙ omega arith) (and_at (list_all p) p refl (λ _ _. refl) (range_with_len 0 n) x 0 inside all)

pub all_from : (p : ℕ → Bool) (n : ℕ) → ((x : ℕ) → x < n → p x ≡ true) → list_all p (range_with_len 0 n) ≡ true
all_from p n each = and_from_places (list_all p) p refl (λ _ _. refl) (range_with_len 0 n) 0 (λ x inside.
    let below : x < n = omega (arith, length-range_with_len 0 n, inside) in
    subst (λ (y : ℕ). p y ≡ true) (sym (get_or-range_with_len 0 n x 0 below ∙ omega arith)) (each x below))

pub all_fails : (p : ℕ → Bool) (n x : ℕ) → x < n → p x ≡ false → list_all p (range_with_len 0 n) ≡ false
all_fails p n x below fails =
    let inside : x < length (range_with_len 0 n) = omega (arith, length-range_with_len 0 n, below) in
    and_fails_at (list_all p) p refl (λ _ _. refl) (range_with_len 0 n) x 0 inside (ap p (get_or-range_with_len 0 n x 0 below ∙ omega arith) ∙ fails)

-- ---- an index

pub has_index_is : (node : Option (List ℕ)) (i : ℕ) → has_index node i ≡ true → index_of node ≡ Some i
has_index_is node i = on (index_of node)
  where
    on : (o : Option ℕ) → option_map_or (λ index. index == i) o false ≡ true → o ≡ Some i
    on None e = absurd (true≢false (sym e))
    on (Some j) e = ap (λ (k : ℕ). Some k) (eqb-true j i e)

pub has_index_from : (held : Option (List ℕ)) (i : ℕ) → index_of held ≡ Some i → has_index held i ≡ true
has_index_from held i is = ap (λ (o : Option ℕ). option_map_or (λ index. index == i) o false) is ∙ eq-eqb i i refl

some_index : (o : Option ℕ) → is_some o ≡ true → (i : ℕ) × (o ≡ Some i)
some_index None e = absurd (true≢false (sym e))
some_index (Some i) e = (i, refl)

-- ---- slots

slot_test : (b c : Bool) → b ≡ true → (not b || c) ≡ true → c ≡ true
slot_test true c has e = e
slot_test false c has e = absurd (true≢false (sym has))

stepped_is : (f : Blocks) (pointer : ℕ → ℕ) (index : ℕ) → are_stepped f pointer index ≡ true → AreStepped f pointer index
stepped_is f pointer index all x has =
    let below : x < 15 = let most = has.0 in omega arith in
    let own = all_at (λ y. is_stepped f pointer index y) 15 x below all in
    let there = slot_test (has_slot index (suc x)) (is_some (index_of (f (pointer x))) && (pointer_of (f (pointer x)) x == pointer (suc x))) (divides-has_slot index (suc x) has.1 has.2) own in
    let parts = and_parts (is_some (index_of (f (pointer x)))) (pointer_of (f (pointer x)) x == pointer (suc x)) there in
    let named = some_index (index_of (f (pointer x))) parts.0 in
    record { index = named.0; is_body = named.1; names = eqb-true (pointer_of (f (pointer x)) x) (pointer (suc x)) parts.1 }

stepped_test : (f : Blocks) (pointer : ℕ → ℕ) (index : ℕ) → AreStepped f pointer index → are_stepped f pointer index ≡ true
stepped_test f pointer index stepped = all_from (λ y. is_stepped f pointer index y) 15 (λ x below. on x below (has_slot index (suc x)) refl)
  where
    on : (x : ℕ) → x < 15 → (b : Bool) → has_slot index (suc x) ≡ b → (not b || (is_some (index_of (f (pointer x))) && (pointer_of (f (pointer x)) x == pointer (suc x)))) ≡ true
    on x below false is = refl
    on x below true is =
        let own = has_slot-divides index (suc x) is in
        let holds = stepped x (omega arith, own.0, own.1) in
        and_from (is_some (index_of (f (pointer x)))) (pointer_of (f (pointer x)) x == pointer (suc x)) (ap (λ (o : Option ℕ). is_some o) holds.is_body)
        (eq-eqb (pointer_of (f (pointer x)) x) (pointer (suc x)) holds.names)

-- ---- chains

slots_linked : (f : Blocks) (i block : ℕ) → IsLinked f i (pointer_of (f block) 0) → AreStepped f (pointer_of (f block)) (suc i)
    → (x : ℕ) → HasSlot (suc i) x → pointer_of (f block) x ≡ back f block (2 ^ x)
slots_linked f i block linked stepped zero has = refl
slots_linked f i block linked stepped (suc x) has =
    slot_more f i block x linked has (slots_linked f i block linked stepped x (fewer_slots x (suc i) has)) (stepped x has)

-- what a step tests, of a node of an index
step_at : (capacity : ℕ) (f : Blocks) (block i : ℕ) → index_of (f block) ≡ Some i → is_step capacity f block ≡ is_after capacity f (pointer_of (f block)) i
step_at capacity f block i is = ap (λ (o : Option ℕ). option_map_or (is_after capacity f (pointer_of (f block))) o false) is

steps_chain : (capacity : ℕ) (f : Blocks) (i block : ℕ) → index_of (f block) ≡ Some i → are_steps (is_step capacity f) f i block ≡ true → IsChain capacity f i block × IsLinked f i block
unfolding are_steps
steps_chain capacity f zero block is steps = (is, tt)
steps_chain capacity f (suc i) block is steps =
    let pointer = pointer_of (f block) in
    let before = pointer_of (f block) 0 in
    let parts = and_parts (is_step capacity f block) (are_steps (is_step capacity f) f i before) steps in
    let own : is_after capacity f (pointer_of (f block)) (suc i) ≡ true = sym (step_at capacity f block (suc i) is) ∙ parts.0 in
    let tests = and_parts (has_index (f before) i && (length (data_of (f before)) == capacity)) (are_stepped f pointer (suc i)) own in
    let first = and_parts (has_index (f before) i) (length (data_of (f before)) == capacity) tests.0 in
    let rest = steps_chain capacity f i before (has_index_is (f before) i first.0) parts.1 in (
      (is, eqb-true (length (data_of (f before))) capacity first.1, rest.0),
      (slots_linked f i block rest.1 (stepped_is f pointer (suc i) tests.1), rest.1),
    )

chain_steps : (capacity : ℕ) (f : Blocks) (i block : ℕ) → i * capacity < MAX_FILE_BYTES → IsChain capacity f i block → IsLinked f i block → are_steps (is_step capacity f) f i block ≡ true
unfolding are_steps
chain_steps capacity f zero block short chain linked = step_at capacity f block 0 chain
chain_steps capacity f (suc i) block short chain linked =
    let before = pointer_of (f block) 0 in
    let stepped = chain_stepped capacity f i block (record { chain = chain; linked = linked; short = short }) in
    let own : is_after capacity f (pointer_of (f block)) (suc i) ≡ true =
    and_from (has_index (f before) i && (length (data_of (f before)) == capacity)) (are_stepped f (pointer_of (f block)) (suc i))
    (and_from (has_index (f before) i) (length (data_of (f before)) == capacity) (has_index_from (f before) i (chain_node capacity i before f chain.2)) (eq-eqb (length (data_of (f before))) capacity chain.1))
    (stepped_test f (pointer_of (f block)) (suc i) stepped) in
    and_from (is_step capacity f block) (are_steps (is_step capacity f) f i before) (step_at capacity f block (suc i) chain.0 ∙ own)
    (chain_steps capacity f i before (shorter capacity (suc i) i (omega arith) short) chain.2 linked.1)

-- ---- what one look tells

-- of a node that is not the first of its file
pub step_is : (capacity : ℕ) (f : Blocks) (block index before : ℕ) (a b c : Bool) → index_of (f block) ≡ Some index → 0 < index → before ≡ pointer_of (f block) 0 → a ≡ has_index (f before) (index - 1)
    → b ≡ (length (data_of (f before)) == capacity) → c ≡ are_stepped f (pointer_of (f block)) index → (a && b && c) ≡ is_step capacity f block
step_is capacity f block zero before a b c is some at first full stepped = absurd (omega arith)
step_is capacity f block (suc i) before a b c is some at first full stepped =
    let same : suc i - 1 ≡ i = omega arith in
    (λ j. first j && full j && stepped j)
    ∙ (λ j. has_index (f (at j)) (same j) && (length (data_of (f (at j))) == capacity) && are_stepped f (pointer_of (f block)) (suc i))
    ∙ sym (step_at capacity f block (suc i) is)

pub no_index : (capacity : ℕ) (f : Blocks) (block : ℕ) → index_of (f block) ≡ None → is_step capacity f block ≡ false
no_index capacity f block none = ap (λ (o : Option ℕ). option_map_or (is_after capacity f (pointer_of (f block))) o false) none

pub first_step : (capacity : ℕ) (f : Blocks) (block index : ℕ) → index_of (f block) ≡ Some index → index ≡ 0 → is_step capacity f block ≡ true
first_step capacity f block index is none = step_at capacity f block index is ∙ ap (is_after capacity f (pointer_of (f block))) none

-- ---- files

pub file_more : (capacity : ℕ) (f : Blocks) (head size : ℕ) → 0 < size → is_file capacity f head size ≡ is_body capacity f head size
file_more capacity f head zero some = absurd (omega arith)
file_more capacity f head (suc n) some = refl

pub body_is : (capacity : ℕ) (f : Blocks) (head size : ℕ) (a b c : Bool) → a ≡ has_index (f head) (head_index capacity size) → b ≡ nat_le (size - head_index capacity size * capacity) (length (data_of (f head)))
    → c ≡ is_linked capacity f head → (a && b && c) ≡ is_body capacity f head size
body_is capacity f head size a b c index long linked = λ i. index i && long i && linked i

pub file_none : (capacity : ℕ) (f : Blocks) (head size : ℕ) → size ≡ 0 → is_file capacity f head size ≡ (head == 0)
file_none capacity f head size none = ap (is_file capacity f head) none

pub linked_at : (capacity : ℕ) (f : Blocks) (head i : ℕ) → index_of (f head) ≡ Some i → is_linked capacity f head ≡ are_steps (is_step capacity f) f i head
linked_at capacity f head i is = ap (λ (o : Option ℕ). option_map_or (λ index. are_steps (is_step capacity f) f index head) o false) is

whole_body : (capacity : ℕ) (f : Blocks) (head n : ℕ) → is_body capacity f head (suc n) ≡ true → IsBody capacity f head (suc n)
whole_body capacity f head n e =
    let i = head_index capacity (suc n) in
    let own = length (data_of (f head)) in
    let parts = and_parts (has_index (f head) i && nat_le (suc n - i * capacity) own) (is_linked capacity f head) e in
    let first = and_parts (has_index (f head) i) (nat_le (suc n - i * capacity) own) parts.0 in
    let is : index_of (f head) ≡ Some i = has_index_is (f head) i first.0 in
    let chain = steps_chain capacity f i head is (sym (linked_at capacity f head i is) ∙ parts.1) in
    let few : suc n - i * capacity ≤ own = leb-true (suc n - i * capacity) own first.1 in
    (chain.0, omega (arith, few, data_length capacity f i head chain.0), chain.1)

body_whole : (capacity : ℕ) (f : Blocks) (head n : ℕ) → suc n ≤ MAX_FILE_BYTES → IsBody capacity f head (suc n) → is_body capacity f head (suc n) ≡ true
body_whole capacity f head n short body =
    let i = head_index capacity (suc n) in
    let own = length (data_of (f head)) in
    let is : index_of (f head) ≡ Some i = chain_node capacity i head f body.0 in
    let few : suc n - i * capacity ≤ own = let most = body.1 in omega (arith, most, data_length capacity f i head body.0) in
    and_from (has_index (f head) i && nat_le (suc n - i * capacity) own) (is_linked capacity f head)
    (and_from (has_index (f head) i) (nat_le (suc n - i * capacity) own) (has_index_from (f head) i is) (le-leb (suc n - i * capacity) own few))
    (linked_at capacity f head i is ∙ chain_steps capacity f i head (head_short capacity n short) body.0 body.2)

pub whole_files : WholeFileLaw
whole_files capacity f head zero short = (λ e. eqb-true head 0 e, λ e. eq-eqb head 0 e)
whole_files capacity f head (suc n) short = (λ e. whole_body capacity f head n e, λ body. body_whole capacity f head n short body)
