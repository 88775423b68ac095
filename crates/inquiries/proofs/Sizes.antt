-- How much stands in a tree, by the list of all that stands there.
use Rattle.std.proofs.Common.{◌≡◌, ◌∙◌, ◌+◌, ◌<◌, ◌≤◌, ◌^◌, ℕ, zero, suc, Bool, true, false, Option, Some, None, List, [], ◌∷◌, ◌++◌, length, refl, sym, ap, ap₂, subst, arith}
use Rattle.std.proofs.lemmas.List.Concat.{length-flat_map}
use Rattle.std.proofs.lemmas.List.Sums.{sum_by-cons}
use Rattle.std.specs.Bool.{Decides}
use Rattle.std.specs.Prelude.{sum_by, nat_lt, nat_le, decimal, codes, if◌then◌else◌}
use Rattle.std.specs.FinMap.{get}
use Rattle.fs_types.specs.Names.{Name, Path}
use Rattle.fs_types.specs.declared.limits.TheConstants.{MAX_NAMES}
use Rattle.plain_trees.specs.Contents.{Entry}
use Rattle.plain_trees.specs.Trees.{Tree, children}
use Rattle.history_machine.specs.Machine.{stat_of}
use Rattle.std.proofs.lemmas.Bool.{true≢false, leb-true, leb-false, le-leb, ltb-false}
use Rattle.tree_counts.specs.Sizes.{in_word, sum_below, one, file_length, entries_of, lengths_of, size_of}
use Rattle.tree_counts.specs.declared.tree_size.TreeSize.{TreeSize}
use Rattle.tree_counts.proofs.Sums.{sum_same, sum_flat}
use Rattle.inquiries.specs.Items.{item_at, items_below, items_of}
use Rattle.inquiries.specs.Printed.{stat_bytes, file_bytes, count_text, size_text, sizes_text, word_text}
use Rattle.inquiries.specs.declared.items.Item.{Item}
use Rattle.inquiries.proofs.Entries.{row}

-- ---- how many there are

row_length : (b : Bool) (x : Item) (below : List Item) (n : ℕ) → length below ≡ n → length (x ∷ (if b then below else [])) ≡ 1 + (if b then n else 0)
row_length true x below n is = omega (arith, is)
row_length false x below n is = refl

items_count : (t : Tree) (levels : ℕ) (p : Path) → length (items_below t levels p) ≡ sum_below one t levels p
unfolding items_below sum_below
items_count t zero p = refl
items_count t (suc levels) p =
    length-flat_map (row t levels p) (children t p)
    ∙ sum_same (λ (e : Name × Bool). length (row t levels p e)) (λ (e : Name × Bool). 1 + (if e.1 then sum_below one t levels (p ++ e.0 ∷ []) else 0)) (children t p)
    (λ e has. row_length e.1 (item_at t (p ++ e.0 ∷ [])) (items_below t levels (p ++ e.0 ∷ [])) (sum_below one t levels (p ++ e.0 ∷ [])) (items_count t levels (p ++ e.0 ∷ [])))

-- ---- how many bytes the files have

own_bytes : (t : Tree) (p : Path) (o : Option Entry) → stat_bytes (stat_of t p o) ≡ file_length o
own_bytes t p None = refl
own_bytes t p (Some Entry.Dir) = refl
own_bytes t p (Some (Entry.File bytes)) = refl

row_bytes : (b : Bool) (x : Item) (below : List Item) (m n : ℕ) → file_bytes x ≡ m → sum_by file_bytes below ≡ n → sum_by file_bytes (x ∷ (if b then below else [])) ≡ m + (if b then n else 0)
row_bytes true x below m n first rest = omega (arith, sum_by-cons file_bytes x below, first, rest)
row_bytes false x below m n first rest = omega (arith, sum_by-cons file_bytes x [], first)

items_bytes : (t : Tree) (levels : ℕ) (p : Path) → sum_by file_bytes (items_below t levels p) ≡ sum_below file_length t levels p
unfolding items_below sum_below
items_bytes t zero p = refl
items_bytes t (suc levels) p =
    sum_flat file_bytes (row t levels p) (children t p)
    ∙ sum_same (λ (e : Name × Bool). sum_by file_bytes (row t levels p e)) (λ (e : Name × Bool). file_length (get t (p ++ e.0 ∷ [])) + (if e.1 then sum_below file_length t levels (p ++ e.0 ∷ []) else 0)) (children t p)
    (λ e has. row_bytes e.1 (item_at t (p ++ e.0 ∷ [])) (items_below t levels (p ++ e.0 ∷ [])) (file_length (get t (p ++ e.0 ∷ []))) (sum_below file_length t levels (p ++ e.0 ∷ [])) (own_bytes t (p ++ e.0 ∷ []) (get t (p ++ e.0 ∷ []))) (items_bytes t levels (p ++ e.0 ∷ [])))

-- how many entries stand in a tree
pub entries_are : (t : Tree) → entries_of t ≡ length (items_of t)
entries_are t = sym (items_count t MAX_NAMES [])

pub lengths_are : (t : Tree) → lengths_of t ≡ sum_by file_bytes (items_of t)
lengths_are t = sym (items_bytes t MAX_NAMES [])

-- ---- a number by what a word holds of it

pub word_some : (n k : ℕ) → Some k ≡ in_word n → k ≡ n
word_some n k is = by (nat_lt n (2 ^ 64)) is
  where
    by : (b : Bool) → Some k ≡ (if b then Some n else None) → k ≡ n
    by true same = cc
    by false same = absurd cc

pub word_none : (n : ℕ) → None ≡ in_word n → 2 ^ 64 ≤ n
word_none n is = ltb-false n (2 ^ 64) (by (nat_lt n (2 ^ 64)) is)
  where
    by : (b : Bool) → None ≡ (if b then Some n else None) → b ≡ false
    by true same = absurd (let wrong : None ≡ Some n = same in cc)
    by false same = refl

-- what is printed of it
word_said : (n : ℕ) → word_text (in_word n) ≡ count_text n
word_said n = by (nat_lt n (2 ^ 64))
  where
    by : (b : Bool) → word_text (if b then Some n else None) ≡ (if b then decimal n else codes ">18446744073709551615")
    by true = refl
    by false = refl

-- what is printed of a tree
pub sizes_said : (t : Tree) → size_text (size_of t) ≡ sizes_text (items_of t)
sizes_said t =
    ap₂ (λ (a b : List ℕ). codes " entries " ++ a ++ codes " bytes " ++ b) (word_said (entries_of t)) (word_said (lengths_of t))
    ∙ ap₂ (λ (a b : ℕ). codes " entries " ++ count_text a ++ codes " bytes " ++ count_text b) (entries_are t) (lengths_are t)

-- ---- whether there are few

pub few_some : (t : Tree) (size : TreeSize) (n : ℕ) → size ≡ size_of t → size.entries ≡ Some n → n ≡ length (items_of t)
few_some t size n is some = word_some (entries_of t) n (sym some ∙ ap (λ (s : TreeSize). s.entries) is) ∙ entries_are t

pub few_none : (t : Tree) (size : TreeSize) → size ≡ size_of t → size.entries ≡ None → 2 ^ 64 ≤ length (items_of t)
few_none t size is none = let past : 2 ^ 64 ≤ entries_of t = word_none (entries_of t) (sym none ∙ ap (λ (s : TreeSize). s.entries) is) in omega (arith, past, entries_are t)

-- a test of the count decides it
pub few_tested : (t : Tree) (size : TreeSize) (n most : ℕ) → size ≡ size_of t → size.entries ≡ Some n → Decides (nat_le n most) (length (items_of t) ≤ most)
few_tested t size n most is some = subst (λ (k : ℕ). Decides (nat_le n most) (k ≤ most)) (few_some t size n is some) (leb-true n most, le-leb n most)

-- a count past the greatest number is none of few
pub few_past : (t : Tree) (size : TreeSize) (most : ℕ) → most < 2 ^ 64 → size ≡ size_of t → size.entries ≡ None → Decides false (length (items_of t) ≤ most)
few_past t size most small is none =
    let past = few_none t size is none in (λ wrong. absurd (true≢false (sym wrong)), λ few. absurd (omega (arith, past, few, small)))

-- more than so many, where a test tells that there are not so few
pub many_tested : (b : Bool) (n most : ℕ) → b ≡ false → Decides b (n ≤ most) → most < n
many_tested b n most fails decides = by (nat_le n most) refl
  where
    by : (few : Bool) → nat_le n most ≡ few → most < n
    by true is = absurd (true≢false (sym (decides.1 (leb-true n most is)) ∙ fails))
    by false is = leb-false n most is
