-- How many nodes an edit may write, beside how many directories it writes anew; and in later nodes.
use Rattle.std.proofs.Common.{◌≡◌, ℕ, zero, suc, ◌+◌, ◌-◌, ◌<◌, ◌≤◌, Bool, true, false, cond, ◌&&◌, List, [], ◌∷◌, length, take, get_or, refl, sym, ap, ◌∙◌, arith}
use Rattle.std.proofs.lemmas.List.{length-take-le}
use Rattle.std.proofs.lemmas.List.Sums.{sum_by-cons}
use Rattle.std.specs.Prelude.{slice_index, nat_lt}
use Rattle.std.specs.List.{sum_by, range_with_len}
use Rattle.std.specs.Option.{is_none}
use Rattle.fs_types.specs.Names.{Path}
use Rattle.plain_trees.specs.Contents.{Apart}
use Rattle.plain_trees.proofs.Needs.{nodes_for-some, sum_below-long}
use Rattle.node_format.specs.Items.{Item, named_place}
use Rattle.nodes.specs.Bodies.{Blocks}
use Rattle.nodes.specs.Reached.{Keeps}
use Rattle.nodes.specs.Trees.{items_in}
use Rattle.directory.specs.Counts.{nodes_in, edit_nodes, path_nodes, move_nodes}
use Rattle.directory.specs.Moves.{common, directories_along}
use Rattle.directory.specs.Trails.{IsHeldTrail}
use Rattle.directory.proofs.Forks.{parted}
use Rattle.directory.proofs.TrailEdits.{level_items}

-- each directory has a node at least

edit_nodes-some : (items : List Item) (name : List ℕ) (puts : Bool) → 0 < edit_nodes items name puts
edit_nodes-some items name puts = nodes_for-some (length items + cond (puts && is_none (named_place items name)) 1 0)

pub path_nodes-long : (f : Blocks) (trail : List ℕ) (path : Path) (puts : Bool) (level : ℕ) → length path - level ≤ path_nodes f trail path puts level
path_nodes-long f trail path puts level =
    sum_below-long (λ i. edit_nodes (items_in f (slice_index trail i)) (get_or path i []) puts) level (length path - level) (λ i. edit_nodes-some (items_in f (slice_index trail i)) (get_or path i []) puts)

sum-long : (h : ℕ → ℕ) (xs : List ℕ) → ((x : ℕ) → 0 < h x) → length xs ≤ sum_by h xs
sum-long h [] some = omega arith
sum-long h (x ∷ xs) some = let here : 0 < h x = some x in let rest = sum-long h xs some in omega (arith, sum_by-cons h x xs)

pub move_nodes-long : (f : Blocks) (old_trail : List ℕ) (old : Path) (new_trail : List ℕ) (new : Path) → Apart old new → length old_trail ≡ length old → directories_along old new ≤ move_nodes f old_trail old new_trail new
move_nodes-long f old_trail old new_trail new apart counted =
    let fork = common old new in
    let parts = parted old new apart in
    let in_first : fork < length old = parts.in_first in
    let in_second : fork < length new = parts.in_second in
    let shared : length (take fork old_trail) ≤ sum_by (nodes_in f) (take fork old_trail) = sum-long (nodes_in f) (take fork old_trail) (λ b. nodes_for-some (length (items_in f b))) in
    let long : length (take fork old_trail) ≡ fork = length-take-le fork old_trail (omega arith) in
    let here = edit_nodes-some (items_in f (slice_index old_trail fork)) (get_or new fork []) (nat_lt (fork + 1) (length old)) in
    let first = path_nodes-long f old_trail old false (fork + 1) in
    let second = path_nodes-long f new_trail new true (fork + 1) in
    omega arith

-- a move needs a node
pub move_needs : (p q : Path) → Apart p q → 0 < directories_along p q
move_needs p q apart = let parts = parted p q apart in omega (arith, parts.in_first, parts.in_second)

-- directories that are kept have as many nodes later

sum_below-same : (g h : ℕ → ℕ) (a n : ℕ) → ((i : ℕ) → a ≤ i → i < a + n → g i ≡ h i) → sum_by g (range_with_len a n) ≡ sum_by h (range_with_len a n)
sum_below-same g h a zero each = refl
sum_below-same g h a (suc n) each =
    sum_by-cons g a (range_with_len (a + 1) n)
    ∙ (λ i. each a (omega arith) (omega arith) i + sum_below-same g h (a + 1) n (λ j low high. each j (omega arith) (omega arith)) i)
    ∙ sym (sum_by-cons h a (range_with_len (a + 1) n))

pub path_nodes-later : (f g : Blocks) (k l : ℕ → Bool) (path : Path) (trail : List ℕ) (puts : Bool) → IsHeldTrail f k path trail → Keeps k f l g → path_nodes g trail path puts 0 ≡ path_nodes f trail path puts 0
path_nodes-later f g k l path trail puts held keeps =
    sum_below-same (λ i. edit_nodes (items_in g (slice_index trail i)) (get_or path i []) puts) (λ i. edit_nodes (items_in f (slice_index trail i)) (get_or path i []) puts) 0 (length path - 0)
    (λ i low high. ap (λ (items : List Item). edit_nodes items (get_or path i []) puts) (level_items f g k l path trail i held (omega arith) keeps))
