-- Directories of a trail written anew, one after the other from the deepest up.
use Rattle.std.proofs.Common.{◌≡◌, ℕ, zero, suc, ◌+◌, ◌-◌, ◌<◌, ◌≤◌, Bool, true, false, Option, Some, None, Result, Ok, Err, List, [], ◌∷◌, length, take, drop, get_or, refl, sym, ap, subst, ◌∙◌, arith}
use Rattle.std.specs.Prelude.{Contains, not, ◌||◌, ◌&&◌, nat_le, unwrap_or, slice_index, IsSome, if◌then◌else◌}
use Rattle.std.specs.Option.{is_some, is_none, option_and_then}
use Rattle.std.specs.List.{sum_by, range_with_len}
use Rattle.std.proofs.lemmas.Bool.{true≢false}
use Rattle.std.proofs.lemmas.List.Sums.{sum_by-cons, sum_by-append}
use Rattle.std.proofs.Math.Seq.{take-suc, drop-cons}
use Rattle.fs_types.specs.declared.limits.TheConstants.{MAX_ENTRIES}
use Rattle.fs_types.specs.Names.{Name, Path}
use Rattle.fs_types.specs.declared.fault.Fault.{Fault}
use Rattle.fs_types.specs.declared.fault.Fault.TheVariants.{FlashFull, ReadOnly, PowerCut, NoMemory}
use Rattle.nodes.specs.Faults.{IsWriteFault}
use Rattle.plain_trees.specs.Trees.{nodes_for}
use Rattle.plain_trees.proofs.Needs.{nodes_for-le, sum_below-le}
use Rattle.node_format.specs.Items.{Item, named_place}
use Rattle.node_format.specs.declared.place.Place.{Place}
use Rattle.node_format.specs.declared.place.Place.TheVariants.{Dir, File}
use Rattle.nodes.specs.Bodies.{Blocks}
use Rattle.nodes.specs.Chains.{chain}
use Rattle.nodes.specs.Trees.{child, leads, entries_in, items_in}
use Rattle.nodes.specs.Reached.{IsHeld, Keeps, Reached}
use Rattle.nodes.specs.Rewritten.{IsDirectoryEdit, IsFreshChain, IsRewritten}
use Rattle.nodes.proofs.Chained.{reached_chain}
use Rattle.nodes.proofs.Reaching.{held_child, held_leads, reached_via}
use Rattle.directory.specs.Counts.{nodes_in, edit_nodes, read_nodes, path_nodes}
use Rattle.directory.specs.Lookups.{directory_at, below_in, found_of, found_in, look_up, ◌>>=◌}
use Rattle.directory.specs.Seeking.{place_in, chain_items}
use Rattle.directory.specs.Trails.{IsTrail, IsHeldTrail, TakesName, has_room, takes, IsChangeFault}
use Rattle.directory.proofs.Directories.{place_named, along_chain}
use Rattle.directory.proofs.Framed.{place_same, items_same, below_reached}
use Rattle.directory.proofs.Held.{held_later, same_held, same_held_items}
use Rattle.directory.proofs.ReadLists.{entries_to-most}
use Rattle.directory.proofs.NewDirectories.{fresh_before}
use Rattle.directory.proofs.Rewrites.{rewritten_one}
use Rattle.directory.proofs.Ways.{leads_more, looks_on}

-- ---- refusals

pub write_refused : (fault : Fault) → IsWriteFault fault → IsChangeFault fault
write_refused FlashFull is = refl
write_refused ReadOnly is = refl
write_refused PowerCut is = refl
write_refused NoMemory is = refl
write_refused _ is = absurd (true≢false (sym is))

-- ---- names of a path

pub drop_all : (i : ℕ) (path : Path) → length path ≤ i → drop i path ≡ []
drop_all zero [] short = refl
drop_all zero (n ∷ path) short = absurd (omega arith)
drop_all (suc i) [] short = refl
drop_all (suc i) (n ∷ path) short = drop_all i path (omega arith)

pub last_name : (i : ℕ) (path : Path) → i + 1 ≡ length path → drop i path ≡ get_or path i [] ∷ []
last_name i path last = drop-cons path i [] (omega arith) ∙ ap (λ (q : Path). get_or path i [] ∷ q) (drop_all (suc i) path (omega arith))

next_name : (i : ℕ) (path : Path) → i + 1 < length path → drop (i + 1) path ≡ get_or path (i + 1) [] ∷ drop (suc (i + 1)) path
next_name i path more = drop-cons path (i + 1) [] more

two_names : (i : ℕ) (path : Path) → i + 1 < length path → drop i path ≡ get_or path i [] ∷ get_or path (i + 1) [] ∷ drop (suc (i + 1)) path
two_names i path more =
    let e : suc i ≡ i + 1 = omega arith in
    drop-cons path i [] (omega arith) ∙ ap (λ (q : Path). get_or path i [] ∷ q) (ap (λ k. drop k path) e ∙ next_name i path more)

-- ---- the directory of a level

pub level_held : (f : Blocks) (kept : ℕ → Bool) (path : Path) (trail : List ℕ) (i : ℕ) → IsHeldTrail f kept path trail → i < length path → IsHeld f kept (Dir (slice_index trail i))
level_held f kept path trail i way less = held_leads f kept (take i path) (Dir way.root) (Dir (slice_index trail i)) (way.trail_of.through i less) way.held

pub level_same : (f g : Blocks) (k l : ℕ → Bool) (path : Path) (trail : List ℕ) (i : ℕ) → IsHeldTrail f k path trail → i < length path → Keeps k f l g → entries_in g (slice_index trail i) ≡ entries_in f (slice_index trail i)
level_same f g k l path trail i way less keeps = (same_held f g k l keeps (slice_index trail i) (level_held f k path trail i way less)).0

pub level_items : (f g : Blocks) (k l : ℕ → Bool) (path : Path) (trail : List ℕ) (i : ℕ) → IsHeldTrail f k path trail → i < length path → Keeps k f l g → items_in g (slice_index trail i) ≡ items_in f (slice_index trail i)
level_items f g k l path trail i way less keeps = ap (λ (o : Option (List Item)). unwrap_or o []) (level_same f g k l path trail i way less keeps)

pub level_held_later : (f g : Blocks) (k l : ℕ → Bool) (path : Path) (trail : List ℕ) (i : ℕ) → IsHeldTrail f k path trail → i < length path → Keeps k f l g → IsHeld g l (Dir (slice_index trail i))
level_held_later f g k l path trail i way less keeps = held_later f g k l keeps (slice_index trail i) (level_held f k path trail i way less)

-- a name that is not the last leads to the next directory
pub level_child : (f : Blocks) (root : ℕ) (path : Path) (trail : List ℕ) (i : ℕ) → IsTrail f root path trail → i + 1 < length path → child f (Dir (slice_index trail i)) (get_or path i []) ≡ Some (Dir (slice_index trail (i + 1)))
level_child f root path trail i way more = sym (leads_more f root (slice_index trail i) i path (omega arith) (way.through i (omega arith))) ∙ way.through (i + 1) more

pub takes_named : (entries : Option (List Item)) (name : Name) (there here : Place) → named_place (unwrap_or entries []) name ≡ Some there → takes entries name (Some here) ≡ true
takes_named None name there here is = absurd cc
takes_named (Some items) name there here is = ap (λ (o : Option Place). is_some o || not (nat_le MAX_ENTRIES (length items))) is

-- so it takes another directory in its place, also later
pub level_takes : (f g : Blocks) (k l : ℕ → Bool) (path : Path) (trail : List ℕ) (i below : ℕ) → IsHeldTrail f k path trail → i + 1 < length path → Keeps k f l g → takes (entries_in g (slice_index trail i)) (get_or path i []) (Some (Dir below)) ≡ true
level_takes f g k l path trail i below way more keeps =
    ap (λ (entries : Option (List Item)). takes entries (get_or path i []) (Some (Dir below))) (level_same f g k l path trail i way (omega arith) keeps)
    ∙ takes_named (entries_in f (slice_index trail i)) (get_or path i []) (Dir (slice_index trail (i + 1))) (Dir below) (level_child f way.root path trail i way.trail_of more)

-- ---- one level more: at first (0), with the directories below written (1), and with this one too (2)

pub rewritten_up : (f0 f1 f2 : Blocks) (k0 k1 k2 : ℕ → Bool) (path : Path) (trail : List ℕ) (i to next : ℕ) (at : Option Place) → IsHeldTrail f0 k0 path trail → i + 1 < length path → Keeps k0 f0 k1 f1 → Keeps k1 f1 k2 f2 → ((b : ℕ) → k1 b ≡ false → k0 b ≡ false)
    → IsRewritten f0 f1 k0 k1 (slice_index trail (i + 1)) next (drop (i + 1) path) at → IsDirectoryEdit f1 f2 (slice_index trail i) to (get_or path i []) (Some (Dir next)) → IsFreshChain f1 f2 k1 k2 (slice_index trail i) to
    → IsRewritten f0 f2 k0 k2 (slice_index trail i) to (drop i path) at
rewritten_up f0 f1 f2 k0 k1 k2 path trail i to next at way more before keeps was lower edit fresh =
    let n = get_or path i [] in
    let m = get_or path (i + 1) [] in
    let p = drop (suc (i + 1)) path in
    subst (λ (q : Path). IsRewritten f0 f2 k0 k2 (slice_index trail i) to q at) (sym (two_names i path more))
    (rewritten_one f0 f1 f2 k0 k1 k2 (slice_index trail i) to (slice_index trail (i + 1)) next n m p at (level_same f0 f1 k0 k1 path trail i way (omega arith) before) (level_child f0 way.root path trail i way.trail_of more) keeps
    (subst (λ (q : Path). IsRewritten f0 f1 k0 k1 (slice_index trail (i + 1)) next q at) (next_name i path more) lower) edit
    (fresh_before f0 f1 f2 k0 k1 k2 before was (slice_index trail i) to (level_held f0 k0 path trail i way (omega arith)) fresh))

-- ---- the last level

pub rewritten_last : (f0 f1 : Blocks) (k0 k1 : ℕ → Bool) (path : Path) (i from to : ℕ) (at : Option Place) → i + 1 ≡ length path → IsDirectoryEdit f0 f1 from to (get_or path i []) at → IsFreshChain f0 f1 k0 k1 from to → IsRewritten f0 f1 k0 k1 from to (drop i path) at
rewritten_last f0 f1 k0 k1 path i from to at last edit fresh = subst (λ (q : Path). IsRewritten f0 f1 k0 k1 from to q at) (sym (last_name i path last)) (fresh, edit)

-- ---- how many nodes

-- of a name that is there, an edit asks no more nodes than there are
pub edit_nodes-there : (items : List Item) (name : Name) (puts : Bool) → IsSome (named_place items name) → edit_nodes items name puts ≡ nodes_for (length items)
edit_nodes-there items name puts some = on puts (named_place items name) some
  where
    on : (p : Bool) (o : Option Place) → IsSome o → nodes_for (length items + (if p && is_none o then 1 else 0)) ≡ nodes_for (length items)
    on p None none = absurd (true≢false (sym none))
    on true (Some place) there = omega arith
    on false (Some place) there = omega arith

-- the directories from a level on: that of the level, and those below
pub path_nodes-level : (f : Blocks) (trail : List ℕ) (path : Path) (puts : Bool) (i : ℕ) → i < length path → path_nodes f trail path puts i ≡ edit_nodes (items_in f (slice_index trail i)) (get_or path i []) puts + path_nodes f trail path puts (i + 1)
path_nodes-level f trail path puts i less =
    let all : length path - i ≡ suc (length path - (i + 1)) = omega arith in
    ap (λ (n : ℕ). sum_by (λ j. edit_nodes (items_in f (slice_index trail j)) (get_or path j []) puts) (range_with_len i n)) all
    ∙ sum_by-cons (λ j. edit_nodes (items_in f (slice_index trail j)) (get_or path j []) puts) i (range_with_len (i + 1) (length path - (i + 1)))

-- the last one
pub path_nodes-last : (f : Blocks) (trail : List ℕ) (path : Path) (puts : Bool) (i : ℕ) → i + 1 ≡ length path → path_nodes f trail path puts i ≡ edit_nodes (items_in f (slice_index trail i)) (get_or path i []) puts
path_nodes-last f trail path puts i last =
    let none : length path - (i + 1) ≡ 0 = omega arith in
    let rest : path_nodes f trail path puts (i + 1) ≡ 0 = ap (λ (n : ℕ). sum_by (λ j. edit_nodes (items_in f (slice_index trail j)) (get_or path j []) puts) (range_with_len (i + 1) n)) none in
    omega (arith, path_nodes-level f trail path puts i (omega arith), rest)

-- one with a directory below
pub path_nodes-linked : (f : Blocks) (root : ℕ) (trail : List ℕ) (path : Path) (puts other : Bool) (i : ℕ) → IsTrail f root path trail → i + 1 < length path
    → path_nodes f trail path puts i ≡ edit_nodes (items_in f (slice_index trail i)) (get_or path i []) other + path_nodes f trail path puts (i + 1)
path_nodes-linked f root trail path puts other i way more =
    let there : IsSome (named_place (items_in f (slice_index trail i)) (get_or path i [])) = ap is_some (level_child f root path trail i way more) in
    let one = edit_nodes-there (items_in f (slice_index trail i)) (get_or path i []) puts there in
    let same = edit_nodes-there (items_in f (slice_index trail i)) (get_or path i []) other there in
    omega (arith, path_nodes-level f trail path puts i (omega arith), one, same)

-- the directories further down have no more
pub path_nodes-below : (f : Blocks) (trail : List ℕ) (path : Path) (puts : Bool) (level i : ℕ) → level ≤ i → i ≤ length path → path_nodes f trail path puts i ≤ path_nodes f trail path puts level
path_nodes-below f trail path puts level i above within =
    let e : level + (i - level) ≡ i = omega arith in
    subst (λ (k : ℕ). path_nodes f trail path puts k ≤ path_nodes f trail path puts level) e (down (i - level) level (omega arith))
  where
    down : (d level : ℕ) → level + d ≤ length path → path_nodes f trail path puts (level + d) ≤ path_nodes f trail path puts level
    down zero level within = let e : level + 0 ≡ level = omega arith in subst (λ (k : ℕ). path_nodes f trail path puts k ≤ path_nodes f trail path puts level) (sym e) (omega arith)
    down (suc d) level within =
        let e : (level + 1) + d ≡ level + suc d = omega arith in
        let rest = subst (λ (k : ℕ). path_nodes f trail path puts k ≤ path_nodes f trail path puts (level + 1)) e (down d (level + 1) (omega arith)) in
        omega (arith, rest, path_nodes-level f trail path puts level (omega arith))

-- the directories before one level more
pub nodes_along : (f : Blocks) (trail : List ℕ) (i : ℕ) → i < length trail → sum_by (nodes_in f) (take (i + 1) trail) ≡ sum_by (nodes_in f) (take i trail) + nodes_in f (slice_index trail i)
nodes_along f trail i less =
    let e : i + 1 ≡ suc i = omega arith in
    let one = ap (λ (k : ℕ). sum_by (nodes_in f) (take k trail)) e ∙ ap (sum_by (nodes_in f)) (take-suc trail i 0 less) ∙ sum_by-append (nodes_in f) (take i trail) (get_or trail i 0 ∷ []) in
    let last : sum_by (nodes_in f) (get_or trail i 0 ∷ []) ≡ nodes_in f (slice_index trail i) = sum_by-cons (nodes_in f) (get_or trail i 0) [] ∙ and_none (nodes_in f (slice_index trail i)) in
    one ∙ ap (λ (n : ℕ). sum_by (nodes_in f) (take i trail) + n) last
  where
    and_none : (n : ℕ) → n + 0 ≡ n
    and_none n = omega arith

same_most : (x y : List Item) (name : Name) (puts : Bool) → x ≡ y → edit_nodes x name puts ≤ edit_nodes y name puts
same_most x y name puts e = let same : edit_nodes x name puts ≡ edit_nodes y name puts = ap (λ (items : List Item). edit_nodes items name puts) e in omega arith

-- as many while other nodes are written
pub path_nodes-later : (f g : Blocks) (k l : ℕ → Bool) (path : Path) (trail : List ℕ) (puts : Bool) (level : ℕ) → Keeps k f l g → IsHeldTrail f k path trail → path_nodes g trail path puts level ≤ path_nodes f trail path puts level
path_nodes-later f g k l path trail puts level keeps way =
    sum_below-le (λ i. edit_nodes (items_in g (slice_index trail i)) (get_or path i []) puts) (λ i. edit_nodes (items_in f (slice_index trail i)) (get_or path i []) puts) level (length path - level)
    (λ i low high. same_most (items_in g (slice_index trail i)) (items_in f (slice_index trail i)) (get_or path i []) puts (level_items f g k l path trail i way (omega arith) keeps))

-- without a name put no more
pub path_nodes-least : (f : Blocks) (path : Path) (trail : List ℕ) (puts : Bool) (level : ℕ) → path_nodes f trail path false level ≤ path_nodes f trail path puts level
path_nodes-least f path trail puts level =
    sum_below-le (λ i. edit_nodes (items_in f (slice_index trail i)) (get_or path i []) false) (λ i. edit_nodes (items_in f (slice_index trail i)) (get_or path i []) puts) level (length path - level)
    (λ i low high. least (items_in f (slice_index trail i)) (get_or path i []) puts)
  where
    least : (items : List Item) (name : Name) (puts : Bool) → edit_nodes items name false ≤ edit_nodes items name puts
    least items name false = omega arith
    least items name true = nodes_for-le (length items + 0) (length items + (if is_none (named_place items name) then 1 else 0)) (omega arith)

-- no more nodes are read than there are
pub read_nodes-most : (items : List Item) (name : Name) (puts : Bool) → read_nodes items name puts ≤ edit_nodes items name false
read_nodes-most items name true = omega (arith, entries_to-most items name)
read_nodes-most items name false = omega arith

-- ---- what a look up says of the last directory

take_all : (i : ℕ) (path : Path) → length path ≤ i → take i path ≡ path
take_all zero [] short = refl
take_all zero (n ∷ path) short = absurd (omega arith)
take_all (suc i) [] short = refl
take_all (suc i) (n ∷ path) short = ap (λ (q : Path). n ∷ q) (take_all i path (omega arith))

dir_is : (x y : ℕ) → (let d : Option Place = Some (Dir x) in d ≡ Some (Dir y)) → x ≡ y
dir_is x y e = cc

-- the first directory is the root
pub first_is : (f : Blocks) (root : ℕ) (path : Path) (trail : List ℕ) → IsTrail f root path trail → 0 < length path → slice_index trail 0 ≡ root
first_is f root path trail way some = sym (dir_is root (slice_index trail 0) (way.through 0 some))

-- a path leads to what its last name does in the last directory
pub leads_last : (f : Blocks) (root : ℕ) (path : Path) (trail : List ℕ) (i : ℕ) → IsTrail f root path trail → i + 1 ≡ length path → leads f (Dir root) path ≡ child f (Dir (slice_index trail i)) (get_or path i [])
leads_last f root path trail i way last =
    ap (leads f (Dir root)) (sym (take_all (i + 1) path (omega arith))) ∙ leads_more f root (slice_index trail i) i path (omega arith) (way.through i (omega arith))

below_named : (f : Blocks) (block : ℕ) (name : Name) (below : ℕ) → child f (Dir block) name ≡ Some (Dir below) → below_in f name block ≡ Ok below
below_named f block name below leads = on (entries_in f block) refl
  where
    on : (o : Option (List Item)) → entries_in f block ≡ o → below_in f name block ≡ Ok below
    on None is = absurd (let e : named_place [] name ≡ Some (Dir below) = sym (ap (λ (o : Option (List Item)). named_place (unwrap_or o []) name) is) ∙ leads in cc)
    on (Some items) is =
        let led : named_place items name ≡ Some (Dir below) = sym (ap (λ (o : Option (List Item)). named_place (unwrap_or o []) name) is) ∙ leads in
        ap (λ (r : Result (Option Place) Fault). r >>= directory_at) (place_named f block name items is) ∙ ap directory_at led

-- a look up comes to each directory of the trail
looks_to : (f : Blocks) (root : ℕ) (path : Path) (trail : List ℕ) (i : ℕ) → IsTrail f root path trail → i < length path → look_up f root path ≡ look_up f (slice_index trail i) (drop i path)
looks_to f root path trail zero way less = ap (λ (b : ℕ). look_up f b path) (sym (first_is f root path trail way less))
looks_to f root path trail (suc i) way less =
    let e : i + 1 ≡ suc i = omega arith in
    looks_to f root path trail i way (omega arith)
    ∙ looks_on f (slice_index trail i) (slice_index trail (i + 1)) i path (omega arith) (below_named f (slice_index trail i) (get_or path i []) (slice_index trail (i + 1)) (level_child f root path trail i way (omega arith)))
    ∙ ap (λ (k : ℕ). look_up f (slice_index trail k) (drop k path)) e

-- what a look up finds of a name in a directory
found_is : (f : Blocks) (block : ℕ) (name : Name) (items : List Item) → entries_in f block ≡ Some items → found_in f name block ≡ Ok (found_of (named_place items name) (nat_le MAX_ENTRIES (length items)))
found_is f block name items is =
    ap (λ (r : Result (Option Place) Fault). r >>= (λ place. Ok (found_of place (nat_le MAX_ENTRIES (length (chain_items f block)))))) (place_named f block name items is)
    ∙ ap (λ (all : List Item). Ok (found_of (named_place items name) (nat_le MAX_ENTRIES (length all)))) (along_chain f block items is)

room_takes : (items : List Item) (name : Name) (at : Option Place) → has_room (Ok (found_of (named_place items name) (nat_le MAX_ENTRIES (length items)))) ≡ true → takes (Some items) name at ≡ true
room_takes items name None room = refl
room_takes items name (Some place) room = on (named_place items name) (nat_le MAX_ENTRIES (length items)) room
  where
    on : (there : Option Place) (is_full : Bool) → has_room (Ok (found_of there is_full)) ≡ true → (is_some there || not is_full) ≡ true
    on None is_full room = room
    on (Some (File head size)) is_full room = refl
    on (Some (Dir block)) is_full room = refl

-- where a look up found room, the last directory takes any edit of the last name
pub room_taken : (f : Blocks) (root : ℕ) (path : Path) (trail : List ℕ) (at : Option Place) → IsTrail f root path trail → 0 < length path → has_room (look_up f root path) ≡ true → TakesName f trail path at
room_taken f root path trail at way some room =
    let i = length path - 1 in
    let last : i + 1 ≡ length path = omega arith in
    let there = way.begins i (omega arith) in
    let looked : look_up f root path ≡ found_in f (get_or path i []) (slice_index trail i) = looks_to f root path trail i way (omega arith) ∙ ap (look_up f (slice_index trail i)) (last_name i path last) in
    ap (λ (entries : Option (List Item)). takes entries (get_or path i []) at) there.1
    ∙ room_takes there.0 (get_or path i []) at (sym (ap has_room (looked ∙ found_is f (slice_index trail i) (get_or path i []) there.0 there.1)) ∙ room)

stands_takes : (entries : Option (List Item)) (name : Name) → IsSome (named_place (unwrap_or entries []) name) → takes entries name None ≡ true
stands_takes None name stands = absurd cc
stands_takes (Some items) name stands = refl

-- where something stands, it can be taken out
pub stands_taken : (f : Blocks) (root : ℕ) (path : Path) (trail : List ℕ) → IsTrail f root path trail → 0 < length path → IsSome (leads f (Dir root) path) → TakesName f trail path None
stands_taken f root path trail way some stands =
    let i = length path - 1 in
    stands_takes (entries_in f (slice_index trail i)) (get_or path i []) (subst (λ (o : Option Place). IsSome o) (leads_last f root path trail i way (omega arith)) stands)

-- ---- what stands of a look up while other nodes are written

pub leads_later : (f g : Blocks) (k l : ℕ → Bool) → Keeps k f l g → (path : Path) (at : Place) → IsHeld f k at → leads g at path ≡ leads f at path
leads_later f g k l keeps [] at held = refl
leads_later f g k l keeps (n ∷ path) (File head size) held = refl
leads_later f g k l keeps (n ∷ path) (Dir block) held =
    ap (λ (items : List Item). option_and_then (λ next. leads g next path) (named_place items n)) (same_held_items f g k l keeps block held)
    ∙ on (child f (Dir block) n) refl (leads_later f g k l keeps path)
  where
    on : (o : Option Place) → child f (Dir block) n ≡ o → ((at : Place) → IsHeld f k at → leads g at path ≡ leads f at path) → option_and_then (λ next. leads g next path) o ≡ option_and_then (λ next. leads f next path) o
    on None is again = refl
    on (Some next) is again = again next (held_child f k (Dir block) n next is held)

below_held : (f : Blocks) (k : ℕ → Bool) (root below : ℕ) → IsHeld f k (Dir root) → Reached f (root ∷ []) below → IsHeld f k (Dir below)
below_held f k root below held there other is b reached = held root refl b (reached_via f (root ∷ []) below there (subst (λ (r : ℕ). Reached f (r ∷ []) b) (sym is) reached))

pub look_later : (f g : Blocks) (k l : ℕ → Bool) → Keeps k f l g → (path : Path) (root : ℕ) → IsHeld f k (Dir root) → look_up g root path ≡ look_up f root path
look_later f g k l keeps [] root held = refl
look_later f g k l keeps (n ∷ []) root held =
    let same : (b : ℕ) → Contains (chain f root) b → g b ≡ f b = λ b inside. keeps.same b (held root refl b (reached_chain f root b inside)) in
    ap (λ (r : Result (Option Place) Fault). r >>= (λ place. Ok (found_of place (nat_le MAX_ENTRIES (length (chain_items g root)))))) (place_same f g root n same)
    ∙ ap (λ (items : List Item). place_in f n root >>= (λ place. Ok (found_of place (nat_le MAX_ENTRIES (length items))))) (items_same f g root same)
look_later f g k l keeps (n ∷ m ∷ path) root held =
    let same : (b : ℕ) → Contains (chain f root) b → g b ≡ f b = λ b inside. keeps.same b (held root refl b (reached_chain f root b inside)) in
    ap (λ (r : Result (Option Place) Fault). (r >>= directory_at) >>= (λ below. look_up g below (m ∷ path))) (place_same f g root n same)
    ∙ on (below_in f n root) refl (look_later f g k l keeps (m ∷ path))
  where
    on : (r : Result ℕ Fault) → below_in f n root ≡ r → ((next : ℕ) → IsHeld f k (Dir next) → look_up g next (m ∷ path) ≡ look_up f next (m ∷ path)) → (r >>= (λ below. look_up g below (m ∷ path))) ≡ (r >>= (λ below. look_up f below (m ∷ path)))
    on (Err fault) is again = refl
    on (Ok next) is again = again next (below_held f k root next held (below_reached f root n next is))

pub trail_later : (f g : Blocks) (k l : ℕ → Bool) → Keeps k f l g → (path : Path) (root : ℕ) (trail : List ℕ) → IsHeld f k (Dir root) → IsTrail f root path trail → IsTrail g root path trail
trail_later f g k l keeps path root trail held way = record {
  counted = way.counted;
  through = λ i less. leads_later f g k l keeps (take i path) (Dir root) held ∙ way.through i less;
  begins = λ i less.
      let was = way.begins i less in
      (was.0, (same_held f g k l keeps (slice_index trail i) (held_leads f k (take i path) (Dir root) (Dir (slice_index trail i)) (way.through i less) held)).0 ∙ was.1);
}

pub way_later : (f g : Blocks) (k l : ℕ → Bool) (path : Path) (trail : List ℕ) → Keeps k f l g → IsHeldTrail f k path trail → IsHeldTrail g l path trail
way_later f g k l path trail keeps way = record {
  root = way.root;
  trail_of = trail_later f g k l keeps path way.root trail way.held way.trail_of;
  held = held_later f g k l keeps way.root way.held;
}

pub taken_later : (f g : Blocks) (k l : ℕ → Bool) (path : Path) (trail : List ℕ) (at : Option Place) → Keeps k f l g → IsHeldTrail f k path trail → 0 < length path → TakesName f trail path at → TakesName g trail path at
taken_later f g k l path trail at keeps way some taken =
    let i = length path - 1 in
    ap (λ (entries : Option (List Item)). takes entries (get_or path i []) at) (level_same f g k l path trail i way (omega arith) keeps) ∙ taken
