-- How often look-ups ask the device.
use Rattle.std.proofs.Common.{◌≡◌, ℕ, ◌+◌, ◌*◌, ◌≤◌, Bool, true, false, ◌||◌, Option, Some, None, List, length, refl, sym, subst, arith}
use Rattle.std.proofs.lemmas.Bool.{true≢false}
use Rattle.std.proofs.lemmas.Nat.{mul-le}
use Rattle.history_machine.specs.Descriptors.{Descriptor, descriptor_at}
use Rattle.history_machine.specs.Machine.{Machine, working_tree, view_tree}
use Rattle.plain_trees.specs.Trees.{Tree, bytes_of_file}
use Rattle.fs_types.specs.Names.{Path}
use Rattle.fs_types.specs.declared.call.Call.{Call}
use Rattle.flash_model.specs.declared.geometry.Geometry.{Geometry}
use Rattle.flash_model.specs.Device.{Device}
use Rattle.nodes.specs.Bodies.{head_index}
use Rattle.tree_edits.specs.Reading.{HasDigits, nodes_of_range}
use Rattle.node_store.specs.declared.store.Store.{Store}
use Rattle.node_store.specs.Stores.{Follows}
use Rattle.working_state.specs.Looking.{AsksBlocks, IsReadOf, AsksForRange, AsksForOpen, look_nodes, list_nodes, only_looks, LooksOnce}

-- ---- what is asked

-- what is said of a store's flash is said of that which it was made of
pub on_devices : (P : Device → Device → Type 0) (d d' e e' : Device) → d' ≡ d → e' ≡ e → P d' e' → P d e
on_devices P d d' e e' same_d same_e here = subst (λ x. P x e) same_d (subst (λ x. P d' x) same_e here)

-- reads of a store, where none was a write
pub store_asks : {F : Type 0} (device : F → Device) (s t : Store F) (most : ℕ) → Follows device s t → t.writes.n ≡ s.writes.n → t.reads.n ≤ s.reads.n + most → AsksBlocks (device s.flash.now) most (device t.flash.now)
store_asks device s t most follows none few =
    let pages : ℕ = (device s.flash.now).geometry.pages in
    let asked = follows.asks none in
    let within : t.reads.n * pages ≤ (s.reads.n + most) * pages = mul-le t.reads.n pages (s.reads.n + most) pages few (omega arith) in
    record { most = omega (arith, asked, within) }

pub asks_none : (d : Device) (nodes : ℕ) → AsksBlocks d nodes d
asks_none d nodes = record { most = omega arith }

pub asks_more : (d e : Device) (few nodes : ℕ) → few ≤ nodes → AsksBlocks d few e → AsksBlocks d nodes e
asks_more d e few nodes less asks =
    let within : few * d.geometry.pages ≤ nodes * d.geometry.pages = mul-le few d.geometry.pages nodes d.geometry.pages less (omega arith) in
    let few_asked = asks.most in
    record { most = omega (arith, few_asked, within) }

pub asks_on : (d e f : Device) (some more : ℕ) → e.geometry ≡ d.geometry → AsksBlocks d some e → AsksBlocks e more f → AsksBlocks d (some + more) f
asks_on d e f some more same first second =
    let then : f.operations ≤ e.operations + more * d.geometry.pages = subst (λ (g : Geometry). f.operations ≤ e.operations + more * g.pages) same second.most in
    let before = first.most in
    record { most = omega (arith, before, then) }

-- ---- a range of bytes

-- the way is a part of what is read
pub way_within : (capacity way : ℕ) (bytes : List ℕ) (offset count nodes before after : ℕ) → after ≤ before + way → IsReadOf capacity way bytes offset count nodes → after ≤ before + nodes
way_within capacity way bytes offset count nodes before after few is = let sum = is.sum in omega (arith, few, sum)

-- the way, and then the nodes of the range
pub range_within : (capacity capacity' way : ℕ) (bytes : List ℕ) (offset count size nodes before middle after : ℕ) → capacity' ≡ capacity → length bytes ≡ size → middle ≤ before + way
    → ((digits : ℕ) → HasDigits (head_index capacity' size) digits → after ≤ middle + (nodes_of_range capacity' size offset count + 2 * digits))
    → IsReadOf capacity way bytes offset count nodes → after ≤ before + nodes
range_within capacity capacity' way bytes offset count size nodes before middle after same long few reads is =
    let here = subst (λ (c : ℕ). (digits : ℕ) → HasDigits (head_index c size) digits → after ≤ middle + (nodes_of_range c size offset count + 2 * digits)) same reads in
    let all = subst (λ (n : ℕ). (digits : ℕ) → HasDigits (head_index capacity n) digits → after ≤ middle + (nodes_of_range capacity n offset count + 2 * digits)) (sym long) here in
    let last = all is.digits is.enough in
    let sum = is.sum in
    omega (arith, few, last, sum)

-- ---- calls

-- without an operation
still_open : (d : Device) (o : Option Descriptor) (t : Tree) (offset count : ℕ) → AsksForOpen d o t offset count d
still_open d None t offset count = asks_none d 0
still_open d (Some file) t offset count = λ nodes is. asks_none d nodes

pub looks_still : (m : Machine) (call : Call) (d : Device) → LooksOnce m call d d
looks_still m (Call.Stat view path) d = asks_none d (list_nodes (view_tree m view) path)
looks_still m (Call.List view path) d = asks_none d (list_nodes (view_tree m view) path)
looks_still m (Call.ReadAt view path offset count) d = λ nodes is. asks_none d nodes
looks_still m (Call.Entries view path from most) d = record { most = omega arith }
looks_still m (Call.Pread descriptor offset count) d = still_open d (descriptor_at m.descriptors descriptor) (working_tree m) offset count
looks_still m _ d = tt

-- a call that does more, of which nothing is said here
pub looks_other : (m : Machine) (call : Call) (d e : Device) → only_looks call ≡ false → LooksOnce m call d e
looks_other m (Call.Stat view path) d e other = absurd (true≢false other)
looks_other m (Call.List view path) d e other = absurd (true≢false other)
looks_other m (Call.ReadAt view path offset count) d e other = absurd (true≢false other)
looks_other m (Call.Entries view path from most) d e other = absurd (true≢false other)
looks_other m (Call.Pread descriptor offset count) d e other = absurd (true≢false other)
looks_other m _ d e other = tt

-- the bytes of an open file
pub open_looks : (d e : Device) (o : Option Descriptor) (file : Descriptor) (path : Path) (t u : Tree) (offset count : ℕ) → o ≡ Some file → path ≡ file.path → t ≡ u
    → AsksForRange d (look_nodes u path) (bytes_of_file u path) offset count e → AsksForOpen d o t offset count e
open_looks d e o file path t u offset count there named same asks =
    subst (λ (x : Option Descriptor). AsksForOpen d x t offset count e) (sym there)
    (subst (λ (x : Tree). AsksForRange d (look_nodes x file.path) (bytes_of_file x file.path) offset count e) (sym same)
    (subst (λ (p : Path). AsksForRange d (look_nodes u p) (bytes_of_file u p) offset count e) named asks))

-- neither of two
pub neither : (x y : Bool) → x || y ≡ false → (x ≡ false) × (y ≡ false)
neither true y e = absurd (true≢false e)
neither false y e = (refl, e)
