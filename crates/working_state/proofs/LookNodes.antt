-- How many nodes look-ups read, by what the plain trees say, and the directory that one finds.
use Rattle.std.proofs.Common.{◌≡◌, ℕ, ◌+◌, ◌≤◌, Bool, true, false, Some, Ok, List, [], ◌∷◌, length, refl, sym, ap, subst, ◌∙◌, arith}
use Rattle.std.proofs.lemmas.Bool.{eqb-true, lt-ltb}
use Rattle.std.specs.Prelude.{nat_lt, ◌==◌}
use Rattle.fs_types.specs.Names.{Path}
use Rattle.fs_types.specs.declared.call.View.{View}
use Rattle.history_machine.specs.History.{working_root}
use Rattle.history_machine.specs.Machine.{view_tree}
use Rattle.plain_trees.specs.Trees.{Tree, entry_count, nodes_for}
use Rattle.node_format.specs.Items.{Item}
use Rattle.nodes.specs.Bodies.{Blocks}
use Rattle.nodes.specs.Chains.{chain}
use Rattle.nodes.specs.Trees.{entries_in, root_tree, IsRoot}
use Rattle.nodes.proofs.RootMaps.{map_law}
use Rattle.directory.specs.declared.lookups.Found.{Found}
use Rattle.directory.specs.declared.lookups.Found.TheVariants as found
use Rattle.directory.specs.Lookups.{look_up, way_nodes, LeadsToDirectories}
use Rattle.directory.proofs.LookupLaws.{found_leads, rooted_leads}
use Rattle.directory.proofs.WayNodes.{tree_nodes, led_nodes}
use Rattle.working_state.specs.Looking.{look_nodes, list_nodes}
use Rattle.working_state.specs.Moments.{Moment, machine_at, IsMountedAt, nodes_at, capacity_at, version_tree}
use Rattle.working_state.proofs.PathCalls.{working_stands}
use Rattle.working_state.proofs.Views.{Shows, view_stands, view_tree_is}

-- the root of the working state
pub stands_lead : (a : Moment) (root : ℕ) → IsMountedAt a → working_root a.state.history a.state.group ≡ Some root → LeadsToDirectories (nodes_at a) root
stands_lead a root m is = rooted_leads (capacity_at a) (nodes_at a) root (working_stands a root m is).rooted

-- the directory that was found begins in its block
pub begins_at : (capacity : ℕ) (f : Blocks) (root : ℕ) (path : Path) (x : Found) (block : ℕ) → IsRoot capacity f root → look_up f root path ≡ Ok x → x ≡ found.Dir block → (items : List Item) × (entries_in f block ≡ Some items)
begins_at capacity f root path x block rooted led is =
    let dir : look_up f root path ≡ Ok (found.Dir block) = subst (λ (z : Found). look_up f root path ≡ Ok z) is led in
    let whole = rooted_leads capacity f root rooted in
    whole path block (found_leads f root path block whole dir)

-- the directory that was found, with what was read of its entries
pub read_items : (capacity : ℕ) (f f2 : Blocks) (root : ℕ) (path : Path) (x : Found) (block : ℕ) (P : List Item → Type 0) → IsRoot capacity f root → look_up f root path ≡ Ok x → x ≡ found.Dir block → f2 ≡ f
    → ((items : List Item) → entries_in f2 block ≡ Some items → P items) → (items : List Item) × (entries_in f2 block ≡ Some items) × P items
read_items capacity f f2 root path x block P rooted led is same shows =
    let begins = begins_at capacity f root path x block rooted led is in
    let here : entries_in f2 block ≡ Some begins.0 = ap (λ (g : Blocks). entries_in g block) same ∙ begins.1 in
    (begins.0, here, shows begins.0 here)

-- whether there are entries
pub some_items : (empty : Bool) (items : List Item) → empty ≡ (length items == 0) → empty ≡ false → nat_lt 0 (length items) ≡ true
some_items empty [] is some = absurd (let wrong : true ≡ false = sym is ∙ some in cc)
some_items empty (item ∷ items) is some = lt-ltb 0 (length (item ∷ items)) (omega arith)

pub no_items : (empty : Bool) (items : List Item) → empty ≡ (length items == 0) → empty ≡ true → items ≡ []
no_items empty [] is none = refl
no_items empty (item ∷ items) is none = absurd (let wrong = eqb-true (length (item ∷ items)) 0 (sym is ∙ none) in omega arith)

-- a look up read no more nodes than the directories on its path have
pub few_reads : (capacity : ℕ) (f : Blocks) (root : ℕ) (path : Path) (before after : ℕ) → IsRoot capacity f root → after ≤ before + way_nodes f root path → after ≤ before + look_nodes (root_tree capacity f root) path
few_reads capacity f root path before after rooted few = omega (arith, few, tree_nodes capacity f root path rooted)

-- in the tree that a view shows
pub way_few : (a : Moment) (view : View) (path : Path) (root : ℕ) → IsMountedAt a → Shows a.state.history a.state.group view root → way_nodes (nodes_at a) root path ≤ look_nodes (view_tree (machine_at a) view) path
way_few a view path root m shows =
    subst (λ (t : Tree). way_nodes (nodes_at a) root path ≤ look_nodes t path) (sym (view_tree_is a view root shows)) (tree_nodes (capacity_at a) (nodes_at a) root path (view_stands a view root m shows).rooted)

pub way_listed : (a : Moment) (view : View) (path : Path) (root : ℕ) → IsMountedAt a → Shows a.state.history a.state.group view root → way_nodes (nodes_at a) root path ≤ list_nodes (view_tree (machine_at a) view) path
way_listed a view path root m shows = omega (arith, way_few a view path root m shows)

-- with the nodes of the directory that was found
pub dir_listed : (a : Moment) (view : View) (path : Path) (root : ℕ) (x : Found) (block : ℕ) → IsMountedAt a → Shows a.state.history a.state.group view root → look_up (nodes_at a) root path ≡ Ok x → x ≡ found.Dir block
    → way_nodes (nodes_at a) root path + length (chain (nodes_at a) block) ≤ list_nodes (view_tree (machine_at a) view) path
dir_listed a view path root x block m shows led is =
    let rooted = (view_stands a view root m shows).rooted in
    let whole = rooted_leads (capacity_at a) (nodes_at a) root rooted in
    let dir : look_up (nodes_at a) root path ≡ Ok (found.Dir block) = subst (λ (z : Found). look_up (nodes_at a) root path ≡ Ok z) is led in
    let nodes : length (chain (nodes_at a) block) ≡ nodes_for (entry_count (version_tree a root) path) =
    led_nodes (nodes_at a) root (version_tree a root) whole (map_law (capacity_at a) (nodes_at a) root rooted).lists path block (found_leads (nodes_at a) root path block whole dir) in
    let shown : length (chain (nodes_at a) block) ≡ nodes_for (entry_count (view_tree (machine_at a) view) path) = nodes ∙ ap (λ (t : Tree). nodes_for (entry_count t path)) (sym (view_tree_is a view root shows)) in
    omega (arith, way_few a view path root m shows, shown)
