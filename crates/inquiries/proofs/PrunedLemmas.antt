-- What stands in a tree where another one may have something else, by the paths that lead elsewhere.
use Rattle.std.proofs.Common.{◌≡◌, ◌∙◌, ◌+◌, ◌≤◌, ◌<◌, ℕ, zero, suc, Bool, true, false, cond, Option, Some, None, Result, Ok, Err, List, [], ◌∷◌, ◌++◌, IsSome, length, take, map, get_or, refl, sym, ap, ap₂, subst, arith}
use Rattle.std.proofs.lemmas.List.{take_more, flat_map_more, map-append}
use Rattle.std.proofs.lemmas.List.Elements.{All-nil, All-cons, All-head, All-tail, All-filter}
use Rattle.std.proofs.lemmas.Bool.{true≢false}
use Rattle.std.specs.Prelude.{All, filter, IfOk, IfErr, if◌then◌else◌}
use Rattle.std.specs.FinMap.{get}
use Rattle.std.specs.List.{flat_map}
use Rattle.fs_types.specs.Names.{Name, Path}
use Rattle.fs_types.specs.declared.call.Call.{Call}
use Rattle.fs_types.specs.declared.call.Stat.{Stat}
use Rattle.fs_types.specs.declared.call.View.{View}
use Rattle.fs_types.specs.declared.fault.Fault.{Fault}
use Rattle.fs_types.specs.declared.fault.Fault.TheVariants.{PowerCut}
use Rattle.fs_types.specs.declared.limits.TheConstants.{MAX_NAMES}
use Rattle.flash_model.specs.Device.{Device}
use Rattle.history_machine.specs.History.{view_refusal}
use Rattle.history_machine.specs.HistoryMaps.{view_refusal-map}
use Rattle.history_machine.specs.Machine.{Machine, IsMachine, refusal, stat_of, view_tree}
use Rattle.node_store.specs.NodePages.{node_of}
use Rattle.plain_trees.specs.Contents.{Entry}
use Rattle.plain_trees.specs.Trees.{Tree, children}
use Rattle.tree_differences.specs.Updates.{paths_below, paths_of}
use Rattle.tree_differences.specs.Differing.{differs_at}
use Rattle.tree_differences.proofs.Below.{same_untold}
use Rattle.working_state.specs.Moments.{moment}
use Rattle.working_state.specs.Seen.{machine_on, tree_on, capacity_of}
use Rattle.working_state.specs.declared.state.State.{State}
use Rattle.working_state.proofs.Views.{Shows, view_stands, view_tree_is}
use Rattle.system.specs.DifferingTrees.{ComparesTrees, TellsDiffering}
use Rattle.system.specs.Systems.{IsSystem}
use Rattle.system.specs.declared.systems.System.{System}
use Rattle.inquiries.specs.Differences.{item_beside, lines_beside, line_beside}
use Rattle.inquiries.specs.Items.{item_at, items_below, items_of, IsItemOf}
use Rattle.inquiries.specs.Pruned.{ShowBoth, AreElsewhere, IsElsewhere, IsPruned}
use Rattle.inquiries.specs.Readings.{Meets}
use Rattle.inquiries.specs.declared.items.Item.{Item}
use Rattle.inquiries.specs.declared.printing.Side.{Side}
use Rattle.inquiries.proofs.Counted.{cause_meets}
use Rattle.inquiries.proofs.DifferenceLemmas.{items_there}
use Rattle.inquiries.proofs.Entries.{row, stat_accepted}
use Rattle.inquiries.proofs.Shared.{line_itself}

-- ---- items by their paths

-- an entry, and the paths of what stands below it
abbrev path_row : Tree → ℕ → Path → Name × Bool → List Path
path_row t levels directory entry = (directory ++ entry.0 ∷ []) ∷ (if entry.1 then paths_below t levels (directory ++ entry.0 ∷ []) else [])

row_items : (t : Tree) (levels : ℕ) (directory : Path) (es : List (Name × Bool)) → ((d : Path) → items_below t levels d ≡ map (item_at t) (paths_below t levels d))
    → flat_map (row t levels directory) es ≡ map (item_at t) (flat_map (path_row t levels directory) es)
row_items t levels directory [] below = refl
row_items t levels directory ((n, true) ∷ es) below =
    let path : Path = directory ++ n ∷ [] in
    ap₂ (λ (a b : List Item). (item_at t path ∷ a) ++ b) (below path) (row_items t levels directory es below)
    ∙ sym (map-append (item_at t) (path ∷ paths_below t levels path) (flat_map (path_row t levels directory) es))
row_items t levels directory ((n, false) ∷ es) below = ap (λ (l : List Item). item_at t (directory ++ n ∷ []) ∷ l) (row_items t levels directory es below)

pub items_listed : (t : Tree) (levels : ℕ) (directory : Path) → items_below t levels directory ≡ map (item_at t) (paths_below t levels directory)
unfolding items_below paths_below
items_listed t zero directory = refl
items_listed t (suc levels) directory = row_items t levels directory (children t directory) (λ d. items_listed t levels d)

filter_items : (t : Tree) (keeps : Path → Bool) (paths : List Path) → map (item_at t) (filter keeps paths) ≡ filter (λ (item : Item). keeps item.path) (map (item_at t) paths)
filter_items t keeps [] = refl
filter_items t keeps (path ∷ paths) = by (keeps path) (filter_items t keeps paths)
  where
    by : (b : Bool) → map (item_at t) (filter keeps paths) ≡ filter (λ (item : Item). keeps item.path) (map (item_at t) paths)
        → map (item_at t) (cond b (path ∷ filter keeps paths) (filter keeps paths)) ≡ cond b (item_at t path ∷ filter (λ (item : Item). keeps item.path) (map (item_at t) paths)) (filter (λ (item : Item). keeps item.path) (map (item_at t) paths))
    by true rest = ap (λ (l : List Item). item_at t path ∷ l) rest
    by false rest = rest

pub kept_items : (t : Tree) (keeps : Path → Bool) → map (item_at t) (filter keeps (paths_of t)) ≡ filter (λ (item : Item). keeps item.path) (items_of t)
kept_items t keeps = filter_items t keeps (paths_of t) ∙ ap (filter (λ (item : Item). keeps item.path)) (sym (items_listed t MAX_NAMES []))

stand_at : (t : Tree) (paths : List Path) → All (IsItemOf t) (map (item_at t) paths) → All (λ path. IsSome (get t path)) paths
stand_at t [] all = All-nil (λ path. IsSome (get t path))
stand_at t (path ∷ paths) all =
    All-cons (λ p. IsSome (get t p)) path paths (All-head (IsItemOf t) (item_at t path) (map (item_at t) paths) all).there (stand_at t paths (All-tail (IsItemOf t) (item_at t path) (map (item_at t) paths) all))

-- at each path of a tree something stands
pub kept_there : (t : Tree) (keeps : Path → Bool) (paths : List Path) → paths ≡ filter keeps (paths_of t) → All (λ path. IsSome (get t path)) paths
kept_there t keeps paths are =
    subst (All (λ path. IsSome (get t path))) (sym are)
    (All-filter keeps (λ path. IsSome (get t path)) (paths_of t) (stand_at t (paths_of t) (subst (All (IsItemOf t)) (items_listed t MAX_NAMES []) (items_there t MAX_NAMES []))))

-- ---- how it is told

own : (d : Device) (s : State) (view : View) → view_refusal (machine_on d s).history view ≡ view_refusal s.history view
own d s view = view_refusal-map (tree_on d) s.history view

-- how a look for what differs ended
pub record EndedSo (d : Device) (m : System) (view other : View) (result : Result (List Path) Fault) (e : Device) (n : System) : Type 0 where
  pub machine : machine_on e n.state ≡ machine_on d m.state
  pub pages : (p : ℕ) → e.pages p ≡ d.pages p
  pub failed_reads : d.failed_reads ≤ e.failed_reads
  pub ok : IfOk result (AreElsewhere d m.state view other)
  pub err : IfErr result (Meets d e)

module _ (d : Device) (m : System) (view other : View) (result : Result (List Path) Fault) (e : Device) (n : System) (s : IsSystem d m) (step : TellsDiffering d m view other result e n)
    (fine : view_refusal (machine_on d m.state).history view ≡ None) (fine' : view_refusal (machine_on d m.state).history other ≡ None) where
  nothing : (fault : Fault) → Meets d d fault → (result ≡ Err fault) × (e ≡ d) × (n ≡ m) → EndedSo d m view other result e n
  nothing fault why (is, same, kept) =
      subst (λ (r : Result (List Path) Fault). EndedSo d m view other r e n) (sym is)
      (subst (λ (x : Device). EndedSo d m view other (Err fault) x n) (sym same)
      (subst (λ (y : System). EndedSo d m view other (Err fault) d y) (sym kept)
      (record { machine = refl; pages = λ p. refl; failed_reads = omega arith; ok = tt; err = why })))

  works : (r : Result (List Path) Fault) → ComparesTrees d m view other r e n → EndedSo d m view other r e n
  works (Ok paths) is = record {
    machine = is.looks.stays.machine;
    pages = is.looks.stays.reads.pages;
    failed_reads = is.looks.stays.reads.failed_reads;
    ok = record { root = is.root; beside = is.beside; shown = record { first = is.shown; second = is.other_shown }; are = is.finds };
    err = tt;
  }
  works (Err fault) is = record {
    machine = is.looks.stays.machine;
    pages = is.looks.stays.reads.pages;
    failed_reads = is.looks.stays.reads.failed_reads;
    ok = tt;
    err = cause_meets d e m n fault is.finds;
  }

  pub ended_so : EndedSo d m view other result e n
  ended_so = by m.state.is_off refl
    where
      by : (off : Bool) → m.state.is_off ≡ off → EndedSo d m view other result e n
      by true off = nothing PowerCut (s.mounted.off off) (step.stopped off)
      by false on = works result (step.works on (sym (own d m.state view) ∙ fine) (sym (own d m.state other) ∙ fine'))

-- ---- what is told

module _ (d : Device) (m : System) (view other : View) (s : IsSystem d m) (fine : view_refusal (machine_on d m.state).history view ≡ None) (fine' : view_refusal (machine_on d m.state).history other ≡ None) where
  -- at each path that is not told both trees have the same
  alike_there : (root beside : ℕ) → ShowBoth m.state view other root beside → (path : Path) → differs_at (node_of d) root beside path ≡ false → get (view_tree (machine_on d m.state) view) path ≡ get (view_tree (machine_on d m.state) other) path
  alike_there root beside shown path untold =
      let a = moment d m.state in
      let first : Shows m.state.history m.state.group view root = record { fine = sym (own d m.state view) ∙ fine; shown = shown.first } in
      let second : Shows m.state.history m.state.group other beside = record { fine = sym (own d m.state other) ∙ fine'; shown = shown.second } in
      ap (λ (t : Tree). get t path) (view_tree_is a view root first)
      ∙ same_untold (capacity_of d) (node_of d) root beside (view_stands a view root s.mounted first).rooted (view_stands a other beside s.mounted second).rooted path untold
      ∙ sym (ap (λ (t : Tree). get t path) (view_tree_is a other beside second))

  pub elsewhere : (paths : List Path) (items : List Item) → AreElsewhere d m.state view other paths → items ≡ map (item_at (view_tree (machine_on d m.state) view)) paths → IsElsewhere d m.state view other items
  elsewhere paths items are is =
      let t = view_tree (machine_on d m.state) view in
      record {
        root = are.root;
        beside = are.beside;
        shown = are.shown;
        are = is ∙ ap (map (item_at t)) are.are ∙ kept_items t (differs_at (node_of d) are.root are.beside);
      }

  pub pruned : (items : List Item) → IsElsewhere d m.state view other items → IsPruned (view_tree (machine_on d m.state) view) (view_tree (machine_on d m.state) other) items
  pruned items is = record { keeps = differs_at (node_of d) is.root is.beside; alike = alike_there is.root is.beside is.shown; are = is.are }

-- ---- one item more

abbrev pub item_made : Path → Stat → Item
item_made path stat = record { path = path; stat = stat }

pub stats_more : (t : Tree) (paths : List Path) (i : ℕ) (path : Path) (item : Item) (loop new : List Item) → i < length paths → path ≡ get_or paths i path → item ≡ item_at t path
    → loop ≡ map (item_at t) (take i paths) → new ≡ loop ++ item ∷ [] → new ≡ map (item_at t) (take (i + 1) paths)
stats_more t paths i path item loop new within at is so_far more =
    let taken : take (i + 1) paths ≡ take i paths ++ path ∷ [] = take_more paths i path within ∙ ap (λ (p : Path). take i paths ++ p ∷ []) (sym at) in
    more ∙ ap₂ (λ (a : List Item) (b : Item). a ++ b ∷ []) so_far is ∙ sym (map-append (item_at t) (take i paths) (path ∷ [])) ∙ ap (map (item_at t)) (sym taken)

-- it is what stands at the path
pub item_is : (m n : Machine) (view : View) (path copy : Path) (stat : Stat) → n ≡ m → copy ≡ path → stat ≡ stat_of (view_tree n view) path (get (view_tree n view) path) → item_made copy stat ≡ item_at (view_tree m view) path
item_is m n view path copy stat same is at =
    let told : stat ≡ stat_of (view_tree m view) path (get (view_tree m view) path) = at ∙ ap (λ (x : Machine). stat_of (view_tree x view) path (get (view_tree x view) path)) same in
    ap₂ item_made is told

-- where something stands, a call that asks what it is is accepted
pub stat_some : (m : Machine) (view : View) → IsMachine m → view_refusal m.history view ≡ None → (path : Path) → IsSome (get (view_tree m view) path) → refusal m (Call.Stat view path) ≡ None
stat_some m view is seen path there = by (get (view_tree m view) path) refl there
  where
    by : (o : Option Entry) → get (view_tree m view) path ≡ o → IsSome o → refusal m (Call.Stat view path) ≡ None
    by None at some = absurd (true≢false (sym some))
    by (Some x) at some = stat_accepted m view is seen path x at

-- ---- what is told of a tree beside another

-- what may differ stands there
pub pruned_there : (t other : Tree) (items : List Item) → IsPruned t other items → All (IsItemOf t) items
pruned_there t other items is = subst (All (IsItemOf t)) (sym is.are) (All-filter (λ (item : Item). is.keeps item.path) (IsItemOf t) (items_of t) (items_there t MAX_NAMES []))

pub pruned_item : (first second : Machine) (view other : View) (items : List Item) (i : ℕ) (item : Item) → second ≡ first → IsPruned (view_tree first view) (view_tree first other) items → i < length items → item ≡ get_or items i item → IsItemOf (view_tree second view) item
pruned_item first second view other items i item same is within at =
    subst (λ (n : Machine). IsItemOf (view_tree n view) item) (sym same)
    (subst (IsItemOf (view_tree first view)) (sym at) (pruned_there (view_tree first view) (view_tree first other) items is i item within))

lines_skipped : (side : Side) (t other : Tree) (keeps : Path → Bool) (items : List Item) → ((path : Path) → keeps path ≡ false → get t path ≡ get other path) → All (IsItemOf t) items
    → flat_map (item_beside side t other) (filter (λ item. keeps item.path) items) ≡ flat_map (item_beside side t other) items
lines_skipped side t other keeps [] alike all = refl
lines_skipped side t other keeps (item ∷ items) alike all = by (keeps item.path) refl (lines_skipped side t other keeps items alike (All-tail (IsItemOf t) item items all))
  where
    none : keeps item.path ≡ false → item_beside side t other item ≡ []
    none left = ap (line_beside side item (get t item.path)) (sym (alike item.path left)) ∙ line_itself side item (get t item.path) (All-head (IsItemOf t) item items all).there

    by : (b : Bool) → keeps item.path ≡ b → flat_map (item_beside side t other) (filter (λ item. keeps item.path) items) ≡ flat_map (item_beside side t other) items
        → flat_map (item_beside side t other) (cond b (item ∷ filter (λ item. keeps item.path) items) (filter (λ item. keeps item.path) items)) ≡ item_beside side t other item ++ flat_map (item_beside side t other) items
    by true is rest = ap (λ (l : List ℕ). item_beside side t other item ++ l) rest
    by false is rest = rest ∙ ap (λ (l : List ℕ). l ++ flat_map (item_beside side t other) items) (sym (none is))

-- the lines of what may differ are all lines
pub pruned_lines : (side : Side) (t other : Tree) (items : List Item) → IsPruned t other items → flat_map (item_beside side t other) items ≡ lines_beside side t other
pruned_lines side t other items is =
    ap (flat_map (item_beside side t other)) is.are ∙ lines_skipped side t other is.keeps (items_of t) is.alike (items_there t MAX_NAMES [])

-- the line of one item more
pub lines_more : (f : Item → List ℕ) (items : List Item) (i : ℕ) (item : Item) (start loop new : List ℕ) → i < length items → item ≡ get_or items i item → loop ≡ start ++ flat_map f (take i items) → new ≡ loop ++ f item
    → new ≡ start ++ flat_map f (take (i + 1) items)
lines_more f items i item start loop new within at is more =
    let taken : take (i + 1) items ≡ take i items ++ item ∷ [] = take_more items i item within ∙ ap (λ (x : Item). take i items ++ x ∷ []) (sym at) in
    more ∙ ap (λ (x : List ℕ). x ++ f item) is ∙ flat_map_more f start (take i items) item ∙ ap (λ (x : List Item). start ++ flat_map f x) (sym taken)
