-- What a mount has found: the working state that it makes of a record, and why it makes none.
use Rattle.std.proofs.Common.{◌≡◌, ◌≢◌, replicate, inl, inr, ℕ, zero, suc, ◌-◌, ◌<◌, Bool, true, false, ◌||◌, Option, Some, None, Result, Err, List, [], ◌∷◌, ◌++◌, length, map, refl, sym, ap, subst, ◌∙◌, arith}
use Rattle.std.proofs.lemmas.Bool.{true≢false}
use Rattle.std.proofs.lemmas.List.Elements.{All-map, Contains-append_left, Contains-append_right}
use Rattle.std.proofs.lemmas.Cmp.{nat_cmp_total}
use Rattle.std.specs.Prelude.{◌↔◌, Contains, IfErr, slice_index_or, IfSome}
use Rattle.std.specs.FinSet as set
use Rattle.std.specs.List.Sorted.{IsStrictlySortedBy}
use Rattle.std.specs.Option.{option_map}
use Rattle.std.specs.Ordering.{nat_cmp}
use Rattle.fs_types.specs.Names.{Name, name_cmp}
use Rattle.fs_types.specs.declared.call.Group.{Group}
use Rattle.fs_types.specs.declared.call.Version.{Version}
use Rattle.fs_types.specs.declared.fault.Fault.{Fault}
use Rattle.history_machine.specs.Descriptors.{Descriptor, Descriptors, none_open, descriptor_at}
use Rattle.history_machine.specs.History.{Past, IsLawful, map_roots, map_group}
use Rattle.history_machine.specs.HistoryMaps.{lawful-map}
use Rattle.history_machine.specs.Machine.{IsMachine, machine_with}
use Rattle.plain_trees.proofs.Beneath.{None≢Some}
use Rattle.plain_trees.specs.Trees.{Tree, IsFileTree}
use Rattle.flash_model.specs.declared.geometry.Geometry.{Geometry}
use Rattle.flash_model.specs.Device.{Device}
use Rattle.flash_model.specs.Geometry.{IsGeometry, block_bytes}
use Rattle.flash_model.specs.Reading.{OnlyReads}
use Rattle.node_format.specs.Headers.{body_header}
use Rattle.node_store.specs.Fitting.{Fits}
use Rattle.node_store.specs.NodePages.{node_of}
use Rattle.node_store.specs.ReadingLaws.{OnlyReads_nodes}
use Rattle.nodes.specs.Bodies.{Blocks}
use Rattle.nodes.specs.Reached.{Reached, IsFirst, IsNamed}
use Rattle.nodes.specs.Trees.{IsRoot}
use Rattle.nodes.proofs.FileTrees.{all_file_trees}
use Rattle.reclaim.specs.Sound.{IsPlain}
use Rattle.reclaim.specs.Verified.{AreRoots}
use Rattle.record_format.specs.declared.record.Record.{Record}
use Rattle.working_state.specs.Seen.{capacity_of, tree_on, machine_on}
use Rattle.working_state.specs.Mounted.{IsStanding, IsMounted}
use Rattle.working_state.specs.Roots.{HasRoot}
use Rattle.working_state.specs.declared.state.State.{State}
use Rattle.mounting.specs.Records.{history_of, roots_of, knows_plain_only, HaveTrees, HasTrees, IsLoaded, RootsCause}

-- with no note exactly the marked blocks are used
pub installed : (marks note used : set.FinSet nat_cmp) (f : Blocks) (roots : List ℕ) → note ≡ set.empty → used ≡ set.union marks note
    → ((b : ℕ) → (set.contains marks b ≡ true) ↔ Reached f roots b) → (b : ℕ) → (set.contains used b ≡ true) ↔ Reached f roots b
installed marks note used f roots none is exact b =
    let same : set.contains used b ≡ set.contains marks b =
    ap (λ (s : set.FinSet nat_cmp). set.contains s b) (is ∙ ap (set.union marks) none)
    ∙ set.contains-union nat_cmp_total marks set.empty b
    ∙ ap (λ (x : Bool). set.contains marks b || x) (set.contains-empty nat_cmp b)
    ∙ or_false (set.contains marks b) in
    (λ has. (exact b).0 (sym same ∙ has), λ reached. same ∙ (exact b).1 reached)
  where
    or_false : (x : Bool) → (x || false) ≡ x
    or_false true = refl
    or_false false = refl

pub contains_front : {X : Type 0} (f : X → ℕ) (xs : List X) (rest : List ℕ) (k : ℕ) (d : X) → k < length xs → Contains (map f xs ++ rest) (f (slice_index_or xs k d))
contains_front f [] rest k d within = absurd (omega arith)
contains_front f (x ∷ xs) rest zero d within = (0, omega arith, refl)
contains_front f (x ∷ xs) rest (suc k) d within =
    let there = contains_front f xs rest k d (omega arith) in
    (suc there.0, let l : there.0 < length (map f xs ++ rest) = there.1 in omega arith, there.2)

pub contains_back : {X : Type 0} (f : X → ℕ) (front : List ℕ) (xs : List X) (k : ℕ) (d : X) → k < length xs → Contains (front ++ map f xs) (f (slice_index_or xs k d))
contains_back f [] [] k d within = absurd (omega arith)
contains_back f [] (x ∷ xs) zero d within = (0, omega arith, refl)
contains_back f [] (x ∷ xs) (suc k) d within =
    let there = contains_back f [] xs k d (omega arith) in
    (suc there.0, let l : there.0 < length (map f xs) = there.1 in omega arith, there.2)
contains_back f (r ∷ front) xs k d within =
    let there = contains_back f front xs k d within in
    (suc there.0, let l : there.0 < length (front ++ map f xs) = there.1 in omega arith, there.2)

-- what one of the roots reaches they all reach
reached_with : (f : Blocks) (root : ℕ) (roots : List ℕ) → Contains roots root → (b : ℕ) → Reached f (root ∷ []) b → Reached f roots b
reached_with f root roots has b (IsFirst (zero, below, is)) = subst (Reached f roots) is (IsFirst has)
reached_with f root roots has b (IsFirst (suc k, below, is)) = absurd (omega arith)
reached_with f root roots has b (IsNamed {block = c} reached names) = IsNamed (reached_with f root roots has c reached) names

none-at : (n descriptor : ℕ) (d : Descriptor) → descriptor_at (replicate n None) descriptor ≡ Some d → ⊥
none-at zero descriptor d e = absurd cc
none-at (suc n) zero d e = absurd cc
none-at (suc n) (suc descriptor) d e = none-at n descriptor d e

map-names : {R T : Type 0} (f : R → T) (es : List (Name × R)) → map (λ (e : Name × T). e.0) (map (λ (e : Name × R). (e.0, f e.1)) es) ≡ map (λ (e : Name × R). e.0) es
map-names f [] = refl
map-names f (e ∷ es) = ap (λ (rest : List Name). e.0 ∷ rest) (map-names f es)

-- where neither the sizes nor the nodes are others, the trees of roots stay
pub later_trees : (d e : Device) (plain : Bool) (roots : List ℕ) → e.geometry ≡ d.geometry → node_of e ≡ node_of d → HaveTrees plain d roots → HaveTrees plain e roots
later_trees d e plain roots sizes nodes trees =
    subst (λ (x : ℕ × Blocks). AreRoots x.0 x.1 roots × (plain ≡ true → IsPlain x.1 roots)) (λ i. (block_bytes (sym sizes i), sym nodes i)) trees

-- what was found before a working state is made: after reads alone
pub record IsBuilt (d e : Device) (r : Record) (s : State) : Type 0 where
  pub lawful : IsGeometry d.geometry
  pub only_reads : OnlyReads d e
  pub history : s.history ≡ history_of r
  pub sound : IsLawful s.history
  pub named : IsStrictlySortedBy name_cmp (map (λ (x : Name × ℕ). x.0) s.history.checkpoints)
  pub trees : HasTrees d r
  pub used : (b : ℕ) → (set.contains s.storage.ring.used b ≡ true) ↔ Reached (node_of d) (roots_of (history_of r)) b
  pub ring_blocks : s.storage.ring.blocks ≡ d.geometry.blocks
  pub bad : s.storage.bad ≡ set.from_list r.bad
  pub last : s.storage.ring.last ≡ r.last
  pub fits : Fits e s.storage
  pub ungrouped : s.group ≡ None
  pub files : s.files ≡ none_open
  pub is_on : s.is_off ≡ false

module _ (d e : Device) (r : Record) (s : State) (built : IsBuilt d e r s) where
  same_nodes : node_of e ≡ node_of d
  same_nodes = OnlyReads_nodes d e built.lawful built.only_reads

  same_sizes : e.geometry ≡ d.geometry
  same_sizes = built.only_reads.geometry

  used_there : (b : ℕ) → (set.contains s.storage.ring.used b ≡ true) ↔ Reached (node_of e) (roots_of (history_of r)) b
  used_there = subst (λ (f : Blocks). (b : ℕ) → (set.contains s.storage.ring.used b ≡ true) ↔ Reached f (roots_of (history_of r)) b) (sym same_nodes) built.used

  trees_there : (root : ℕ) → Contains (roots_of s.history) root → IsRoot (capacity_of e) (node_of e) root
  trees_there root has =
      let there : IsRoot (capacity_of d) (node_of d) root = built.trees.0 root (subst (λ (h : Past ℕ). Contains (roots_of h) root) built.history has) in
      let nodes : IsRoot (capacity_of d) (node_of e) root = subst (λ (f : Blocks). IsRoot (capacity_of d) f root) (sym same_nodes) there in
      subst (λ (g : Geometry). IsRoot (block_bytes g - body_header) (node_of e) root) (sym same_sizes) nodes

  stands : (root : ℕ) → Contains (roots_of s.history) root → IsStanding e s.storage.ring root
  stands root has = record {
    held = λ first named b reached. (used_there b).1 (reached_with (node_of e) root (roots_of (history_of r)) (subst (λ (h : Past ℕ). Contains (roots_of h) root) built.history has) b
        (subst (λ (x : ℕ). Reached (node_of e) (x ∷ []) b) (sym named) reached));
    rooted = trees_there root has;
  }

  version_root : (k : ℕ) (v : Version ℕ) → k < length s.history.versions → Contains (roots_of s.history) (slice_index_or s.history.versions k v).root
  version_root k v below = contains_front (λ (x : Version ℕ). x.root) s.history.versions (map (λ (x : Name × ℕ). x.1) s.history.checkpoints) k v below

  checkpoint_root : (k : ℕ) (x : Name × ℕ) → k < length s.history.checkpoints → Contains (roots_of s.history) (slice_index_or s.history.checkpoints k x).1
  checkpoint_root k x below = contains_back (λ (y : Name × ℕ). y.1) (map (λ (v : Version ℕ). v.root) s.history.versions) s.history.checkpoints k x below

  is_tree : (root : ℕ) → Contains (roots_of s.history) root → IsFileTree (tree_on e root)
  is_tree root has = all_file_trees (capacity_of e) (node_of e) root (trees_there root has)

  is_named : (root : ℕ) → HasRoot s root → Contains (roots_of s.history) root
  is_named root (inl has) = Contains-append_left _ (map (λ (x : Name × ℕ). x.1) s.history.checkpoints) root has
  is_named root (inr (inr has)) = absurd (None≢Some (sym (ap (option_map (λ g. g.root)) built.ungrouped) ∙ has))
  is_named root (inr (inl has)) = Contains-append_right (map (λ (v : Version ℕ). v.root) s.history.versions) _ root has

  is_machine : IsMachine (machine_on e s)
  is_machine = record {
    lawful = lawful-map (tree_on e) s.history built.sound;
    trees = All-map (λ (v : Version Tree). IsFileTree v.root) (λ (v : Version ℕ). record { serial = v.serial; root = tree_on e v.root }) s.history.versions (λ k v below. is_tree _ (version_root k v below));
    kept = All-map (λ (x : Name × Tree). IsFileTree x.1) (λ (x : Name × ℕ). (x.0, tree_on e x.1)) s.history.checkpoints (λ k x below. is_tree _ (checkpoint_root k x below));
    named = subst (IsStrictlySortedBy name_cmp) (sym (map-names (tree_on e) s.history.checkpoints)) built.named;
    grouped = subst (λ (o : Option (Group ℕ)). IfSome (map_group (tree_on e) o) (λ g. IsFileTree g.root)) (sym built.ungrouped) tt;
    places = ap length built.files;
    files = λ descriptor x is. absurd (none-at 16 descriptor x (ap (λ (places : Descriptors). descriptor_at places descriptor) (sym built.files) ∙ is));
  }

  is_mounted : IsMounted e s
  is_mounted = record {
    lawful = subst IsGeometry (sym same_sizes) built.lawful;
    ring_blocks = built.ring_blocks ∙ ap (λ (g : Geometry). g.blocks) (sym same_sizes);
    fits = built.fits;
    roots = λ root has. stands root (is_named root has);
    machine = is_machine;
    off = λ off. absurd (true≢false (sym off ∙ built.is_on));
  }

  pub built_loaded : IsLoaded e r s
  built_loaded = record {
    mounted = is_mounted;
    is_on = built.is_on;
    history = built.history;
    machine = λ i. machine_with (map_roots (tree_on e) (built.history i)) (map_group (tree_on e) (built.ungrouped i)) (built.files i);
    bad = built.bad;
    last = built.last;
    used = used_there;
    trees = later_trees d e (knows_plain_only r) (roots_of (history_of r)) same_sizes same_nodes built.trees;
  }

-- why trees of roots are not found, by another name of the roots and of the answer
pub err_roots : (A : Type 0) (plain : Bool) (old new : Device) (found roots : List ℕ) (r : Result A Fault) (fault : Fault) → found ≡ roots → r ≡ Err fault → RootsCause plain old found new fault → IfErr r (RootsCause plain old roots new)
err_roots A plain old new found roots r fault same is why = subst (λ r. IfErr r (RootsCause plain old roots new)) (sym is) (subst (λ all. RootsCause plain old all new fault) same why)
