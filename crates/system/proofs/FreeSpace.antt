-- The blocks that are free once versions are forgotten, by the first root that reaches each.
use Rattle.std.proofs.Common.{◌≡◌, ℕ, ◌+◌, ◌-◌, ◌<◌, ◌≤◌, Bool, Result, Ok, Err, List, ◌++◌, length, take, drop, reverse, map, get_or, count_by, refl, sym, ap, subst, ◌∙◌, arith}
use Rattle.std.proofs.lemmas.List.{length-append, length-map, length-reverse, length-take-le, length-drop, get_or-take, get_or-drop, get_or-reverse, take_all, drop-append-le, drop-map}
use Rattle.std.specs.FinSet as set
use Rattle.std.specs.Prelude.{Contains}
use Rattle.fs_types.specs.Names.{Name}
use Rattle.fs_types.specs.declared.call.Version.{Version}
use Rattle.fs_types.specs.declared.fault.Fault.{Fault}
use Rattle.fs_types.specs.declared.fault.Fault.TheVariants.{FlashFull}
use Rattle.fs_types.specs.declared.limits.TheConstants.{ANCHORS}
use Rattle.plain_trees.specs.Trees.{Tree}
use Rattle.flash_model.specs.Device.{Device}
use Rattle.bad_blocks.specs.Mode.{bad_anchors}
use Rattle.block_ring.specs.Ring.{data_blocks}
use Rattle.node_store.specs.NodePages.{node_of}
use Rattle.nodes.specs.Reached.{Reached}
use Rattle.reclaim.proofs.MoreRoots.{reached_more}
use Rattle.tree_counts.specs.Counts.{CountsFree}
use Rattle.working_state.specs.Mounted.{IsMounted}
use Rattle.working_state.specs.Seen.{seen_on, tree_on}
use Rattle.working_state.specs.Worked.{ReadCause}
use Rattle.working_state.specs.declared.state.State.{State}
use Rattle.mounting.specs.Costs.{AsksEach}
use Rattle.mounting.specs.Records.{group_roots, working_roots}
use Rattle.system.specs.HistorySpace.{after_forget, FreeAfter, Finds, FindsIn}
use Rattle.system.proofs.Measured.{listed_reached}

-- ---- lists from the other end

module _ (xs : List ℕ) (k : ℕ) (few : k ≤ length xs) where
  long : length (take (length xs - k) (reverse xs)) ≡ length xs - k
  long = length-take-le (length xs - k) (reverse xs) (omega (arith, length-reverse xs))

  -- the first ones from the other end are those that are left without the first k
  pub front_left : (r : ℕ) → Contains (take (length xs - k) (reverse xs)) r → Contains (drop k xs) r
  front_left r (i, below, at) =
      let low : i < length xs - k = omega (arith, long) in (
        length xs - 1 - i - k,
        omega (arith, length-drop k xs),
        get_or-drop k xs (length xs - 1 - i - k) r
            ∙ ap (λ (j : ℕ). get_or xs j r) (let e : k + (length xs - 1 - i - k) ≡ length xs - 1 - i = omega arith in e)
            ∙ sym (get_or-reverse xs i r (omega arith)) ∙ sym (get_or-take (length xs - k) (reverse xs) i r low) ∙ at,
      )

  pub left_front : (r : ℕ) → Contains (drop k xs) r → Contains (take (length xs - k) (reverse xs)) r
  left_front r (j, below, at) =
      let low : j < length xs - k = omega (arith, length-drop k xs) in
      let i : ℕ = length xs - 1 - (k + j) in (
        length xs - 1 - (k + j),
        omega (arith, long),
        get_or-take (length xs - k) (reverse xs) (length xs - 1 - (k + j)) r (omega arith)
            ∙ get_or-reverse xs (length xs - 1 - (k + j)) r (omega arith)
            ∙ ap (λ (j : ℕ). get_or xs j r) (let e : length xs - 1 - (length xs - 1 - (k + j)) ≡ k + j = omega arith in e)
            ∙ sym (get_or-drop k xs j r) ∙ at,
      )

-- the other way round a list has the same members
pub reverse_has : (xs : List ℕ) (r : ℕ) → Contains (reverse xs) r → Contains xs r
reverse_has xs r has = front_left xs 0 (omega arith) r (subst (λ (l : List ℕ). Contains l r) (sym (take_all (length xs - 0) (reverse xs) (omega (arith, length-reverse xs)))) has)

pub asks_same : (d e : Device) (xs ys : List ℕ) → ((r : ℕ) → Contains xs r → Contains ys r) → AsksEach d xs e → AsksEach d ys e
asks_same d e xs ys more asks = record {
  blocks = asks.blocks;
  are = record { distinct = asks.are.distinct; reached = λ b has. reached_more (node_of d) xs ys more (asks.are.reached b has) };
  most = asks.most;
}

-- ---- roots that are left

pub count_roots : (s : State) → length s.history.versions ≤ length (working_roots s)
count_roots s =
    let versions = map (λ (v : Version ℕ). v.root) s.history.versions in
    let checkpoints = map (λ (e : Name × ℕ). e.1) s.history.checkpoints in
    omega (arith, length-map s.history.versions (λ (v : Version ℕ). v.root), length-append versions checkpoints, length-append (versions ++ checkpoints) (group_roots s.group))

pub roots_left : (s : State) (k : ℕ) → k ≤ length s.history.versions → drop k (working_roots s) ≡ working_roots (after_forget s k)
roots_left s k few =
    let versions = map (λ (v : Version ℕ). v.root) s.history.versions in
    let checkpoints = map (λ (e : Name × ℕ). e.1) s.history.checkpoints in
    let many = length-map s.history.versions (λ (v : Version ℕ). v.root) in
    drop-append-le k (versions ++ checkpoints) (group_roots s.group) (omega (arith, length-append versions checkpoints))
    ∙ ap (λ (l : List ℕ). l ++ group_roots s.group)
    (drop-append-le k versions checkpoints (omega arith) ∙ ap (λ (l : List ℕ). l ++ checkpoints) (drop-map (λ (v : Version ℕ). v.root) k s.history.versions))

-- ---- free blocks

-- what is counted free beside the first roots from the other end is free as `df` shows it
pub free_after : (d : Device) (s : State) (k free : ℕ) → k ≤ length s.history.versions
    → CountsFree (node_of d) d.geometry.blocks s.storage.bad (take (length (working_roots s) - k) (reverse (working_roots s))) free → FreeAfter d s k free
free_after d s k free few counts =
    let roots = working_roots s in
    let within : k ≤ length roots = omega (arith, count_roots s) in
    let left = roots_left s k few in
    record {
      space = record {
        blocks = d.geometry.blocks - ANCHORS;
        bad = count_by (set.contains s.storage.bad) (data_blocks d.geometry.blocks);
        free = free;
        anchors = ANCHORS - bad_anchors s.storage.bad;
      };
      is = record {
        blocks = refl;
        bad = refl;
        reached = counts.reached;
        are_reached = λ b. (
          λ has. (listed_reached d (after_forget s k) b).0
              (subst (λ (l : List ℕ). Reached (node_of d) l b) left (reached_more (node_of d) (take (length roots - k) (reverse roots)) (drop k roots) (front_left roots k within) ((counts.are_reached b).0 has))),
          λ reached. (counts.are_reached b).1
              (reached_more (node_of d) (drop k roots) (take (length roots - k) (reverse roots)) (left_front roots k within)
              (subst (λ (l : List ℕ). Reached (node_of d) l b) (sym left) ((listed_reached d (after_forget s k) b).1 reached))),
        );
        free = counts.free;
        anchors = refl;
      };
      free_is = refl;
    }

-- the present version is one of those that are kept
pub cursor_within : (d : Device) (s : State) → IsMounted d s → s.history.cursor < length s.history.versions
cursor_within d s m =
    let shown : Version ℕ → Version Tree = λ v. record { serial = v.serial; root = tree_on d v.root } in
    omega (arith, m.machine.lawful.cursor_in, length-map s.history.versions shown)

-- whether the power is known to be off tells nothing of what is free
pub free_still : (d : Device) (s : State) (k free : ℕ) (off : Bool) → FreeAfter d s k free → FreeAfter d (record s { is_off = off }) k free
free_still d s k free off is = record {
  space = is.space;
  is = record { blocks = is.is.blocks; bad = is.is.bad; reached = is.is.reached; are_reached = is.is.are_reached; free = is.is.free; anchors = is.is.anchors };
  free_is = is.free_is;
}

pub finds_still : (d : Device) (s : State) (blocks : ℕ) (e : Device) (t : State) (off : Bool) (r : Result ℕ Fault) → Finds d s blocks r e t → Finds d s blocks r e (record t { is_off = off })
finds_still d s blocks e t off (Ok count) finds = record {
  within = finds.within;
  enough = (finds.enough.0, free_still e t count finds.enough.0 off finds.enough.1, finds.enough.2);
  least = λ fewer less. let x = finds.least fewer less in (x.0, free_still e t fewer x.0 off x.1, x.2);
}
finds_still d s blocks e t off (Err FlashFull) finds = λ count within. let x = finds count within in (x.0, free_still e t count x.0 off x.1, x.2)
finds_still d s blocks e t off (Err _) finds = finds

-- what is found without a read
pub finds_in : (d : Device) (s : State) (blocks : ℕ) (e : Device) (t : State) (r : Result ℕ Fault) → FindsIn e t blocks r → Finds d s blocks r e t
finds_in d s blocks e t (Ok count) finds = finds
finds_in d s blocks e t (Err fault) finds = subst (λ (x : Fault). Finds d s blocks (Err x) e t) (sym finds.0) finds.1

-- what the reading met
pub finds_refused : (d : Device) (s : State) (blocks : ℕ) (e : Device) (t : State) (fault : Fault) → ReadCause (seen_on d s) fault (seen_on e t) → Finds d s blocks (Err fault) e t
finds_refused d s blocks e t FlashFull why = absurd why
finds_refused d s blocks e t _ why = why
