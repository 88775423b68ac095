-- A fresh system: its one version is the empty root.
use Rattle.std.proofs.Common.{◌≡◌, ℕ, zero, suc, ◌+◌, ◌-◌, ◌*◌, ◌<◌, ◌≤◌, ◌≢◌, ◌⊎◌, inl, inr, Bool, true, false, cond, List, Option, Some, None, [], length, Result, Ok, Err, refl, sym, ap, subst, ◌∙◌, arith}
use Rattle.std.proofs.Math.Nat.{add-mul}
use Rattle.std.proofs.lemmas.Bool.{true≢false, cases_Bool}
use Rattle.std.proofs.lemmas.Bool.Decides.{nat_tests}
use Rattle.std.proofs.lemmas.Nat.{mul-le}
use Rattle.std.proofs.lemmas.List.Elements.{All-push}
use Rattle.std.proofs.lemmas.List.Sums.{sum_by-cons}
use Rattle.std.specs.Prelude.{not, ◌||◌, count_by, IfOk, IfErr, IfSome, IsTrue}
use Rattle.std.specs.FinSet as set
use Rattle.std.specs.List.{range_with_len}
use Rattle.std.specs.Ordering.{nat_cmp}
use Rattle.history_machine.specs.History.{Past, fresh, map_roots, map_group}
use Rattle.history_machine.specs.Descriptors.{Descriptors, none_open}
use Rattle.history_machine.specs.Machine.{IsMachine, mounted, machine_with}
use Rattle.plain_trees.specs.Trees.{Tree, bare}
use Rattle.fs_types.specs.declared.call.Version.{Version}
use Rattle.fs_types.specs.declared.call.Group.{Group}
use Rattle.fs_types.specs.declared.fault.Fault.{Fault}
use Rattle.fs_types.specs.declared.fault.Fault.TheVariants.{FlashFull, ReadOnly, PowerCut, NoMemory, Invalid}
use Rattle.fs_types.specs.declared.limits.TheConstants.{ANCHORS}
use Rattle.history_machine.proofs.Kept.{machine_law}
use Rattle.flash_model.specs.Device.{Device}
use Rattle.flash_model.specs.declared.geometry.Geometry.{Geometry}
use Rattle.flash_model.specs.Geometry.{IsGeometry, is_page_size}
use Rattle.block_ring.specs.Ring.{Ring, IsDataBlock, is_busy, free_count, IsNext}
use Rattle.block_ring.specs.RingLaws.{distance_earlier}
use Rattle.node_store.specs.declared.storage.Storage.{Storage}
use Rattle.node_store.specs.NodeLaws.{pages_for-most}
use Rattle.node_store.specs.NodePages.{node_of}
use Rattle.nodes.specs.PageCounts.{pages_for}
use Rattle.node_store.specs.Fitting.{Fits, StillFits}
use Rattle.node_store.specs.Storage as parts
use Rattle.node_store.specs.Storage.{Evolved, Pays, Spends, Adds, unpaid}
use Rattle.node_format.specs.Links.{link, link_at, chain_bytes}
use Rattle.nodes.specs.Chains.{link_of}
use Rattle.nodes.specs.Trees.{entries_in}
use Rattle.nodes.proofs.Chains.{first_law}
use Rattle.nodes.proofs.RootMaps.{empty_root}
use Rattle.working_state.specs.Fresh.{unused_ring, unused_beside, IsFirstGood, IsBegun, AsksForRoot, HasGrown, BeginCause, RootCause}
use Rattle.working_state.specs.Leaves.{HasWritten}
use Rattle.working_state.specs.Moments.{moment, Moment, IsMountedAt, nodes_at, capacity_at}
use Rattle.working_state.specs.Seen.{IsLaterFlash, capacity_of, tree_on}
use Rattle.working_state.specs.Mounted.{IsStanding}
use Rattle.working_state.specs.declared.state.State.{State}
use Rattle.nodes.proofs.EmptyDirectories.{empty_held}
use Rattle.working_state.proofs.Roots.{with_history, all_roots, at_history}
use Rattle.working_state.proofs.Standing.{AllStand}
use Rattle.working_state.proofs.BadCounts.{len-within}
use Rattle.working_state.proofs.BadData.{all_bad}

-- an empty root stands
empty_stands : (a : Moment) (root : ℕ) → entries_in (nodes_at a) root ≡ Some [] → set.contains a.state.storage.ring.used root ≡ true → IsStanding a.device a.state.storage.ring root
empty_stands a root empty kept = record {
  held = empty_held (nodes_at a) root empty (set.contains a.state.storage.ring.used) kept;
  rooted = (empty_root (capacity_at a) (nodes_at a) root empty).0;
}

fresh_stand : (a : Moment) (limit root : ℕ) → a.state.group ≡ None → IsStanding a.device a.state.storage.ring root → AllStand (at_history a (fresh limit root))
fresh_stand a limit root none stands =
    all_roots (IsStanding a.device a.state.storage.ring) (with_history a.state (fresh limit root))
    (All-push (λ (v : Version ℕ). IsStanding a.device a.state.storage.ring v.root) [] (record { serial = 1; root = root }) (λ k v below. absurd (omega arith)) stands)
    (λ k e below. absurd (omega arith))
    (subst (λ (g : Option (Group ℕ)). IfSome g (λ g. IsStanding a.device a.state.storage.ring g.root)) (sym none) tt)

pub fresh_machine : (d : Device) (h : Past ℕ) (group : Option (Group ℕ)) (files : Descriptors) (limit root : ℕ) → h ≡ fresh limit root → group ≡ None → files ≡ none_open → entries_in (node_of d) root ≡ Some []
    → machine_with (map_roots (tree_on d) h) (map_group (tree_on d) group) files ≡ mounted (fresh limit bare)
fresh_machine d h group files limit root is outside none empty =
    let history =
    ap (λ (p : Past ℕ). map_roots (tree_on d) p) is
    ∙ ap (λ (t : Tree). fresh limit t) (empty_root (capacity_of d) (node_of d) root empty).1 in
    (λ i. machine_with (history i) (map_group (tree_on d) (outside i)) (none i))

pub fresh_mounted : (a : Moment) (limit root : ℕ) → a.state.is_off ≡ false → IsGeometry a.device.geometry → a.state.storage.ring.blocks ≡ a.device.geometry.blocks → Fits a.device a.state.storage
    → 2 ≤ limit → a.state.history ≡ fresh limit root → a.state.group ≡ None → a.state.files ≡ none_open → entries_in (nodes_at a) root ≡ Some [] → set.contains a.state.storage.ring.used root ≡ true → IsMountedAt a
fresh_mounted a limit root on lawful blocks fits some is outside none empty kept =
    let all = subst (λ h. AllStand (at_history a h)) (sym is) (fresh_stand a limit root outside (empty_stands a root empty kept)) in
    record {
      lawful = lawful;
      ring_blocks = blocks;
      fits = fits;
      roots = all;
      machine = subst IsMachine (sym (fresh_machine a.device a.state.history a.state.group a.state.files limit root is outside none empty)) (machine_law.first limit some);
      off = λ off. absurd (true≢false (sym off ∙ on));
    }

-- What it begins with, and why it is refused.

abbrev one_if : Bool → ℕ
one_if b = cond b 1 0

-- all of so many
count_all : (p : ℕ → Bool) (a n : ℕ) → ((b : ℕ) → a ≤ b → p b ≡ true) → count_by p (range_with_len a n) ≡ n
count_all p a zero each = refl
count_all p a (suc n) each =
    let rest = count_all p (a + 1) n (λ b low. each b (omega arith)) in
    let one : one_if (p a) ≡ 1 = ap one_if (each a (omega arith)) in
    let first = sum_by-cons (λ b. one_if (p b)) a (range_with_len (a + 1) n) in
    omega (arith, rest, one, first)

abbrev pub AreAnchors : set.FinSet nat_cmp → Type 0
AreAnchors bad = (b : ℕ) → set.contains bad b ≡ true → b < ANCHORS

no-data : (bad : set.FinSet nat_cmp) → AreAnchors bad → (b : ℕ) → ANCHORS ≤ b → set.contains bad b ≡ false
no-data bad are b low = elim (cases_Bool (set.contains bad b)) [
  | inl has ↦ absurd (let below = are b has in omega arith)
  | inr free ↦ free
]

-- on an unused flash the next block is the first data block that is not bad
busy_unused : (blocks : ℕ) (bad : set.FinSet nat_cmp) (b : ℕ) → is_busy (unused_ring blocks) bad b ≡ set.contains bad b
busy_unused blocks bad b = ap (λ t. t || set.contains bad b) (set.contains-empty nat_cmp b)

-- each data block of an unused flash is free, where only anchors are bad
free_unused : (blocks : ℕ) (bad : set.FinSet nat_cmp) → AreAnchors bad → free_count (unused_ring blocks) bad ≡ blocks - ANCHORS
free_unused blocks bad are =
    count_all (λ b. not (is_busy (unused_ring blocks) bad b)) ANCHORS (blocks - ANCHORS)
    (λ b low. ap not (busy_unused blocks bad b ∙ no-data bad are b low))

begins : (d : Device) (was : set.FinSet nat_cmp) (s : Storage) (p : parts.Storage) → s.bad ≡ was → s.ring ≡ unused_ring d.geometry.blocks → Evolved (parts.storage d s.bad s.ring) p → Evolved (unused_beside was d) p
begins d was s p bad ring evolved =
    let same : parts.storage d s.bad s.ring ≡ unused_beside was d = λ i. parts.storage d (bad i) (ring i) in
    subst (λ q. Evolved q p) same evolved

grown : (d : Device) (was : set.FinSet nat_cmp) (e : Device) (t : Storage) → Evolved (unused_beside was d) (parts.storage e t.bad t.ring) → HasGrown d was e t.bad
grown d was e t evolved = record { stays_bad = evolved.stays_bad; bad_worn = evolved.bad_worn; worn = evolved.worn; failures = evolved.failures }

pub begin_cause : (d : Device) (was : set.FinSet nat_cmp) (s : Storage) (fault : Fault) (e : Device) (t : Storage) → AreAnchors was → s.bad ≡ was → s.ring ≡ unused_ring d.geometry.blocks → HasWritten d s 1 e t
    → ((b : ℕ) → set.contains t.ring.used b ≡ true → IsDataBlock t.ring.blocks b) → RootCause (parts.storage d s.bad s.ring) fault (parts.storage e t.bad t.ring) → BeginCause d was fault e
begin_cause d was s FlashFull e t are bad ring written used why =
    let evolved = begins d was s (parts.storage e t.bad t.ring) bad ring written.evolved in
    let same : set.len s.bad ≡ set.len was = ap set.len bad in
    let free : free_count s.ring s.bad ≡ d.geometry.blocks - ANCHORS = (λ i. free_count (ring i) (bad i)) ∙ free_unused d.geometry.blocks was are in
    let many : d.geometry.blocks - ANCHORS + set.len was ≤ set.len t.bad = omega arith in (
      t.bad,
      record {
        grown = grown d was e t evolved;
        all = all_bad was t.bad d.geometry.blocks (λ b has new. subst (λ (n : ℕ). IsDataBlock n b) evolved.blocks (used b (evolved.bad_used b has new))) many;
        many = many;
        by_data = evolved.bad_data;
      },
    )
begin_cause d was s ReadOnly e t are bad ring written used why =
    let evolved = begins d was s (parts.storage e t.bad t.ring) bad ring written.evolved in
    (t.bad, record { grown = grown d was e t evolved; full = why; by_data = evolved.bad_data })
begin_cause d was s PowerCut e t are bad ring written used why = why
begin_cause d was s NoMemory e t are bad ring written used why = tt
begin_cause d was s _ e t are bad ring written used why = absurd why

unpaid_one : (result : Result ℕ Fault) → unpaid result ≤ 1
unpaid_one (Ok root) = omega arith
unpaid_one (Err PowerCut) = omega arith
unpaid_one (Err FlashFull) = omega arith
unpaid_one (Err _) = omega arith

-- the one write of the root: what it leaves, what it reads as, and why it is refused
pub root_written : (d : Device) (s : Storage) (e : Device) (t : Storage) (result : Result ℕ Fault) → Evolved (parts.storage d s.bad s.ring) (parts.storage e t.bad t.ring)
    → Pays (parts.storage d s.bad s.ring) (parts.storage e t.bad t.ring) (unpaid result) → StillFits d s e t → HasWritten d s 1 e t
root_written d s e t result evolved pays fits = record {
  evolved = evolved;
  paid = let one = unpaid_one result in omega arith;
  fits = fits;
}

-- so many takes, and what each spends
spent : (before after was now n more failed : ℕ) → now ≡ was + n → n ≤ 1 + failed → more ≤ 2 → after + was * more ≤ before + now * more → after ≤ before + (1 + failed) * 2
spent before after was now n more failed taken few small all =
    let sum : now * more ≡ was * more + n * more = ap (λ (k : ℕ). k * more) taken ∙ add-mul was n more in
    let most : n * more ≤ (1 + failed) * 2 = mul-le n more (1 + failed) 2 few small in
    omega (arith, sum, most, all)

page_size-least : (n : ℕ) → IsTrue (is_page_size n) → 256 ≤ n
page_size-least n h = grind (arith, nat_tests)

-- an erase and a page in each block that was tried: one more than failed at most
pub root_asks : (s t : parts.Storage) (bytes : List ℕ) (result : Result ℕ Fault) → IsGeometry s.device.geometry → length bytes ≡ 16 → Evolved s t → Pays s t (unpaid result) → Spends s t bytes → AsksForRoot s.device t.device
root_asks s t bytes result lawful size evolved pays spends =
    let least : 256 ≤ s.device.geometry.page = page_size-least s.device.geometry.page lawful.page_size in
    let page : pages_for s.device.geometry.page (length bytes) ≤ 1 = pages_for-most s.device.geometry.page 1 (length bytes) (omega arith) (omega arith) in
    let grown : set.len s.bad ≤ set.len t.bad = len-within s.bad t.bad evolved.stays_bad in
    let failed : ℕ = set.len t.bad - set.len s.bad in
    let one = unpaid_one result in
    let failures = evolved.failures in
    record {
      failed = failed;
      failures = omega (arith, grown, failures);
      most = spent s.device.operations t.device.operations s.ring.takes t.ring.takes (failed + unpaid result) (1 + pages_for s.device.geometry.page (length bytes)) failed
          (omega (arith, grown, pays)) (omega (arith, one)) (omega (arith, page)) spends;
    }

pub root_untried : (d : Device) → AsksForRoot d d
root_untried d = record { failed = 0; failures = omega arith; most = omega arith }

pub root_why : (s : parts.Storage) (bytes : List ℕ) (t : parts.Storage) (result : Result ℕ Fault) → Evolved s t → Pays s t (unpaid result) → Adds s bytes t result
    → IfErr result (λ fault. RootCause s fault t)
root_why s bytes t (Ok root) evolved pays adds = tt
root_why s bytes t (Err FlashFull) evolved pays adds = let taken = evolved.taken in omega (arith, adds.0)
root_why s bytes t (Err ReadOnly) evolved pays adds = adds
root_why s bytes t (Err PowerCut) evolved pays adds = adds.0
root_why s bytes t (Err NoMemory) evolved pays adds = tt
root_why s bytes t (Err _) evolved pays adds = absurd adds

pub root_empty : (s : parts.Storage) (bytes : List ℕ) (t : parts.Storage) (result : Result ℕ Fault) → link_at bytes ≡ Some (link true 0 []) → Adds s bytes t result
    → IfOk result (λ root. entries_in (node_of t.device) root ≡ Some [])
root_empty s bytes t (Ok root) read adds = first_law (node_of t.device) 0 root (link true 0 []) [] (omega arith) (ap link_of adds.node ∙ read) refl refl
root_empty s bytes t (Err fault) read adds = tt

pub root_node : (s : parts.Storage) (bytes : List ℕ) (t : parts.Storage) (result : Result ℕ Fault) → bytes ≡ chain_bytes 0 [] → Adds s bytes t result
    → IfOk result (λ root. node_of t.device root ≡ Some (chain_bytes 0 []))
root_node s bytes t (Ok root) written adds = adds.node ∙ ap Some written
root_node s bytes t (Err fault) written adds = tt

first_good : (blocks : ℕ) (bad : set.FinSet nat_cmp) (b : ℕ) → IsNext (is_busy (unused_ring blocks) bad) blocks (blocks - 1) b → IsFirstGood bad b
first_good blocks bad b next = record {
  data_block = next.data_block.0;
  good = sym (busy_unused blocks bad b) ∙ next.free;
  first = λ c low before.
      let near = distance_earlier blocks (blocks - 1) c (omega (arith, next.data_block)) in
      let far = distance_earlier blocks (blocks - 1) b (omega (arith, next.data_block)) in
      sym (busy_unused blocks bad c) ∙ next.first c (low, omega (arith, next.data_block)) (omega (arith, next.data_block));
}

first_root : (d : Device) (s : Storage) (e : Device) (t : Storage) (root : ℕ) → s.ring ≡ unused_ring d.geometry.blocks
    → parts.IsNextBlock (parts.storage d s.bad s.ring) (parts.storage e t.bad t.ring) root → IsFirstGood t.bad root
first_root d s e t root ring next =
    first_good d.geometry.blocks t.bad root (subst (λ (r : Ring). IsNext (is_busy r t.bad) r.blocks r.last root) ring next.next)

-- the first moment, once the root is written
pub written_begun : (d : Device) (was : set.FinSet nat_cmp) (limit : ℕ) (s : Storage) (e : Device) (t : Storage) (h : Past ℕ) (files : Descriptors) (root : ℕ) → IsGeometry d.geometry → s.bad ≡ was
    → s.ring ≡ unused_ring d.geometry.blocks → Fits d s → HasWritten d s 1 e t → set.contains t.ring.used root ≡ true
    → node_of e root ≡ Some (chain_bytes 0 []) → entries_in (node_of e) root ≡ Some [] → parts.IsNextBlock (parts.storage d s.bad s.ring) (parts.storage e t.bad t.ring) root → 2 ≤ limit → h ≡ fresh limit root → files ≡ none_open
    → IsBegun d was limit (moment e (record { history = h; group = None; storage = t; files = files; is_off = false }))
written_begun d was limit s e t h files root lawful bad ring fits written kept node empty next some is none =
    let state : State = record { history = h; group = None; storage = t; files = files; is_off = false } in
    let same = sym written.evolved.geometry in
    let stands = fresh_mounted (moment e state) limit root refl (subst IsGeometry same lawful) (written.evolved.blocks ∙ ap (λ (r : Ring). r.blocks) ring ∙ ap (λ (g : Geometry). g.blocks) same) (written.fits.fits fits) some is refl none empty kept in
    let before : set.len s.bad ≡ set.len was = ap set.len bad in
    let no_takes : s.ring.takes ≡ 0 = ap (λ (r : Ring). r.takes) ring in
    let paid = written.paid in
    record {
      root = root;
      history = is;
      machine = fresh_machine e h None files limit root is refl none empty;
      mounted = stands;
      is_on = refl;
      evolved = begins d was s (parts.storage e t.bad t.ring) bad ring written.evolved;
      paid = omega arith;
      root_block = first_root d s e t root ring next;
      last = next.last;
      node = node;
    }

-- The flash, and the refusals that write no root.

pub same_flash : (d : Device) → IsLaterFlash d d
same_flash d = record { geometry = refl; failed_reads = omega arith; was_on = λ e. e }

pub later_flash : (d : Device) (s : Storage) (most : ℕ) (e : Device) (t : Storage) → HasWritten d s most e t → IsLaterFlash d e
later_flash d s most e t w = record { geometry = w.evolved.geometry; failed_reads = w.evolved.failed_reads; was_on = w.evolved.was_on }

-- the last block of a flash holds data
pub last_data : (g : Geometry) → IsGeometry g → IsDataBlock g.blocks (g.blocks - 1)
last_data g is = (omega arith, omega arith)

-- room for one node is refused for want of memory alone
pub one_node : (fault : Fault) → (fault ≡ Invalid → (1 < 1) ⊎ (64 < 1)) → (fault ≢ Invalid → fault ≡ NoMemory) → fault ≡ NoMemory
one_node fault lawful memory = memory (λ is. elim (lawful is) [
  | inl few ↦ omega arith
  | inr many ↦ omega arith
])

pub memory_cause : (given : Device) (was : set.FinSet nat_cmp) (fault : Fault) (left : Device) → fault ≡ NoMemory → BeginCause given was fault left
memory_cause given was fault left is = subst (λ f. BeginCause given was f left) (sym is) tt
