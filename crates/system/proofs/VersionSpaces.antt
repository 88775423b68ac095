-- What versions and checkpoints keep, by the first root that reaches each block from either end.
use Rattle.std.proofs.Common.{◌≡◌, ◌⊎◌, inl, inr, ℕ, zero, suc, ◌+◌, ◌-◌, ◌*◌, ◌<◌, ◌≤◌, Bool, true, false, cond, Option, Some, None, Result, Ok, Err, List, [], ◌∷◌, ◌++◌, length, take, reverse, map, count_by, refl, sym, ap, subst, ◌∙◌, arith}
use Rattle.std.proofs.Math.Nat.{add-mul}
use Rattle.std.proofs.lemmas.Bool.{true≢false, cases_lt}
use Rattle.std.proofs.lemmas.List.{length-append, length-map, length-reverse, length_push, take_all, get_or_push, get_or_append_left}
use Rattle.std.specs.Prelude.{is_some, slice_get, slice_index, IfOk, IfErr}
use Rattle.fs_types.specs.Names.{Name}
use Rattle.fs_types.specs.declared.call.Group.{Group}
use Rattle.fs_types.specs.declared.call.Version.{Version}
use Rattle.fs_types.specs.declared.fault.Fault.{Fault}
use Rattle.fs_types.specs.declared.fault.Fault.TheVariants.{NoMemory, PowerCut, ReadFailed}
use Rattle.plain_trees.proofs.Beneath.{None≢Some, same_Some}
use Rattle.flash_model.specs.Device.{Device}
use Rattle.flash_model.specs.declared.geometry.Geometry.{Geometry}
use Rattle.block_ring.specs.Ring.{Ring, data_blocks}
use Rattle.node_store.specs.NodePages.{node_of}
use Rattle.node_store.specs.ReadingLaws.{OnlyReads_nodes}
use Rattle.nodes.specs.Bodies.{Blocks}
use Rattle.reclaim.specs.Passes.{AreReached}
use Rattle.tree_counts.specs.Counts.{CountsFree, CountsFreed}
use Rattle.tree_counts.specs.FirstRoots.{AreFirstRoots, is_free}
use Rattle.tree_counts.proofs.Counted.{counts_free}
use Rattle.working_state.specs.Moments.{Moment, moment, seen_at}
use Rattle.working_state.specs.Seen.{Seen, seen_on}
use Rattle.working_state.specs.Steps.{LeadsTo, is_cut_answer}
use Rattle.working_state.specs.Worked.{IsLooked, ReadCause}
use Rattle.working_state.specs.declared.state.State.{State}
use Rattle.working_state.specs.Mounted.{IsMounted}
use Rattle.working_state.proofs.Standing.{looked_on, looked_worked, worked_later, worked_mounted}
use Rattle.mounting.specs.Costs.{AsksEach}
use Rattle.mounting.specs.Records.{group_roots, roots_of, working_roots}
use Rattle.mounting.proofs.Asking.{none_reached}
use Rattle.system.specs.HistorySpace.{FreeAfter}
use Rattle.system.specs.VersionSpace.{AreEnds, AsksTwice, FitEnds, Frees, IsHistorySpace, IsVersionSpace}
use Rattle.system.specs.declared.version_space.Ends.{Ends}
use Rattle.system.specs.declared.version_space.HistorySpace.{HistorySpace}
use Rattle.system.specs.declared.version_space.VersionSpace.{VersionSpace}
use Rattle.system.proofs.FreeSpace.{free_after, free_still}

-- ---- how many roots

group_long : (group : Option (Group ℕ)) → length (group_roots group) ≡ cond (is_some group) 1 0
group_long None = refl
group_long (Some g) = refl

pub roots_long : (s : State) → length (working_roots s) ≡ length s.history.versions + length s.history.checkpoints + cond (is_some s.group) 1 0
roots_long s =
    let versions = map (λ (v : Version ℕ). v.root) s.history.versions in
    let checkpoints = map (λ (e : Name × ℕ). e.1) s.history.checkpoints in
    omega (
      arith,
      length-map s.history.versions (λ (v : Version ℕ). v.root),
      length-map s.history.checkpoints (λ (e : Name × ℕ). e.1),
      length-append versions checkpoints,
      length-append (versions ++ checkpoints) (group_roots s.group),
      group_long s.group,
    )

-- ---- lists that grow

pub slice_get_pushed : {X : Type 0} (xs : List X) (y v : X) (i : ℕ) → slice_get (xs ++ y ∷ []) i ≡ Some v → (slice_get xs i ≡ Some v) ⊎ ((i ≡ length xs) × (y ≡ v))
slice_get_pushed [] y v zero is = inr (refl, same_Some is)
slice_get_pushed [] y v (suc i) is = absurd (None≢Some is)
slice_get_pushed (x ∷ xs) y v zero is = inl is
slice_get_pushed (x ∷ xs) y v (suc i) is = elim (slice_get_pushed xs y v i is) [
  | inl before ↦ inl before
  | inr last ↦ inr (ap suc last.0, last.1)
]

-- so do what stands at its places
pub each_pushed : (P : ℕ → ℕ → Type 0) (xs : List ℕ) (y : ℕ) → ((i : ℕ) → i < length xs → P i (slice_index xs i)) → P (length xs) y → (i : ℕ) → i < length (xs ++ y ∷ []) → P i (slice_index (xs ++ y ∷ []) i)
each_pushed P xs y each last i within = elim (cases_lt i (length xs)) [
  | inl low ↦ subst (P i) (sym (get_or_append_left xs (y ∷ []) 0 i low)) (each i low)
  | inr past ↦
      let same : length xs ≡ i = omega (arith, length_push xs y) in
      subst (λ (n : ℕ). P n (slice_index (xs ++ y ∷ []) n)) same (subst (P (length xs)) (sym (get_or_push xs y 0 (length xs) refl)) last)
]

-- ---- what is told of one root

-- so many blocks are free
pub free_now : (d : Device) (s : State) (lasts : List ℕ) → length lasts ≡ d.geometry.blocks → AreFirstRoots (node_of d) (reverse (working_roots s)) lasts → (free : ℕ) × FreeAfter d s 0 free
free_now d s lasts sized are =
    let all = working_roots s in
    let kept : ℕ = length all - 0 in
    let free : ℕ = count_by (is_free lasts s.storage.bad kept) (data_blocks d.geometry.blocks) in
    (free, free_after d s 0 free (omega arith) (counts_free (node_of d) (reverse all) lasts s.storage.bad d.geometry.blocks kept are sized (omega (arith, length-reverse all))))

-- blocks that are free more beside the roots that are left
pub freed_counts : (d : Device) (s : State) (k count : ℕ) → k ≤ length s.history.versions
    → CountsFreed (node_of d) d.geometry.blocks s.storage.bad (reverse (working_roots s)) (length (working_roots s) - k) count → Frees d s k count
freed_counts d s k count few freed =
    let all = working_roots s in
    record {
      free = freed.before;
      now = free_after d s 0 freed.before (omega arith)
          (subst (λ (l : List ℕ). CountsFree (node_of d) d.geometry.blocks s.storage.bad l freed.before) (sym (take_all (length all - 0) (reverse all) (omega (arith, length-reverse all)))) freed.was);
      after = free_after d s k (freed.before + count) few
          (subst (λ (n : ℕ). CountsFree (node_of d) d.geometry.blocks s.storage.bad (take (length all - k) (reverse all)) n) freed.more freed.is);
    }

-- ---- the power

module _ (d : Device) (s : State) (off : Bool) where
  abbrev turned : State
  turned = record s { is_off = off }

  frees_still : (count frees : ℕ) → Frees d s count frees → Frees d turned count frees
  frees_still count frees is = record { free = is.free; now = free_still d s 0 is.free off is.now; after = free_still d s count (is.free + frees) off is.after }

  version_still : (place : ℕ) (version : VersionSpace) → IsVersionSpace d s place version → IsVersionSpace d turned place version
  version_still place version is = record {
    before = λ low. let x = is.before low in (x.0, x.1, frees_still (place + 1) x.0 x.2);
    from = is.from;
    alone = is.alone;
  }

  pub space_still : (space : HistorySpace) → IsHistorySpace d s space → IsHistorySpace d turned space
  space_still space is = record {
    free = is.free;
    now = free_still d s 0 is.free off is.now;
    all = is.all;
    each = λ place version at. version_still place version (is.each place version at);
    all_checkpoints = is.all_checkpoints;
    each_checkpoint = is.each_checkpoint;
  }

pub told_still : (d : Device) (s : State) (off : Bool) (result : Result HistorySpace Fault) → IfOk result (IsHistorySpace d s) → IfOk result (IsHistorySpace d (record s { is_off = off }))
told_still d s off (Ok space) is = space_still d s off space is
told_still d s off (Err fault) is = tt

-- a look that found the power off found it so
pub cut_off : (d : Device) (s : State) (e : Device) (t : State) (result : Result HistorySpace Fault) → IfErr result (λ fault. ReadCause (seen_on d s) fault (seen_on e t)) → is_cut_answer result ≡ true → e.powered ≡ false
cut_off d s e t (Ok space) why cut = absurd (true≢false (sym cut))
cut_off d s e t (Err PowerCut) why cut = why
cut_off d s e t (Err _) why cut = absurd (true≢false (sym cut))

-- ---- two walks

pub asks_one : (d e : Device) (roots : List ℕ) → AsksEach d roots e → AsksTwice d roots e
asks_one d e roots asks =
    let pages = d.geometry.pages in
    record {
      once = asks.blocks;
      again = [];
      are_once = asks.are;
      are_again = none_reached (node_of d) roots;
      most = omega (arith, asks.most, add-mul (length asks.blocks) 0 pages);
    }

pub asks_two : (d e f : Device) (roots : List ℕ) → node_of e ≡ node_of d → e.geometry ≡ d.geometry → AsksEach d roots e → AsksEach e roots f → AsksTwice d roots f
asks_two d e f roots same sizes first second = record {
  once = first.blocks;
  again = second.blocks;
  are_once = first.are;
  are_again = subst (λ (g : Blocks). AreReached g roots second.blocks) same second.are;
  most = omega (
    arith,
    first.most,
    subst (λ (g : Geometry). f.operations ≤ e.operations + length second.blocks * g.pages) sizes second.most,
    add-mul (length first.blocks) (length second.blocks) d.geometry.pages,
  );
}

-- a refusal in the second one
read_later : (old mid new : Seen) (fault : Fault) → LeadsTo old mid → ReadCause mid fault new → ReadCause old fault new
read_later old mid new ReadFailed later why = omega arith
read_later old mid new PowerCut later why = why
read_later old mid new NoMemory later why = tt
read_later old mid new _ later why = absurd why

pub cause_later : (a b c : Moment) (fault : Fault) → IsLooked a b → ReadCause (seen_at b) fault (seen_at c) → ReadCause (seen_at a) fault (seen_at c)
cause_later a b c fault looked why = read_later (seen_at a) (seen_at b) (seen_at c) fault (worked_later a b (looked_worked a b looked)) why

-- states that came of one another by looks have the same roots
pub looked_roots : (a b : Moment) → IsLooked a b → working_roots b.state ≡ working_roots a.state
looked_roots a b l = λ i. roots_of (l.rest.history i) ++ group_roots (l.rest.group i)

module _ (d e f : Device) (s t u : State) (m : IsMounted d s) (first : IsLooked (moment d s) (moment e t)) where
  pub mounted_between : IsMounted e t
  mounted_between = worked_mounted (moment d s) (moment e t) m (looked_worked (moment d s) (moment e t) first)

  module _ (second : IsLooked (moment e t) (moment f u)) where
    pub both_looked : IsLooked (moment d s) (moment f u)
    both_looked = looked_on (moment d s) (moment e t) (moment f u) first second

    nodes_on : node_of f ≡ node_of e
    nodes_on = OnlyReads_nodes e f mounted_between.lawful second.untouched.device

    nodes_first : node_of e ≡ node_of d
    nodes_first = OnlyReads_nodes d e m.lawful first.untouched.device

    pub ends_are : (ends : Ends) → AreFirstRoots (node_of d) (reverse (working_roots s)) ends.lasts.items → AreFirstRoots (node_of e) (working_roots t) ends.firsts.items → AreEnds f u ends
    ends_are ends lasts firsts =
        let whole : working_roots u ≡ working_roots s = looked_roots (moment d s) (moment f u) both_looked in
        let later : working_roots u ≡ working_roots t = looked_roots (moment e t) (moment f u) second in
        record {
          firsts = subst (λ (x : Blocks × List ℕ). AreFirstRoots x.0 x.1 ends.firsts.items) (λ i. (sym nodes_on i, sym later i)) firsts;
          lasts = subst (λ (x : Blocks × List ℕ). AreFirstRoots x.0 (reverse x.1) ends.lasts.items) (λ i. (sym (nodes_on ∙ nodes_first) i, sym whole i)) lasts;
        }

    pub fit_are : (ends : Ends) → length ends.lasts.items ≡ s.storage.ring.blocks → length ends.firsts.items ≡ t.storage.ring.blocks → ends.roots ≡ length (working_roots u) → FitEnds u ends
    fit_are ends lasts firsts roots = record {
      firsts = firsts ∙ sym (ap (λ (r : Ring). r.blocks) second.untouched.ring);
      lasts = lasts ∙ sym (ap (λ (r : Ring). r.blocks) both_looked.untouched.ring);
      roots = roots;
    }

    pub asks_both : AsksEach d (working_roots s) e → AsksEach e (working_roots t) f → AsksTwice d (working_roots s) f
    asks_both once again =
        asks_two d e f (working_roots s) nodes_first first.untouched.device.geometry once (subst (λ (l : List ℕ). AsksEach e l f) (looked_roots (moment d s) (moment e t) first) again)
