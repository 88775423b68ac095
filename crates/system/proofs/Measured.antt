-- What `df` tells: the roots of a history, the blocks that they reach, and its step.
use Rattle.std.proofs.Common.{◌≡◌, inl, inr, ℕ, zero, suc, ◌-◌, Bool, true, false, ◌||◌, not, Option, Some, None, Result, Ok, Err, List, [], ◌∷◌, count_by, map, refl, sym, ap, subst, ◌∙◌, arith}
use Rattle.std.proofs.lemmas.Bool.{both_ways, true≢false}
use Rattle.std.proofs.lemmas.List.Elements.{Contains-append_left, Contains-append_right, Contains-append_cases}
use Rattle.std.specs.Prelude.{◌↔◌, Contains, IfOk, IfErr}
use Rattle.std.specs.FinSet as set
use Rattle.std.specs.Option.{option_map}
use Rattle.std.specs.Ordering.{nat_cmp}
use Rattle.plain_trees.proofs.Beneath.{None≢Some, same_Some}
use Rattle.history_machine.specs.History.{Past}
use Rattle.history_machine.specs.Machine.{Space, answer, reply_of}
use Rattle.fs_types.specs.declared.call.Call.{Call}
use Rattle.fs_types.specs.declared.call.Group.{Group}
use Rattle.fs_types.specs.declared.call.Reply.{Reply}
use Rattle.fs_types.specs.declared.fault.Fault.{Fault}
use Rattle.fs_types.specs.declared.fault.Fault.TheVariants.{ReadFailed, PowerCut, NoMemory}
use Rattle.fs_types.specs.declared.limits.TheConstants.{ANCHORS}
use Rattle.flash_model.specs.Device.{Device}
use Rattle.flash_model.specs.declared.geometry.Geometry.{Geometry}
use Rattle.flash_model.specs.Geometry.{block_bytes}
use Rattle.bad_blocks.specs.Mode.{bad_anchors}
use Rattle.block_ring.specs.Ring.{data_blocks}
use Rattle.node_store.specs.NodePages.{node_of}
use Rattle.node_store.specs.ReadingLaws.{OnlyReads_nodes}
use Rattle.nodes.specs.Bodies.{Blocks}
use Rattle.nodes.specs.Reached.{Reached, IsFirst, IsNamed}
use Rattle.reclaim.specs.Verified.{AreRoots}
use Rattle.working_state.specs.Moments.{Moment, machine_at, seen_at, shown_at, IsMountedAt, IsStep}
use Rattle.working_state.specs.Mounted.{IsMounted, StateStep}
use Rattle.working_state.specs.Roots.{HasRoot, IsReached, IsSpace}
use Rattle.working_state.specs.Steps.{is_cut_answer, MayRefuse, CallStep}
use Rattle.working_state.specs.Worked.{IsLooked, ReadCause}
use Rattle.working_state.specs.declared.state.State.{State}
use Rattle.working_state.proofs.Refusals.{in_refusal, refused_step, remembering, remembered_mounted}
use Rattle.working_state.proofs.Standing.{looked_worked, worked_reaches, looked_leaves, worked_later, worked_machine, worked_mounted}
use Rattle.mounting.specs.Records.{roots_of, group_roots, working_roots}
use Rattle.system.proofs.Syncs.{reached_from}

-- what one of them reaches the roots reach
pub reached_to : (f : Blocks) (roots : List ℕ) (root b : ℕ) → Contains roots root → Reached f (root ∷ []) b → Reached f roots b
reached_to f roots root b has (IsFirst first) = IsFirst (subst (Contains roots) (only first) has)
  where
    only : {b : ℕ} → Contains (root ∷ []) b → root ≡ b
    only (zero, below, is) = is
    only (suc k, below, is) = absurd (omega arith)
reached_to f roots root b has (IsNamed {block = c} reached names) = IsNamed (reached_to f roots root c has reached) names

-- the root of a group
group_listed : (group : Option (Group ℕ)) (root : ℕ) → option_map (λ g. g.root) group ≡ Some root → Contains (group_roots group) root
group_listed None root is = absurd (None≢Some is)
group_listed (Some g) root is = (0, omega arith, same_Some is)

listed_group : (group : Option (Group ℕ)) (root : ℕ) → Contains (group_roots group) root → option_map (λ g. g.root) group ≡ Some root
listed_group None root (k, below, is) = absurd (omega arith)
listed_group (Some g) root (zero, below, is) = ap Some is
listed_group (Some g) root (suc k, below, is) = absurd (omega arith)

-- a version or a checkpoint of a state has the root
pub of_history : (s : State) (root : ℕ) → Contains (roots_of s.history) root → HasRoot s root
of_history s root has = elim (Contains-append_cases (map (λ v. v.root) s.history.versions) (map (λ e. e.1) s.history.checkpoints) root has) [
  | inl version ↦ inl version
  | inr checkpoint ↦ inr (inl checkpoint)
]

-- the roots of a state are those of its history and of its group
pub listed_root : (s : State) (root : ℕ) → HasRoot s root ↔ Contains (working_roots s) root
listed_root s root = (there, back)
  where
    there : HasRoot s root → Contains (working_roots s) root
    there (inl version) = Contains-append_left (roots_of s.history) (group_roots s.group) root (Contains-append_left (map (λ v. v.root) s.history.versions) (map (λ e. e.1) s.history.checkpoints) root version)
    there (inr (inl checkpoint)) = Contains-append_left (roots_of s.history) (group_roots s.group) root (Contains-append_right (map (λ v. v.root) s.history.versions) (map (λ e. e.1) s.history.checkpoints) root checkpoint)
    there (inr (inr group)) = Contains-append_right (roots_of s.history) (group_roots s.group) root (group_listed s.group root group)

    back : Contains (working_roots s) root → HasRoot s root
    back has = elim (Contains-append_cases (roots_of s.history) (group_roots s.group) root has) [
      | inl own ↦ of_history s root own
      | inr group ↦ inr (inr (listed_group s.group root group))
    ]

-- states with the same history and the same group have the same roots
pub has_same : (s t : State) (root : ℕ) → t.history ≡ s.history → t.group ≡ s.group → HasRoot s root → HasRoot t root
has_same s t root history group has = subst (λ (x : Past ℕ × Option (Group ℕ)). HasRoot (record s { history = x.0; group = x.1 }) root) (λ i. (sym history i, sym group i)) has

pub listed_reached : (d : Device) (s : State) (b : ℕ) → Reached (node_of d) (working_roots s) b ↔ IsReached d s b
listed_reached d s b = (
  λ reached. let from = reached_from (node_of d) (working_roots s) b reached in (from.0, (listed_root s from.0).1 from.1, from.2),
  λ (root, has, reached). reached_to (node_of d) (working_roots s) root b ((listed_root s root).0 has) reached,
)

-- each root of a mounted state has a tree
pub mounted_roots : (d : Device) (s : State) → IsMounted d s → AreRoots (block_bytes d.geometry) (node_of d) (working_roots s)
mounted_roots d s m root has = (m.roots root ((listed_root s root).1 has)).rooted

-- the space of a flash, by the blocks that its roots reach
pub space_told : (a b : Moment) (blocks : ℕ) (reached : set.FinSet nat_cmp) (reply : Reply) → IsMountedAt a → IsLooked a b → blocks ≡ a.device.geometry.blocks
    → ((block : ℕ) → (set.contains reached block ≡ true) ↔ Reached (node_of a.device) (working_roots a.state) block)
    → reply ≡ Reply.Df (blocks - ANCHORS) (count_by (set.contains b.state.storage.bad) (data_blocks blocks)) (count_by (λ block. not (set.contains b.state.storage.bad block || set.contains reached block)) (data_blocks blocks)) (ANCHORS - bad_anchors b.state.storage.bad)
    → (space : Space) × IsSpace b.device b.state space × (reply_of space (machine_at a) Call.Df ≡ reply)
space_told a b blocks reached reply m l many marked says =
    let same : blocks ≡ b.device.geometry.blocks = many ∙ ap (λ (g : Geometry). g.blocks) (sym l.untouched.device.geometry) in (
      record {
        blocks = blocks - ANCHORS;
        bad = count_by (set.contains b.state.storage.bad) (data_blocks blocks);
        free = count_by (λ block. not (set.contains b.state.storage.bad block || set.contains reached block)) (data_blocks blocks);
        anchors = ANCHORS - bad_anchors b.state.storage.bad;
      },
      record {
        blocks = ap (λ n. n - ANCHORS) same;
        bad = ap (λ n. count_by (set.contains b.state.storage.bad) (data_blocks n)) same;
        reached = reached;
        are_reached = λ block. subst (λ (f : Blocks). (set.contains reached block ≡ true) ↔ ((root : ℕ) × HasRoot b.state root × Reached f (root ∷ []) block)) (sym (OnlyReads_nodes a.device b.device m.lawful l.untouched.device))
            (subst (λ (x : Past ℕ × Option (Group ℕ)). (set.contains reached block ≡ true) ↔ IsReached a.device (record b.state { history = x.0; group = x.1 }) block) (λ i. (sym l.rest.history i, sym l.rest.group i))
            (λ is. (listed_reached a.device a.state block).0 ((marked block).0 is), λ is. (marked block).1 ((listed_reached a.device a.state block).1 is)));
        free = ap (λ n. count_by (λ block. not (set.contains b.state.storage.bad block || set.contains reached block)) (data_blocks n)) same;
        anchors = refl;
      },
      sym says,
    )

-- ---- the step

-- what was measured, or why it was not
pub record IsMeasured (a b : Moment) (result : Result Reply Fault) : Type 0 where
  pub looked : IsLooked a b
  pub told : IfOk result (λ reply. (space : Space) × IsSpace b.device b.state space × (reply_of space (machine_at a) Call.Df ≡ reply))
  pub why : IfErr result (λ fault. ReadCause (seen_at a) fault (seen_at b))

module _ (a b : Moment) (m : IsMountedAt a) where
  may_refuse : (fault : Fault) → ReadCause (seen_at a) fault (seen_at b) → MayRefuse (seen_at a) (machine_at a) Call.Df fault (seen_at b)
  may_refuse ReadFailed why = (refl, why)
  may_refuse PowerCut why = (refl, why)
  may_refuse NoMemory why = refl
  may_refuse _ why = absurd why

  measured_step : (result : Result Reply Fault) → IsMeasured a b result → IsStep a Call.Df result b (is_cut_answer result)
  measured_step (Ok reply) is = record {
    later = worked_later a b (looked_worked a b is.looked);
    answers = (
      refl,
      record {
        accepted = refl;
        answered = λ space told. absurd (true≢false told);
        leaves = worked_machine a b m (looked_worked a b is.looked);
        writable = λ writes. absurd (true≢false (sym writes));
        serial_left = λ makes. absurd (true≢false (sym makes));
      },
      refl,
    );
  }
  measured_step (Err fault) is = refused_step a b Call.Df fault m (looked_worked a b is.looked) (inr (may_refuse fault is.why))

  module _ (result : Result Reply Fault) (is : IsMeasured a b result) where
    pub measured_mounted : IsMounted b.device (remembering b.state result)
    measured_mounted =
        remembered_mounted a b (remembering b.state result) Call.Df result refl (worked_mounted a b m (looked_worked a b is.looked)) (measured_step result is)

    abbrev StepFrom : Bool → Bool → Type 0
    StepFrom off off' = CallStep (shown_at a off) Call.Df result (shown_at b off')

    told_answer : (r : Result Reply Fault) → IfOk r (λ reply. (space : Space) × IsSpace b.device b.state space × (reply_of space (machine_at a) Call.Df ≡ reply))
        → IfOk r (λ reply. (space : Space) × IsSpace b.device (remembering b.state result) space × (answer space (machine_at a) Call.Df ≡ Ok reply))
    told_answer (Ok reply) (space, is_space, says) = (space, record { blocks = is_space.blocks; bad = is_space.bad; reached = is_space.reached; are_reached = is_space.are_reached; free = is_space.free; anchors = is_space.anchors }, ap Ok says)
    told_answer (Err fault) none = tt

    pub measured : a.state.is_off ≡ false → StateStep a.device a.state Call.Df result b.device (remembering b.state result)
    measured on = record {
      step = subst (λ o. StepFrom o (b.state.is_off || is_cut_answer result)) (sym on)
          (subst (λ o. StepFrom false (o || is_cut_answer result)) (sym (is.looked.rest.is_off ∙ on)) (measured_step result is));
      leaves = looked_leaves a b Call.Df is.looked refl;
      told = λ tells. told_answer result is.told;
      reached = worked_reaches a b m (looked_worked a b is.looked);
      refused = in_refusal result is.looked.rest.history;
      regrouped = in_refusal result is.looked.rest.group;
      stopped = λ off. absurd (both_ways a.state.is_off on off);
    }
