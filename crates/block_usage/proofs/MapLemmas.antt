-- What stays while nodes and pages are read.
use Rattle.std.proofs.Common.{◌≡◌, ℕ, true, inl, inr, List, take, drop, Result, Ok, Err, sym, ap, subst, ◌∙◌, arith}
use Rattle.std.proofs.lemmas.List.{take-append-drop}
use Rattle.std.proofs.lemmas.List.Elements.{Contains-append_left, Contains-append_right, Contains-append_cases}
use Rattle.std.specs.FinSet as set
use Rattle.std.specs.Ordering.{nat_cmp}
use Rattle.std.specs.Prelude.{◌+◌, ◌↔◌, Contains, IfOk}
use Rattle.fs_types.specs.declared.fault.Fault.{Fault}
use Rattle.fs_types.specs.declared.fault.Fault.TheVariants.{NoMemory, PowerCut, ReadFailed}
use Rattle.flash_model.specs.Device.{Device}
use Rattle.flash_model.specs.Geometry.{IsGeometry, block_bytes}
use Rattle.flash_model.specs.Reading.{OnlyReads}
use Rattle.flash_model.specs.declared.geometry.Geometry.{Geometry}
use Rattle.history_machine.specs.History.{Past}
use Rattle.anchors.specs.Reading.{PageReadCause}
use Rattle.nodes.specs.Bodies.{Blocks}
use Rattle.nodes.specs.Reached.{Reached}
use Rattle.node_store.specs.CachingLaws.{read_truthful}
use Rattle.node_store.specs.NodePages.{node_of}
use Rattle.node_store.specs.ReadingLaws.{OnlyReads_nodes}
use Rattle.node_store.specs.declared.storage.Storage.{Storage}
use Rattle.reclaim.specs.Verified.{AreRoots}
use Rattle.working_state.specs.Leaves.{HasLooked}
use Rattle.working_state.specs.Seen.{seen_of}
use Rattle.working_state.specs.Worked.{ReadCause}
use Rattle.mounting.specs.Records.{roots_of}
use Rattle.block_usage.specs.Kinds.{checkpoint_roots, other_roots, present_roots, version_roots}
use Rattle.block_usage.specs.Maps.{AreMarked, IsReady, ReadsCause}

-- ---- causes

pub page_cause : (old new : Device) (fault : Fault) → PageReadCause old new fault → ReadsCause old new fault
page_cause old new ReadFailed cause = cause
page_cause old new PowerCut cause = cause
page_cause old new _ cause = absurd cause

pub cause_later : (old mid new : Device) (fault : Fault) → OnlyReads old mid → ReadsCause mid new fault → ReadsCause old new fault
cause_later old mid new ReadFailed reads cause = let h = reads.failed_reads in omega arith
cause_later old mid new PowerCut reads cause = cause
cause_later old mid new NoMemory reads cause = tt
cause_later old mid new _ reads cause = absurd cause

pub node_cause : (d : Device) (s : Storage) (e : Device) (t : Storage) (fault : Fault) → ReadCause (seen_of d s) fault (seen_of e t) → ReadsCause d e fault
node_cause d s e t ReadFailed cause = cause
node_cause d s e t PowerCut cause = cause
node_cause d s e t NoMemory cause = tt
node_cause d s e t _ cause = absurd cause

-- ---- nodes

pub still_ready : (d : Device) (s : Storage) (e : Device) (t : Storage) → IsReady d s → HasLooked d s e t → IsReady e t
still_ready d s e t ready looked = record {
  lawful = subst IsGeometry (sym looked.untouched.device.geometry) ready.lawful;
  ring_blocks = ap (λ r. r.blocks) looked.untouched.ring ∙ ready.ring_blocks ∙ sym (ap (λ (g : Geometry). g.blocks) looked.untouched.device.geometry);
  fits = looked.fits.fits ready.fits;
}

pub ready_later : (d e : Device) (s : Storage) → OnlyReads d e → IsReady d s → IsReady e s
ready_later d e s reads ready = record {
  lawful = subst IsGeometry (sym reads.geometry) ready.lawful;
  ring_blocks = ready.ring_blocks ∙ sym (ap (λ (g : Geometry). g.blocks) reads.geometry);
  fits = record {
    page_len = ready.fits.page_len ∙ sym (ap (λ (g : Geometry). g.page) reads.geometry);
    truthful = read_truthful d e s.cache ready.lawful reads ready.fits.truthful;
  };
}

pub roots_later : (d e : Device) (roots : List ℕ) → IsGeometry d.geometry → OnlyReads d e → AreRoots (block_bytes d.geometry) (node_of d) roots → AreRoots (block_bytes e.geometry) (node_of e) roots
roots_later d e roots lawful reads are =
    subst (λ (f : Blocks). AreRoots (block_bytes e.geometry) f roots) (sym (OnlyReads_nodes d e lawful reads)) (subst (λ (g : Geometry). AreRoots (block_bytes g) (node_of d) roots) (sym reads.geometry) are)

pub marked_before : (d e : Device) (roots : List ℕ) (blocks : set.FinSet nat_cmp) → IsGeometry d.geometry → OnlyReads d e → AreMarked e roots blocks → AreMarked d roots blocks
marked_before d e roots blocks lawful reads are = subst (λ (f : Blocks). (b : ℕ) → (set.contains blocks b ≡ true) ↔ Reached f roots b) (OnlyReads_nodes d e lawful reads) are

-- ---- roots

taken : (n : ℕ) (xs : List ℕ) (x : ℕ) → Contains (take n xs) x → Contains xs x
taken n xs x has = subst (λ (l : List ℕ). Contains l x) (take-append-drop n xs) (Contains-append_left (take n xs) (drop n xs) x has)

left : (n : ℕ) (xs : List ℕ) (x : ℕ) → Contains (drop n xs) x → Contains xs x
left n xs x has = subst (λ (l : List ℕ). Contains l x) (take-append-drop n xs) (Contains-append_right (take n xs) (drop n xs) x has)

module _ (limit : ℕ) (f : Blocks) (h : Past ℕ) (are : AreRoots limit f (roots_of h)) where
  pub present_stand : AreRoots limit f (present_roots h)
  present_stand root has = are root (Contains-append_left (version_roots h) (checkpoint_roots h) root (left h.cursor (version_roots h) root (taken 1 (drop h.cursor (version_roots h)) root has)))

  pub others_stand : AreRoots limit f (other_roots h)
  others_stand root has = elim (Contains-append_cases (take h.cursor (version_roots h)) (drop (h.cursor + 1) (version_roots h)) root has) [
    | inl before ↦ are root (Contains-append_left (version_roots h) (checkpoint_roots h) root (taken h.cursor (version_roots h) root before))
    | inr after ↦ are root (Contains-append_left (version_roots h) (checkpoint_roots h) root (left (h.cursor + 1) (version_roots h) root after))
  ]

  pub checkpoints_stand : AreRoots limit f (checkpoint_roots h)
  checkpoints_stand root has = are root (Contains-append_right (version_roots h) (checkpoint_roots h) root has)

-- ---- results

-- what holds of a result, by what is known of it
pub told : {V : Type 0} (result : Result V Fault) (P Q : V → Type 0) → IfOk result P → ((v : V) → P v → Q v) → IfOk result Q
told (Ok v) P Q is then = then v is
told (Err fault) P Q is then = tt
