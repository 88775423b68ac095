-- How a change ends: it is refused before the work, in it, or after it, or calls work on its root.
use Rattle.std.proofs.Common.{◌≡◌, ℕ, true, false, Option, Some, Result, Ok, Err, refl, inl, inr}
use Rattle.history_machine.specs.History.{Past, working_root, history_with, group_with}
use Rattle.fs_types.specs.declared.call.Group.{Group}
use Rattle.fs_types.specs.declared.fault.Fault.{Fault}
use Rattle.fs_types.specs.declared.fault.Fault.TheVariants.{ReadOnly}
use Rattle.flash_model.specs.Device.{Device}
use Rattle.node_store.specs.declared.storage.Storage.{Storage}
use Rattle.bad_blocks.specs.Mode.{is_read_only}
use Rattle.tree_edits.specs.declared.edits.Edit.{Edit}
use Rattle.working_state.specs.Changes.{storage_moment, IsTried, LeavesSerial, CheckCause, IsChanged, work}
use Rattle.working_state.proofs.Standing.{none_written}
use Rattle.working_state.proofs.StoreReads.{on_flash}

module _ (d : Device) (h : Past ℕ) (g : Option (Group ℕ)) (s : Storage) (edit : Edit) where
  -- before the work
  pub ends_before : (fault : Fault) → CheckCause h g s fault s → IsChanged (work d h g s) edit (Err fault) (work d h g s)
  ends_before fault why = record { written = none_written d s _; ends = (refl, refl, inl why); still = λ _. (refl, refl) }

  module _ (writable : is_read_only s.bad ≡ false) (serial_left : LeavesSerial h g) (root : ℕ) (e : Device) (t : Storage) where
    -- in the work
    pub ends_in : (fault : Fault) → IsTried (storage_moment d s) edit root (Err fault) (storage_moment e t) → IsChanged (work d h g s) edit (Err fault) (work e h g t)
    ends_in fault tried = record {
      written = tried.written;
      ends = (refl, refl, inr (record { writable = writable; serial_left = serial_left; why = tried.refused }));
      still = tried.still;
    }

    -- read-only mode came on in the work
    pub ends_after : (to : ℕ) (fault : Fault) → IsTried (storage_moment d s) edit root (Ok to) (storage_moment e t) → (fault ≡ ReadOnly) × (is_read_only t.bad ≡ true) → IsChanged (work d h g s) edit (Err fault) (work e h g t)
    ends_after to fault tried why = record {
      written = tried.written;
      ends = (refl, refl, inl (inl (why.0, record { on = why.1; serial_left = λ _. serial_left })));
      still = tried.still;
    }

    pub ends_well : (to : ℕ) (i : Past ℕ) (j : Option (Group ℕ)) → IsTried (storage_moment d s) edit root (Ok to) (storage_moment e t) → working_root h g ≡ Some root → is_read_only t.bad ≡ false → i ≡ history_with h g to → j ≡ group_with g to → IsChanged (work d h g s) edit (Ok tt) (work e i j t)
    ends_well to i j tried working stays is regroups = record {
      written = tried.written;
      ends = record {
        root = root;
        to = to;
        working = working;
        pushed = is;
        regrouped = regroups;
        stands = tried.stands;
        shows = tried.shows;
        reached = tried.reached;
        writable = writable;
        stays_writable = stays;
        serial_left = serial_left;
      };
      still = tried.still;
    }

-- what was tried through a store was tried on the flash and the storage that it was made of
pub tried_on : {d d' e e' : Device} {s s' t t' : Storage} {edit : Edit} {root : ℕ} {result : Result ℕ Fault} → IsTried (storage_moment d' s') edit root result (storage_moment e' t') → d' ≡ d → s' ≡ s → e' ≡ e → t' ≡ t → IsTried (storage_moment d s) edit root result (storage_moment e t)
tried_on {d} {d'} {e} {e'} {s} {s'} {t} {t'} {edit} {root} {result} tried same_d same_s same_e same_t =
    on_flash (λ x y z w. IsTried (storage_moment x y) edit root result (storage_moment z w)) d d' s s' e e' t t' same_d same_s same_e same_t tried
