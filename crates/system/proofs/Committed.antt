-- What a commit leaves: the system is mounted as before, and the newest record is the working history, or what it was.
use Rattle.std.proofs.Common.{◌≡◌, ℕ, Option, Some, List, [], ◌∷◌, map, refl, ap, ◌∙◌}
use Rattle.std.specs.FinSet as set
use Rattle.std.specs.Option.{option_map}
use Rattle.std.specs.Ordering.{nat_cmp}
use Rattle.fs_types.specs.Names.{Name}
use Rattle.history_machine.specs.History.{Past}
use Rattle.flash_model.specs.declared.geometry.Geometry.{Geometry}
use Rattle.flash_model.specs.Device.{Device}
use Rattle.record_format.specs.declared.formats.TheConstants.{FORMAT}
use Rattle.record_format.specs.declared.record.Checkpoint.{Checkpoint}
use Rattle.record_format.specs.declared.record.Record.{Record}
use Rattle.record_format.specs.Payloads.{payload_at}
use Rattle.anchors.specs.Parts.{RecordBytes, newest_on}
use Rattle.anchors.specs.Committing.{IsCommitted}
use Rattle.anchors.proofs.Beginning.{committed_is_newest}
use Rattle.working_state.specs.declared.state.State.{State}
use Rattle.mounting.specs.Contents.{checkpoint_of, record_of}
use Rattle.mounting.specs.Records.{history_of}
use Rattle.mounting.specs.Saved.{record_in, saved_on}
use Rattle.system.specs.Commits.{record_on}

-- ---- the history of the record that is made of one

checkpoints_again : (es : List (Name × ℕ)) → map (λ (c : Checkpoint). (c.name, c.root)) (map checkpoint_of es) ≡ es
checkpoints_again [] = refl
checkpoints_again (e ∷ es) = ap (λ (rest : List (Name × ℕ)). e ∷ rest) (checkpoints_again es)

pub history_again : (g : Geometry) (h : Past ℕ) (last sequence : ℕ) (bad : List ℕ) → history_of (record (record_of g h last) { sequence = sequence; bad = bad }) ≡ h
history_again g h last sequence bad = ap (λ (es : List (Name × ℕ)). record h { checkpoints = es }) (checkpoints_again h.checkpoints)

-- ---- the newest record

-- it is as it was, where its place and its payload are
pub same_saved : (d e : Device) → e.geometry ≡ d.geometry → newest_on d.geometry e.pages ≡ newest_on d.geometry d.pages → saved_on e ≡ saved_on d
same_saved d e same newest =
    ap (λ (g : Geometry). record_in (option_map (λ (entry : RecordBytes). payload_at g entry.sequence entry.payload) (newest_on g e.pages))) same
    ∙ ap (λ (o : Option RecordBytes). record_in (option_map (λ (entry : RecordBytes). payload_at d.geometry entry.sequence entry.payload) o)) newest

-- it is a record that has this history
pub record IsNewly (e : Device) (h : Past ℕ) : Type 0 where
  pub newest : Record
  pub saved : saved_on e ≡ Some newest
  pub history : history_of newest ≡ h
  pub written : newest.format ≡ FORMAT

pub newly_saved : (d e : Device) (s : State) (sequence : ℕ) (bad : set.FinSet nat_cmp) → e.geometry ≡ d.geometry → IsCommitted e.pages (record_on d s) sequence bad → IsNewly e s.history
newly_saved d e s sequence bad same committed =
    let law = committed_is_newest e (record_on d s) sequence bad same committed in
    record {
      newest = record (record_on d s) { sequence = sequence; bad = law.0 };
      saved = ap record_in law.3;
      history = history_again d.geometry s.history s.storage.ring.last sequence law.0;
      written = refl;
    }
