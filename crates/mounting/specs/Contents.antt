-- What a commit record says of a history.
use Rattle.std.specs.Prelude.{ℕ, [], map}
use Rattle.history_machine.specs.History.{Past}
use Rattle.fs_types.specs.Names.{Name}
use Rattle.flash_model.specs.declared.geometry.Geometry.{Geometry}
use Rattle.record_format.specs.declared.formats.TheConstants.{FORMAT}
use Rattle.record_format.specs.declared.record.Checkpoint.{Checkpoint}
use Rattle.record_format.specs.declared.record.Record.{Record}

abbrev pub checkpoint_of : Name × ℕ → Checkpoint
checkpoint_of e = record { name = e.0; root = e.1 }

-- the record of a history, of the format that is written, with the block that was taken last. Its sequence and its bad blocks are not those that a commit writes
abbrev pub record_of : Geometry → Past ℕ → ℕ → Record
record_of g h last = record {
  sequence = 0;
  format = FORMAT;
  geometry = g;
  limit = h.limit;
  cursor = h.cursor;
  dropped = h.dropped;
  versions = h.versions;
  checkpoints = map checkpoint_of h.checkpoints;
  bad = [];
  next = h.next;
  last = last;
}
