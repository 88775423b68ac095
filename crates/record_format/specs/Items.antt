-- Reading a part of a payload from the front of bytes: a value, and the bytes after it; none where they are too few.
use Rattle.std.specs.Prelude.{ℕ, zero, suc, Option, Some, None, nat_lt, List, [], ◌∷◌, length, take, drop, if◌then◌else◌}
use Rattle.fields.specs.Numbers.{◌>>=◌, byte_at, number_at}
use Rattle.fs_types.specs.Names.{Name, is_checkpoint_name}
use Rattle.fs_types.specs.declared.call.Version.{Version}
use Rattle.record_format.specs.declared.record.Checkpoint.{Checkpoint}

-- a lawful name of a checkpoint, of so many bytes
abbrev pub checkpoint_name_at : ℕ → List ℕ → Option (Name × List ℕ)
checkpoint_name_at size bytes = if nat_lt (length bytes) size then None else if is_checkpoint_name (take size bytes) then Some (take size bytes, drop size bytes) else None

-- a version: serial, root
unfoldable pub version_at : List ℕ → Option (Version ℕ × List ℕ)
version_at bytes = do
  serial ← number_at 8 bytes
  root ← number_at 4 serial.1
  Some (record { serial = serial.0; root = root.0 }, root.1)

-- a checkpoint: length of the name, name, root
unfoldable pub checkpoint_at : List ℕ → Option (Checkpoint × List ℕ)
checkpoint_at bytes = do
  size ← byte_at bytes
  name ← checkpoint_name_at size.0 size.1
  root ← number_at 4 name.1
  Some (record { name = name.0; root = root.0 }, root.1)

-- a bad block: its number
abbrev pub block_at : List ℕ → Option (ℕ × List ℕ)
block_at bytes = number_at 4 bytes

-- so many items, one after the other
unfoldable pub many_at : {X : Type 0} → (List ℕ → Option (X × List ℕ)) → ℕ → List ℕ → Option (List X × List ℕ)
many_at item zero bytes = Some ([], bytes)
many_at item (suc n) bytes = do
  first ← item bytes
  others ← many_at item n first.1
  Some (first.0 ∷ others.0, others.1)
