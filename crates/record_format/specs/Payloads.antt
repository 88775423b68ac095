-- The payload of a record: what it means, and its spelling; numbers are little-endian.
use Rattle.std.specs.Prelude.{◌≡◌, ℕ, ◌+◌, ◌<◌, ◌≤◌, ◌^◌, Bool, true, ◌&&◌, ◌||◌, not, ◌==◌, nat_lt, nat_le, Option, Some, None, Result, Err, List, [], ◌∷◌, ◌++◌, length, if◌then◌else◌}
use Rattle.std.specs.List.{list_all, flat_map}
use Rattle.std.specs.Option.{ok_or}
use Rattle.std.specs.Ordering.{is_lt}
use Rattle.std.specs.Str.{bytes_eq}
use Rattle.byteorder.specs.Endian.{little_from, little_bytes}
use Rattle.fields.specs.Numbers.{◌>>=◌, byte_at, number_at}
use Rattle.fs_types.specs.declared.limits.TheConstants.{ANCHORS, MAX_BAD_BLOCKS, MAX_CHECKPOINTS, MAX_VERSIONS, MIN_VERSIONS}
use Rattle.record_format.specs.declared.formats.TheConstants.{FORMAT, OLD_FORMAT, OLD_MAX_VERSIONS}
use Rattle.fs_types.specs.Names.{Name, name_cmp, is_checkpoint_name}
use Rattle.fs_types.specs.declared.fault.Fault.{Fault}
use Rattle.fs_types.specs.declared.fault.Fault.TheVariants.{Damaged, BadGeometry}
use Rattle.fs_types.specs.declared.call.Version.{Version}
use Rattle.flash_model.specs.declared.geometry.Geometry.{Geometry}
use Rattle.record_format.specs.declared.record.Checkpoint.{Checkpoint}
use Rattle.record_format.specs.declared.record.Record.{Record}
use Rattle.record_format.specs.declared.front.Front.{Front}
use Rattle.record_format.specs.Items.{version_at, checkpoint_at, block_at, many_at}

-- the formats that are read
abbrev pub is_format : ℕ → Bool
is_format format = (format == OLD_FORMAT) || (format == FORMAT)

-- the most versions that a record of a format keeps
abbrev pub most_versions : ℕ → ℕ
most_versions format = if format == OLD_FORMAT then OLD_MAX_VERSIONS else MAX_VERSIONS

-- the longest payload: 40 bytes in front, 128 versions, 16 checkpoints with names of 31 bytes, 256 bad blocks
abbrev pub longest : ℕ
longest = 3176

-- the bytes that tell the format and the sizes
abbrev pub shortest : ℕ
shortest = 16

-- 1 for true
abbrev pub flag : Bool → ℕ
flag b = if b then 1 else 0

-- ---- the spelling

abbrev pub version_bytes : Version ℕ → List ℕ
version_bytes version = little_bytes 8 version.serial ++ little_bytes 4 version.root

abbrev pub checkpoint_bytes : Checkpoint → List ℕ
checkpoint_bytes checkpoint = length checkpoint.name ∷ (checkpoint.name ++ little_bytes 4 checkpoint.root)

abbrev pub block_field : ℕ → List ℕ
block_field block = little_bytes 4 block

-- bytes of a page, pages of a block, blocks
abbrev pub sizes_bytes : Geometry → List ℕ
sizes_bytes g = little_bytes 4 g.page ++ (little_bytes 4 g.pages ++ little_bytes 4 g.blocks)

-- most versions, cursor, dropped, counts of versions and checkpoints, a byte and then, after the count of bad blocks, a number of two bytes that are not looked at, next serial, last block taken
abbrev pub counts_bytes : ℕ → ℕ → Record → List ℕ
counts_bytes one two r =
    little_bytes 2 r.limit ++ (little_bytes 2 r.cursor ++ ((flag r.dropped ∷ length r.versions ∷ length r.checkpoints ∷ one ∷ [])
    ++ (little_bytes 2 (length r.bad) ++ (little_bytes 2 two ++ (little_bytes 8 r.next ++ little_bytes 4 r.last)))))

abbrev pub lists_bytes : Record → List ℕ
lists_bytes r = flat_map version_bytes r.versions ++ (flat_map checkpoint_bytes r.checkpoints ++ flat_map block_field r.bad)

-- a payload that says this record, with the numbers that are not looked at
abbrev pub spelling : ℕ → ℕ → Record → List ℕ
spelling one two r = little_bytes 4 r.format ++ (sizes_bytes r.geometry ++ (counts_bytes one two r ++ lists_bytes r))

-- the payload that is written: there they are 0
abbrev pub payload_bytes : Record → List ℕ
payload_bytes r = spelling 0 0 r

-- the record that is written for one: of the format that is written, with another list of bad blocks
abbrev pub written : Record → List ℕ → Record
written r bad = record r { format = FORMAT; bad = bad }

-- ---- lawful records

-- serials ascend from after one on
abbrev pub serials_ascend : ℕ → List (Version ℕ) → Bool
serials_ascend before [] = true
serials_ascend before (version ∷ versions) = nat_lt before version.serial && serials_ascend version.serial versions

-- names ascend in byte order from after one on
abbrev pub names_ascend : Name → List Checkpoint → Bool
names_ascend before [] = true
names_ascend before (checkpoint ∷ checkpoints) = is_lt (name_cmp before checkpoint.name) && names_ascend checkpoint.name checkpoints

-- numbers ascend from one on
abbrev pub numbers_ascend : ℕ → List ℕ → Bool
numbers_ascend least [] = true
numbers_ascend least (n ∷ numbers) = nat_le least n && numbers_ascend (n + 1) numbers

-- a format that is read, and a lawful number of versions that may be kept
abbrev pub has_limit : Record → Bool
has_limit r = is_format r.format && nat_le MIN_VERSIONS r.limit && nat_le r.limit (most_versions r.format)

-- the counts of a record: a lawful number of versions may be kept, some are, the cursor is at one of them, no more checkpoints and bad blocks than may be, and the last block taken is a data block
abbrev pub has_counts : Record → Bool
has_counts r =
    has_limit r && nat_le (length r.versions) r.limit && nat_lt r.cursor (length r.versions)
    && nat_le (length r.checkpoints) MAX_CHECKPOINTS && nat_le (length r.bad) MAX_BAD_BLOCKS && nat_le ANCHORS r.last && nat_lt r.last r.geometry.blocks

-- versions from serial 1 on, below the next serial, in order
abbrev pub has_versions : Record → Bool
has_versions r = serials_ascend 0 r.versions && list_all (λ version. nat_lt version.serial r.next) r.versions

-- names of checkpoints, in order
abbrev pub has_checkpoints : Record → Bool
has_checkpoints r = names_ascend [] r.checkpoints

-- bad blocks of the flash, in order
abbrev pub has_bad_blocks : Record → Bool
has_bad_blocks r = numbers_ascend 0 r.bad && list_all (λ block. nat_lt block r.geometry.blocks) r.bad

-- a record that a payload may say
abbrev pub is_record : Record → Bool
is_record r = has_counts r && (has_versions r && (has_checkpoints r && has_bad_blocks r))

-- sizes fit their fields
pub record SizesFit (g : Geometry) : Type 0 where
  pub page : g.page < 2 ^ 32
  pub pages : g.pages < 2 ^ 32
  pub blocks : g.blocks < 2 ^ 32

-- the numbers of a record fit their fields, and its names are names
pub record FitsFields (r : Record) : Type 0 where
  pub sizes : SizesFit r.geometry
  pub next : r.next < 2 ^ 64
  pub roots : list_all (λ version. nat_lt version.root (2 ^ 32)) r.versions ≡ true
  pub checkpoints : list_all (λ checkpoint. is_checkpoint_name checkpoint.name && nat_lt checkpoint.root (2 ^ 32)) r.checkpoints ≡ true

-- ---- the meaning

-- the fields in front of the lists
unfoldable pub sizes_at : List ℕ → Option (Geometry × List ℕ)
sizes_at bytes = do
  page ← number_at 4 bytes
  pages ← number_at 4 page.1
  blocks ← number_at 4 pages.1
  Some (record { page = page.0; pages = pages.0; blocks = blocks.0 }, blocks.1)

unfoldable pub front_at : List ℕ → Option (Front × List ℕ)
front_at bytes = do
  limit ← number_at 2 bytes
  cursor ← number_at 2 limit.1
  dropped ← byte_at cursor.1
  versions ← byte_at dropped.1
  checkpoints ← byte_at versions.1
  one ← byte_at checkpoints.1
  bad ← number_at 2 one.1
  two ← number_at 2 bad.1
  next ← number_at 8 two.1
  last ← number_at 4 next.1
  Some (
    record {
      limit = limit.0;
      cursor = cursor.0;
      dropped = dropped.0;
      versions = versions.0;
      checkpoints = checkpoints.0;
      one = one.0;
      bad = bad.0;
      two = two.0;
      next = next.0;
      last = last.0;
    },
    last.1,
  )

-- a lawful record that the bytes spell
abbrev pub if_spelled : Record → ℕ → ℕ → List ℕ → Option Record
if_spelled r one two bytes = if is_record r && bytes_eq (spelling one two r) bytes then Some r else None

-- the record with this sequence that a payload means; none where it means none. What is read is a lawful record, and the bytes are its spelling but for those that are not looked at
unfoldable pub meaning_of : ℕ → List ℕ → Option Record
meaning_of sequence bytes = do
  format ← number_at 4 bytes
  sizes ← sizes_at format.1
  front ← front_at sizes.1
  versions ← many_at version_at front.0.versions front.1
  checkpoints ← many_at checkpoint_at front.0.checkpoints versions.1
  bad ← many_at block_at front.0.bad checkpoints.1
  if_spelled (record {
    sequence = sequence;
    format = format.0;
    geometry = sizes.0;
    limit = front.0.limit;
    cursor = front.0.cursor;
    dropped = front.0.dropped == 1;
    versions = versions.0;
    checkpoints = checkpoints.0;
    bad = bad.0;
    next = front.0.next;
    last = front.0.last;
  }) front.0.one front.0.two bytes

-- the bytes of a payload tell these sizes
abbrev pub tells_sizes : Geometry → List ℕ → Bool
tells_sizes g bytes = (little_from 4 4 bytes == g.page) && ((little_from 8 4 bytes == g.pages) && (little_from 12 4 bytes == g.blocks))

-- the fields before the lists of a payload; none where bytes are missing
unfoldable pub front_in : List ℕ → Option Front
front_in bytes = do
  format ← number_at 4 bytes
  sizes ← sizes_at format.1
  front ← front_at sizes.1
  Some front.0

-- the fields before the lists are there, and say that one has something on it
abbrev pub HasItems : List ℕ → Type 0
HasItems bytes = (front : Front) × (front_in bytes ≡ Some front) × (0 < front.versions + (front.checkpoints + front.bad))

-- memory is wanted for what is on the lists of a payload alone: its format is one that is read, it tells these sizes and is not too long, and something is on a list
pub record WantsMemory (g : Geometry) (bytes : List ℕ) : Type 0 where
  pub format : is_format (little_from 0 4 bytes) ≡ true
  pub sizes : tells_sizes g bytes ≡ true
  pub most : length bytes ≤ longest
  pub items : HasItems bytes

-- what a payload on a flash of these sizes means, or why it means nothing: the format comes first, then the sizes, then the rest, a payload that is too long among it
abbrev pub payload_at : Geometry → ℕ → List ℕ → Result Record Fault
payload_at g sequence bytes =
    if nat_lt (length bytes) shortest || not (is_format (little_from 0 4 bytes)) then Err Damaged
    else if not (tells_sizes g bytes) then Err BadGeometry
    else if nat_lt longest (length bytes) then Err Damaged
    else ok_or (meaning_of sequence bytes) Damaged
