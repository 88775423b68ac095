-- The payload of a record that is written, and the first bytes of one that is too long.
use Rattle.std.specs.Prelude.{◌≡◌, ℕ, ◌<◌, List, ◌++◌, length, Ok}
use Rattle.std.specs.FinSet as set
use Rattle.std.specs.Ordering.{nat_cmp}
use Rattle.std.specs.List.Sorted.{IsStrictlyIncreasing}
use Rattle.record_format.specs.declared.record.Record.{Record}
use Rattle.record_format.specs.Payloads.{longest, written, payload_bytes, payload_at}

-- the bytes are the one spelling of this record in the format that is written, with the list of bad blocks in ascending order, and mean it on a flash of its sizes, with a sequence
pub record Means (r : Record) (sequence : ℕ) (bad : set.FinSet nat_cmp) (bytes : List ℕ) : Type 0 where
  pub list : List ℕ
  pub ascends : IsStrictlyIncreasing list
  pub listed : set.from_list list ≡ bad
  pub spelled : bytes ≡ payload_bytes (written r list)
  pub means : payload_at r.geometry sequence bytes ≡ Ok (record (written r list) { sequence = sequence })

-- these are the first bytes of a payload that is longer than any
pub record IsLongFront (payload front : List ℕ) : Type 0 where
  pub rest : List ℕ
  pub some : 0 < length rest
  pub full : length front ≡ longest
  pub is : payload ≡ front ++ rest
