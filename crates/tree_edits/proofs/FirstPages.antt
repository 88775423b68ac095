-- What the first page of a body node tells, and which refusals come of it.
use Rattle.std.proofs.Common.{◌≡◌, ℕ, suc, ◌+◌, ◌*◌, ◌<◌, ◌≤◌, Option, Some, None, List, length, refl, arith, rules}
use Rattle.fs_types.specs.declared.fault.Fault.{Fault}
use Rattle.fs_types.specs.declared.fault.Fault.TheVariants.{FlashFull, ReadOnly, ReadFailed, PowerCut, NoMemory}
use Rattle.node_format.specs.Headers.{field, IsNode}
use Rattle.nodes.specs.Faults.{IsLookFault, IsWriteFault}
use Rattle.nodes.specs.Parts.{IsFront}
use Rattle.nodes.specs.FrontLaws.{front_at}
use Rattle.nodes.specs.Bodies.{index_of, pointer_of}
use Rattle.tree_edits.specs.Writing.{IsWritingFault}
use Rattle.tree_edits.proofs.Chains.{body_at}

-- a number within the first page
front_number : (page : ℕ) (front bytes : List ℕ) → IsFront page front bytes → (place : ℕ) → place + 4 ≤ page → place + 4 ≤ length bytes → field front place ≡ field bytes place
front_number page front bytes is place within below =
    let a = front_at page front bytes is place (omega arith) (omega arith) in
    let b = front_at page front bytes is (suc place) (omega arith) (omega arith) in
    let c = front_at page front bytes is (suc (suc place)) (omega arith) (omega arith) in
    let d = front_at page front bytes is (suc (suc (suc place))) (omega arith) (omega arith) in
    rw (a, b, c, d) refl

-- so a pointer is
pub front_pointer : (page limit index slot : ℕ) (held : Option (List ℕ)) (front : List ℕ) → 256 ≤ page → ((bytes : List ℕ) → held ≡ Some bytes → IsFront page front bytes)
    → ((bytes : List ℕ) → held ≡ Some bytes → IsNode limit bytes) → index_of held ≡ Some index → slot < 16 → field front (16 + 4 * slot) ≡ pointer_of held slot
front_pointer page limit index slot None front least begins whole indexed few = absurd cc
front_pointer page limit index slot (Some bytes) front least begins whole indexed few =
    let at = body_at limit index (Some bytes) bytes refl (whole bytes refl) indexed in
    front_number page front bytes (begins bytes refl) (16 + 4 * slot) (omega arith) (omega (arith, at.is_node.size))

-- what reads of a body are refused with, changes are
pub read_refused : (fault : Fault) → IsLookFault fault → IsWritingFault fault
read_refused ReadFailed is = tt
read_refused PowerCut is = tt
read_refused NoMemory is = tt
read_refused fault is = search rules

-- so is what writes are refused with
pub write_refused : (fault : Fault) → IsWriteFault fault → IsWritingFault fault
write_refused FlashFull is = tt
write_refused ReadOnly is = tt
write_refused PowerCut is = tt
write_refused NoMemory is = tt
write_refused fault is = search rules
