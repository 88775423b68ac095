-- What reading a part of a node brings of the node, and why it is refused.
use Rattle.std.proofs.Common.{◌≡◌, ◌≢◌, ℕ, ◌+◌, ◌*◌, ◌<◌, ◌≤◌, List, [], length, take, drop, Option, Some, None, Result, Ok, Err, refl, sym, ap, subst, ◌∙◌, inl, inr, arith, add-zero}
use Rattle.std.specs.Prelude.{min, OnOk, IfErr, IsErrOf}
use Rattle.std.proofs.lemmas.Bool.{cases_lt}
use Rattle.std.proofs.lemmas.List.{length-take}
use Rattle.fs_types.specs.declared.fault.Fault.{Fault}
use Rattle.fs_types.specs.declared.fault.Fault.TheVariants.{ReadFailed, PowerCut, NoMemory, Damaged}
use Rattle.flash_model.specs.Geometry.{IsGeometry}
use Rattle.flash_model.specs.Device.{Device}
use Rattle.nodes.proofs.PageCountLaws.{fewer_pages}
use Rattle.nodes.specs.Faults.{IsReadFault}
use Rattle.node_store.specs.NodeLaws.{has_node, lawful_has_room}
use Rattle.node_store.specs.NodePages.{joined, node_of}
use Rattle.nodes.specs.PageCounts.{pages_for}
use Rattle.node_store.specs.Parts.{RefusesPart}
use Rattle.nodes.specs.Parts.{HasPart, LacksPart}
use Rattle.node_store.specs.Reading.{Brings}
use Rattle.node_store.specs.ReadingLaws.{joined_none_to}
use Rattle.node_store.specs.Stores.{Causes}
use Rattle.node_store.specs.declared.store.Store.{Store}
use Rattle.node_store.proofs.PartBytes.{part_of_first}

-- the bytes of a part of the joined pages are those of the node
has_part : (d : Device) (b offset count : ℕ) (out : List ℕ)
    → ((n : ℕ) (all : List ℕ) → joined d.pages (b * d.geometry.pages) n ≡ Some all → offset + count ≤ length all → out ≡ take count (drop offset all))
    → HasPart (node_of d b) offset count out
has_part d b offset count out copied = λ bytes node fits.
    let has = has_node d b bytes node in
    let long : length bytes ≡ min has.size (length has.all) = ap length (sym has.is) ∙ length-take has.size has.all in
    copied (pages_for d.geometry.page has.size) has.all has.joins (omega arith)
    ∙ sym (part_of_first has.all offset count has.size (omega arith))
    ∙ ap (λ (l : List ℕ). take count (drop offset l)) has.is

-- where a page up to the last of a part has no data, the node has no such part
lacks_part : (d : Device) (b offset count : ℕ) → IsGeometry d.geometry
    → joined d.pages (b * d.geometry.pages) (pages_for d.geometry.page (offset + count)) ≡ None → LacksPart (node_of d b) offset count
lacks_part d b offset count lawful none = λ bytes node.
    let room = lawful_has_room d.geometry lawful in
    let has = has_node d b bytes node in
    let long : length bytes ≡ min has.size (length has.all) = ap length (sym has.is) ∙ length-take has.size has.all in
    elim (cases_lt (length bytes) (offset + count)) [
      | inl short ↦ short
      | inr enough ↦
          let fewer = fewer_pages d.geometry.page (offset + count) has.size (omega arith) (omega arith) in
          let none_of = joined_none_to d.pages (b * d.geometry.pages) (pages_for d.geometry.page (offset + count)) (pages_for d.geometry.page has.size) fewer none in
          let both : None ≡ Some has.all = sym none_of ∙ has.joins in
          cc
    ]

-- what reading the pages of a part brings
pub brings_part : (d : Device) (b first offset count : ℕ) (out : List ℕ) (result : Result (Unit {0}) Fault) → first ≡ b * d.geometry.pages + 0
    → OnOk result ((n : ℕ) (all : List ℕ) → joined d.pages first n ≡ Some all → offset + count ≤ length all → out ≡ take count (drop offset all))
    → OnOk result (HasPart (node_of d b) offset count out)
brings_part d b first offset count out (Err fault) at copied = tt
brings_part d b first offset count out (Ok u) at copied =
    has_part d b offset count out (λ n all joins. copied n all (ap (λ (k : ℕ). joined d.pages k n) (at ∙ add-zero (b * d.geometry.pages)) ∙ joins))

-- a refusal of the pages of a part is one of the part
refuses_pages : (old new : Device) (b offset count : ℕ) (fault : Fault) → IsGeometry old.geometry
    → Brings old new (joined old.pages (b * old.geometry.pages) (pages_for old.geometry.page (offset + count))) [] (Err fault)
    → RefusesPart old new (node_of old b) offset count fault
refuses_pages old new b offset count ReadFailed lawful refused = refused
refuses_pages old new b offset count PowerCut lawful refused = refused
refuses_pages old new b offset count Damaged lawful refused = lacks_part old b offset count lawful refused
refuses_pages old new b offset count NoMemory lawful refused = tt
refuses_pages old new b offset count _ lawful refused = absurd refused

pub refuses_part : (old new : Device) (b first offset count : ℕ) (result : Result (Unit {0}) Fault) → IsGeometry old.geometry
    → first ≡ b * old.geometry.pages + 0
    → IfErr result (λ fault. Brings old new (joined old.pages first (pages_for old.geometry.page (offset + count))) [] (Err fault))
    → IfErr result (RefusesPart old new (node_of old b) offset count)
refuses_part old new b first offset count (Ok u) lawful at refused = tt
refuses_part old new b first offset count (Err fault) lawful at refused =
    refuses_pages old new b offset count fault lawful
    (subst (λ (k : ℕ). Brings old new (joined old.pages k (pages_for old.geometry.page (offset + count))) [] (Err fault)) (at ∙ add-zero (b * old.geometry.pages)) refused)

-- what a refusal tells, whatever was answered
pub part_damaged : (old new : Device) (there : Option (List ℕ)) (offset count : ℕ) (result : Result (Unit {0}) Fault)
    → IfErr result (RefusesPart old new there offset count) → IsErrOf result Damaged → LacksPart there offset count
part_damaged old new there offset count result refused is =
    subst (λ (r : Result (Unit {0}) Fault). IfErr r (RefusesPart old new there offset count)) is refused

part_fault : (old new : Device) (there : Option (List ℕ)) (offset count : ℕ) (fault : Fault) → RefusesPart old new there offset count fault → IsReadFault fault
part_fault old new there offset count ReadFailed refused = refl
part_fault old new there offset count PowerCut refused = refl
part_fault old new there offset count NoMemory refused = refl
part_fault old new there offset count Damaged refused = refl
part_fault old new there offset count _ refused = absurd refused

pub part_faults : (old new : Device) (there : Option (List ℕ)) (offset count : ℕ) (result : Result (Unit {0}) Fault)
    → IfErr result (RefusesPart old new there offset count) → IfErr result IsReadFault
part_faults old new there offset count (Ok u) refused = tt
part_faults old new there offset count (Err fault) refused = part_fault old new there offset count fault refused

module _ {F : Type 0} (device : F → Device) (s t : Store F) (there : Option (List ℕ)) (offset count : ℕ) where
  part_cause : (fault : Fault) → RefusesPart (device s.flash.now) (device t.flash.now) there offset count fault → fault ≢ Damaged → Causes device s t fault
  part_cause ReadFailed refused apart = record { reason = refused }
  part_cause PowerCut refused apart = record { reason = refused }
  part_cause NoMemory refused apart = record { reason = tt }
  part_cause Damaged refused apart = absurd (apart refl)
  part_cause _ refused apart = absurd refused

  pub part_causes : (result : Result (Unit {0}) Fault) → IfErr result (RefusesPart (device s.flash.now) (device t.flash.now) there offset count)
      → IfErr result (λ fault. fault ≢ Damaged → Causes device s t fault)
  part_causes (Ok u) refused = tt
  part_causes (Err fault) refused = part_cause fault refused
