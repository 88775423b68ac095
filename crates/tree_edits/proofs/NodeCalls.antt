-- Calls along a chain, one after another.
use Rattle.std.specs.Prelude.{◌≡◌, ◌≢◌, ℕ, ◌+◌, ◌≤◌, Result, Ok, Err, OnOk, IfErr, IsErrOf}
use Rattle.std.proofs.Common.{refl, ap, arith}
use Rattle.std.proofs.lemmas.Result.{IfErr-weaker}
use Rattle.fs_types.specs.declared.fault.Fault.{Fault}
use Rattle.fs_types.specs.declared.fault.Fault.TheVariants.{Damaged}
use Rattle.nodes.specs.Faults.{IsLookFault, IsReadFault}
use Rattle.nodes.specs.WordLaws.{looks_causes}
use Rattle.nodes.specs.Words.{Looks, Works, LooksWithin, WorksWithin}
use Rattle.nodes.specs.declared.nodes.Nodes.{Ghosts}
use Rattle.tree_edits.specs.Calls.{LooksAlong, WorksAlong}
use Rattle.tree_edits.specs.Reading.{HasDigits}
use Rattle.tree_edits.specs.Writing.{IsWritingFault}
use Rattle.tree_edits.proofs.FirstPages.{read_refused}

undamaged : (fault : Fault) → fault ≢ Damaged → IsReadFault fault → IsLookFault fault
undamaged Damaged apart is = absurd (apart refl)
undamaged _ apart is = is

module _ {S : Type 0} {N : Ghosts S} where
  -- a read of a node that is there
  pub part_within : {T : Type 0} (s t : S) (result : Result T Fault) → (IsErrOf result Damaged → ⊥) → Looks N s t → N.reads t ≡ N.reads s + 1
      → IfErr result (λ fault. fault ≢ Damaged → N.causes s t fault) → IfErr result IsReadFault → LooksWithin N IsLookFault 1 s result t
  part_within s t (Ok _) whole looks reads why faults = record { looks = looks; reads = omega (arith, reads); why = tt; faults = tt }
  part_within s t (Err fault) whole looks reads why faults =
      let apart : fault ≢ Damaged = λ same. whole (ap Err same) in
      record { looks = looks; reads = omega (arith, reads); why = λ look. why apart; faults = undamaged fault apart faults }

  -- a call after reads, with all that was read
  pub within_after : {T : Type 0} {IsOwn : Fault → Type 0} {r reads : ℕ} {y : Result T Fault}
      (looks_on : (s t u : S) → Looks N s t → Looks N t u → Looks N s u) (causes_on : (s t u : S) (fault : Fault) → N.follows s t → N.causes t u fault → N.causes s u fault)
      (s t u : S) → Looks N s t → LooksWithin N IsOwn r t y u → N.reads u ≤ N.reads s + reads → LooksWithin N IsOwn reads s y u
  within_after looks_on causes_on s t u first then few = record {
    looks = looks_on s t u first then.looks;
    reads = few;
    why = IfErr-weaker _ (λ (fault : Fault). IsLookFault fault → N.causes t u fault) (λ (fault : Fault). IsLookFault fault → N.causes s u fault) (λ fault why look. causes_on s t u fault first.came (why look)) then.why;
    faults = then.faults;
  }

  -- so many reads whatever the index is
  pub along_within : {T : Type 0} {r : ℕ} {s t : S} {x : Result T Fault} (index : ℕ) → LooksWithin N IsLookFault r s x t → LooksAlong N index (λ digits. r) s x t
  along_within index within = record { looks = within.looks; reads = λ digits has. within.reads; why = looks_causes (λ fault is. is) within; faults = within.faults }

  pub along_after : {T : Type 0} {i index : ℕ} {r reads : ℕ → ℕ} {y : Result T Fault}
      (looks_on : (s t u : S) → Looks N s t → Looks N t u → Looks N s u) (causes_on : (s t u : S) (fault : Fault) → N.follows s t → N.causes t u fault → N.causes s u fault)
      (s t u : S) → Looks N s t → LooksAlong N i r t y u → ((digits : ℕ) → HasDigits index digits → N.reads u ≤ N.reads s + reads digits) → LooksAlong N index reads s y u
  along_after looks_on causes_on s t u first then few = record {
    looks = looks_on s t u first then.looks;
    reads = few;
    why = IfErr-weaker _ (λ (fault : Fault). N.causes t u fault) (λ (fault : Fault). N.causes s u fault) (λ fault why. causes_on s t u fault first.came why) then.why;
    faults = then.faults;
  }

  pub along_wider : {T : Type 0} {i index : ℕ} {r reads : ℕ → ℕ} {s t : S} {x : Result T Fault} → LooksAlong N i r s x t → ((digits : ℕ) → HasDigits index digits → N.reads t ≤ N.reads s + reads digits) → LooksAlong N index reads s x t
  along_wider along few = record { looks = along.looks; reads = few; why = along.why; faults = along.faults }

  -- a refusal that is handed on
  pub along_refused : {T U : Type 0} {index : ℕ} {r : ℕ → ℕ} {s t : S} {fault : Fault} → LooksAlong {T = T} N index r s (Err fault) t → LooksAlong {T = U} N index r s (Err fault) t
  along_refused along = record { looks = along.looks; reads = along.reads; why = along.why; faults = along.faults }

  -- a refusal before anything is written
  pub along_looking : {T U : Type 0} {index w : ℕ} {r : ℕ → ℕ} {fault : Fault} (looks_works : (s t : S) → Looks N s t → Works N s t) (s t : S) → LooksAlong {T = T} N index r s (Err fault) t → WorksAlong {T = U} N index r w s (Err fault) t
  along_looking looks_works s t along = record {
    works = looks_works s t along.looks;
    reads = along.reads;
    writes = omega (arith, along.looks.same_writes);
    written = tt;
    why = along.why;
    faults = read_refused _ along.faults;
  }

  pub writes_within : {T : Type 0} {r w : ℕ} {s t : S} {x : Result T Fault} (index : ℕ) → WorksWithin N IsWritingFault r w s x t → OnOk x (N.writes t ≡ N.writes s + w) → WorksAlong N index (λ digits. r) w s x t
  writes_within index within written = record { works = within.works; reads = λ digits has. within.reads; writes = within.writes; written = written; why = within.why; faults = within.faults }

  pub writes_after : {T : Type 0} {i index w writes : ℕ} {r reads : ℕ → ℕ} {y : Result T Fault}
      (works_on : (s t u : S) → Works N s t → Works N t u → Works N s u) (causes_on : (s t u : S) (fault : Fault) → N.follows s t → N.causes t u fault → N.causes s u fault)
      (s t u : S) → Works N s t → WorksAlong N i r w t y u → ((digits : ℕ) → HasDigits index digits → N.reads u ≤ N.reads s + reads digits) → N.writes u ≤ N.writes s + writes → OnOk y (N.writes u ≡ N.writes s + writes) → WorksAlong N index reads writes s y u
  writes_after works_on causes_on s t u first then few_reads few_writes written = record {
    works = works_on s t u first then.works;
    reads = few_reads;
    writes = few_writes;
    written = written;
    why = IfErr-weaker _ (λ (fault : Fault). N.causes t u fault) (λ (fault : Fault). N.causes s u fault) (λ fault why. causes_on s t u fault first.came why) then.why;
    faults = then.faults;
  }

  pub writes_refused : {T U : Type 0} {index w : ℕ} {r : ℕ → ℕ} {s t : S} {fault : Fault} → WorksAlong {T = T} N index r w s (Err fault) t → WorksAlong {T = U} N index r w s (Err fault) t
  writes_refused along = record { works = along.works; reads = along.reads; writes = along.writes; written = tt; why = along.why; faults = along.faults }
