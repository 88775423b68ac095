-- What a function refuses by itself after it read nodes, and what refusals of reads are to it.
use Rattle.std.specs.Prelude.{◌≡◌, ℕ, true, Ok, Err}
use Rattle.std.proofs.Common.{sym}
use Rattle.std.proofs.lemmas.Bool.{true≢false}
use Rattle.fs_types.specs.declared.fault.Fault.{Fault}
use Rattle.fs_types.specs.declared.fault.Fault.TheVariants.{NoEntry, NotDirectory, Damaged, ReadFailed, PowerCut, NoMemory}
use Rattle.nodes.specs.Faults.{IsLookFault}
use Rattle.nodes.specs.Words.{LooksWithin}
use Rattle.nodes.specs.declared.nodes.Nodes.{Ghosts}
use Rattle.directory.specs.Lookups.{is_path_fault}
use Rattle.directory.specs.Trails.{IsChangeFault}

-- what the nodes hold is none of the refusals of a look
path_no_look : (fault : Fault) → is_path_fault fault ≡ true → IsLookFault fault → ⊥
path_no_look NoEntry path look = true≢false (sym look)
path_no_look NotDirectory path look = true≢false (sym look)
path_no_look Damaged path look = true≢false (sym look)
path_no_look _ path look = true≢false (sym path)

-- a refusal of a look is one of an edit
pub look_refused : (fault : Fault) → IsLookFault fault → IsChangeFault fault
look_refused Damaged look = absurd (true≢false (sym look))
look_refused ReadFailed look = look
look_refused PowerCut look = look
look_refused NoMemory look = look
look_refused _ look = absurd (true≢false (sym look))

module _ {S : Type 0} {N : Ghosts S} where
  -- a refusal by what was read
  pub looks_refuse : {T U : Type 0} {IsFirst IsOwn : Fault → Type 0} {r : ℕ} {s t : S} {x : T} {fault : Fault} → is_path_fault fault ≡ true → IsOwn fault → LooksWithin N IsFirst r s (Ok x) t → LooksWithin {T = U} N IsOwn r s (Err fault) t
  looks_refuse {fault = fault} path own within = record { looks = within.looks; reads = within.reads; why = λ look. absurd (path_no_look fault path look); faults = own }
