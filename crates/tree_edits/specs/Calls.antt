-- What a call along a chain asks of nodes: its reads are bounded by the binary digits of the index of the head.
use Rattle.std.specs.Prelude.{◌≡◌, ℕ, ◌+◌, ◌≤◌, Result, OnOk, IfErr}
use Rattle.fs_types.specs.declared.fault.Fault.{Fault}
use Rattle.nodes.specs.Faults.{IsLookFault}
use Rattle.nodes.specs.Words.{Looks, Works}
use Rattle.nodes.specs.declared.nodes.Nodes.{Ghosts}
use Rattle.tree_edits.specs.Reading.{HasDigits}
use Rattle.tree_edits.specs.Writing.{IsWritingFault}

-- a call that only reads, at most so many nodes for so many digits of an index; a refusal has its cause
pub record LooksAlong {S T : Type 0} (N : Ghosts S) (index : ℕ) (most_reads : ℕ → ℕ) (old : S) (result : Result T Fault) (new : S) : Type 0 where
  pub looks : Looks N old new
  pub reads : (digits : ℕ) → HasDigits index digits → N.reads new ≤ N.reads old + most_reads digits
  pub why : IfErr result (λ fault. N.causes old new fault)
  pub faults : IfErr result IsLookFault

-- a call that also writes, at most so many nodes, and just so many where it is Ok
pub record WorksAlong {S T : Type 0} (N : Ghosts S) (index : ℕ) (most_reads : ℕ → ℕ) (most_writes : ℕ) (old : S) (result : Result T Fault) (new : S) : Type 0 where
  pub works : Works N old new
  pub reads : (digits : ℕ) → HasDigits index digits → N.reads new ≤ N.reads old + most_reads digits
  pub writes : N.writes new ≤ N.writes old + most_writes
  pub written : OnOk result (N.writes new ≡ N.writes old + most_writes)
  pub why : IfErr result (λ fault. N.causes old new fault)
  pub faults : IfErr result IsWritingFault
