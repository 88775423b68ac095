-- What calls leave of nodes, in one word each over the trait `Nodes`.
use Rattle.std.specs.Prelude.{ℕ, ◌+◌, ◌-◌, ◌≤◌, Result, IfErr}
use Rattle.fs_types.specs.declared.fault.Fault.{Fault}
use Rattle.node_format.specs.Headers.{body_header}
use Rattle.node_format.specs.declared.place.Place.{Place}
use Rattle.nodes.specs.Reached as reached
use Rattle.nodes.specs.Trees as trees
use Rattle.nodes.specs.Faults.{IsLookFault}
use Rattle.nodes.specs.Frames as frames
use Rattle.nodes.specs.declared.nodes.Nodes.{Ghosts}

-- a call that only reads
abbrev pub Looks : {S : Type 0} → Ghosts S → S → S → Type 0
Looks N old new = frames.OnlyLooks N.node N.kept N.writes N.follows N.is_sound N.limit N.blocks old new

-- a call that may write
abbrev pub Works : {S : Type 0} → Ghosts S → S → S → Type 0
Works N old new = frames.Works N.follows N.is_sound N.limit N.blocks old new

-- what was kept stays so, with its node
abbrev pub Keeps : {S : Type 0} → Ghosts S → S → S → Type 0
Keeps N old new = reached.Keeps (N.kept old) (N.node old) (N.kept new) (N.node new)

-- all that a place leads to is kept
abbrev pub IsHeld : {S : Type 0} → Ghosts S → S → Place → Type 0
IsHeld N s place = reached.IsHeld (N.node s) (N.kept s) place

-- a block is the root of a tree
abbrev pub IsRoot : {S : Type 0} → Ghosts S → S → ℕ → Type 0
IsRoot N s root = trees.IsRoot (N.limit s - body_header) (N.node s) root

-- a call that only reads, so many nodes at most; a refusal is one of these, and one that nodes give has its cause
pub record LooksWithin {S T : Type 0} (N : Ghosts S) (IsOwn : Fault → Type 0) (most_reads : ℕ) (old : S) (result : Result T Fault) (new : S) : Type 0 where
  pub looks : Looks N old new
  pub reads : N.reads new ≤ N.reads old + most_reads
  pub why : IfErr result (λ fault. IsLookFault fault → N.causes old new fault)
  pub faults : IfErr result IsOwn

-- a call that reads and writes so many nodes at most; a refusal is one of these, and has its cause
pub record WorksWithin {S T : Type 0} (N : Ghosts S) (IsOwn : Fault → Type 0) (most_reads most_writes : ℕ) (old : S) (result : Result T Fault) (new : S) : Type 0 where
  pub works : Works N old new
  pub reads : N.reads new ≤ N.reads old + most_reads
  pub writes : N.writes new ≤ N.writes old + most_writes
  pub why : IfErr result (λ fault. N.causes old new fault)
  pub faults : IfErr result IsOwn
