-- What calls ask of nodes and bring, in words over the trait `Nodes`.
use Rattle.std.specs.Prelude.{◌≡◌, ℕ, ◌+◌, ◌≤◌, Result, IfErr}
use Rattle.std.specs.List.{sum_by}
use Rattle.fs_types.specs.declared.fault.Fault.{Fault}
use Rattle.nodes.specs.Faults.{IsLookFault}
use Rattle.nodes.specs.Words.{Looks}
use Rattle.nodes.specs.declared.nodes.Nodes.{Ghosts}
use Rattle.reclaim.specs.Kinds.{Knows, HasAsked}
use Rattle.reclaim.specs.Passes.{Pass, IsPass, IsFinished}
use Rattle.reclaim.specs.Verified.{once_reads, once_pages}

-- a call that only reads, at a cost that is no number: how many reads came before and after it; a refusal is one of these, and one
-- that nodes give has its cause
pub record LooksAtCost {S T : Type 0} (N : Ghosts S) (IsOwn : Fault → Type 0) (HasReads : ℕ → ℕ → Type 0) (old : S) (result : Result T Fault) (new : S) : Type 0 where
  pub looks : Looks N old new
  pub reads : HasReads (N.reads old) (N.reads new)
  pub why : IfErr result (λ fault. IsLookFault fault → N.causes old new fault)
  pub faults : IfErr result IsOwn

-- a marking went on: it is one still, of roots that have trees still, each block was read once, and the pages of these were asked at
-- most
pub record MarksOn {S : Type 0} (N : Ghosts S) (old_nodes new_nodes : S) (old new : Pass) : Type 0 where
  pub pass : IsPass (N.node old_nodes) old → IsPass (N.node new_nodes) new
  pub known : Knows (N.limit new_nodes) (N.node new_nodes) new
  pub reads : N.reads new_nodes + old.next ≡ N.reads old_nodes + new.next
  pub asked : HasAsked (N.page old_nodes) (N.node old_nodes) old new (N.asked old_nodes) (N.asked new_nodes)

-- a verification read all that it marked, at this cost
pub record HasReadAll {S : Type 0} (N : Ghosts S) (old_nodes new_nodes : S) (p : Pass) : Type 0 where
  pub finished : IsFinished p
  pub reads : N.reads new_nodes ≤ N.reads old_nodes + sum_by (λ b. once_reads (N.node old_nodes b)) p.order
  pub asked : N.asked new_nodes ≤ N.asked old_nodes + sum_by (λ b. once_pages (N.page old_nodes) (N.limit old_nodes) (N.node old_nodes b)) p.order
