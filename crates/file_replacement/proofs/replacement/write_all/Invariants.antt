use Rattle.std.proofs.Common.{◌≡◌, ℕ, List, ◌++◌, length}
use Rattle.file_replacement.specs.Folder.{Leads}
use Rattle.file_replacement.specs.Outcomes.{HasWritten}
use Rattle.file_replacement.proofs.replacement.write_all.Given as goal

-- so many of the bytes are written, and the others are left
abbrev pub invariant-loop-rest : goal.invariant-loop-rest
invariant-loop-rest g l = (done : List ℕ) × (l.fn.bytes ≡ done ++ l.rest) × Leads (HasWritten done) (g.C.FolderCalls.folder l.fn.calls) (g.C.FolderCalls.folder l.calls)

abbrev pub decreases-loop-rest : goal.decreases-loop-rest
decreases-loop-rest g l = length l.rest
