-- The first words of lines.
use Rattle.std.specs.Prelude.{ℕ, List, [], ◌∷◌, codes}
use Rattle.script.specs.declared.verb.Verb.{Verb}
use Rattle.script.specs.declared.verb.Verb.TheVariants.{Open, Close, Pread, Pwrite, Ftruncate, Write, Rename, Unlink, Mkdir, Rmdir, Fsync, Sync, Stat, Ls, Read, Entries, Undo, Redo, Goto, Rollback, Forget, ForgetFree, Checkpoint, Rmcheckpoint, Begin, End, Abandon, Log, Df, Space, Reclaim, Clean, Prepare, Restart, PlanFault}

-- each first word, and what it asks for
abbrev pub verbs : List (List ℕ × Verb)
verbs =
    (codes "open", Open) ∷ (codes "close", Close) ∷ (codes "pread", Pread) ∷ (codes "pwrite", Pwrite) ∷ (codes "ftruncate", Ftruncate)
    ∷ (codes "write", Write) ∷ (codes "rename", Rename) ∷ (codes "unlink", Unlink) ∷ (codes "mkdir", Mkdir) ∷ (codes "rmdir", Rmdir) ∷ (codes "fsync", Fsync) ∷ (codes "sync", Sync)
    ∷ (codes "stat", Stat) ∷ (codes "ls", Ls) ∷ (codes "read", Read) ∷ (codes "entries", Entries) ∷ (codes "undo", Undo) ∷ (codes "redo", Redo) ∷ (codes "goto", Goto)
    ∷ (codes "rollback", Rollback) ∷ (codes "forget", Forget) ∷ (codes "forgetfree", ForgetFree) ∷ (codes "checkpoint", Checkpoint) ∷ (codes "rmcheckpoint", Rmcheckpoint)
    ∷ (codes "begin", Begin) ∷ (codes "end", End) ∷ (codes "abandon", Abandon)
    ∷ (codes "log", Log) ∷ (codes "df", Df) ∷ (codes "space", Space) ∷ (codes "reclaim", Reclaim) ∷ (codes "clean", Clean) ∷ (codes "prepare", Prepare) ∷ (codes "restart", Restart) ∷ (codes "fault", PlanFault) ∷ []
