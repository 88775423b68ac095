use Rattle.std.proofs.Common.{◌≡◌, ◌++◌, drop}
use Rattle.std.specs.Option.{option_copied}
use Rattle.history_machine.specs.Machine.{entries_of}
use Rattle.plain_machine.proofs.EntryLists.{left_of}
use Rattle.plain_machine.proofs.entries.entries_after.Given as goal

-- the entries so far, and those that are left of the names
abbrev pub invariant-loop-name : goal.invariant-loop-name
invariant-loop-name l = l.entries ++ left_of l.fn.tree l.fn.path (option_copied l.fn.from) l.left (drop l.name-index l.name-items) ≡ entries_of l.fn.tree l.fn.path (option_copied l.fn.from) l.fn.most
