use Rattle.std.proofs.Common.{◌≡◌, ◌≤◌, length, []}
use Rattle.fs_types.specs.declared.limits.TheConstants.{MAX_NAME_BYTES}
use Rattle.reclaim.specs.Looks.{last_name}
use Rattle.reclaim.proofs.edge.last_name.Given as goal

-- the last name so far, before the entries that are left
abbrev pub invariant-loop-entry : goal.invariant-loop-entry
invariant-loop-entry l = record {
  last : last_name l.last l.entry-iterator ≡ last_name [] l.fn.entries;
  few : length l.last ≤ MAX_NAME_BYTES;
}
