use Rattle.std.proofs.Common.{◌≡◌, ◌+◌, ◌++◌, vec_capacity, vec_len}
use Rattle.std.specs.Vec.Iter.{into_iter_items, into_iter_len}
use Rattle.machine_state.proofs.histories.with_room.Given as goal

abbrev pub invariant-loop-version : goal.invariant-loop-version
invariant-loop-version g l = record {
  next : (goal.iterator-loop-version g).can_next l.version-iterator;
  ends : (goal.iterator-loop-version g).is_finite l.version-iterator;
  items : l.kept.items ++ into_iter_items l.version-iterator ≡ l.fn.versions.items;
  len : vec_len l.kept + into_iter_len l.version-iterator ≡ vec_len l.fn.versions;
  room : vec_capacity l.kept ≡ l.limit + 1;
}
