use Rattle.std.proofs.Common.{◌≡◌, true, take}
use Rattle.std.specs.List.{list_all}
use Rattle.archive_jobs.specs.Entries.{has_room_for}
use Rattle.archive_jobs.proofs.room.check_room.Given as goal

abbrev pub invariant-loop-item : goal.invariant-loop-item
invariant-loop-item l = list_all has_room_for (take l.item-index l.items) ≡ true
