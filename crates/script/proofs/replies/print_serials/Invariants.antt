use Rattle.std.proofs.Common.{◌≡◌, ◌++◌, take}
use Rattle.std.specs.List.{flat_map, enumerate_from}
use Rattle.script.specs.Replies.{serial_text}
use Rattle.script.proofs.replies.print_serials.Given as goal

abbrev pub invariant-loop-place : goal.invariant-loop-place
invariant-loop-place l = l.out.items ≡ l.fn.out.items ++ flat_map (serial_text l.cursor) (take l.place (enumerate_from 0 l.serials))
