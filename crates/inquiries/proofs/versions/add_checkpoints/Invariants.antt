use Rattle.std.proofs.Common.{◌≡◌, ◌++◌, take}
use Rattle.std.specs.List.{flat_map, zip}
use Rattle.inquiries.specs.Versions.{checkpoint_row}
use Rattle.inquiries.proofs.versions.add_checkpoints.Given as goal

abbrev pub invariant-loop-place : goal.invariant-loop-place
invariant-loop-place l = l.out.items ≡ l.fn.out.items ++ flat_map checkpoint_row (take l.place (zip l.names (zip l.sizes l.space)))
