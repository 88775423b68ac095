use Rattle.std.proofs.Common.{◌≡◌, ◌++◌, take}
use Rattle.std.specs.List.{flat_map, enumerate_from, zip}
use Rattle.inquiries.specs.Versions.{row_at}
use Rattle.inquiries.proofs.versions.add_versions.Given as goal

abbrev pub invariant-loop-place : goal.invariant-loop-place
invariant-loop-place l = l.out.items ≡ l.fn.out.items ++ flat_map (row_at l.cursor) (take l.place (enumerate_from 0 (zip l.serials (zip l.sizes l.space))))
