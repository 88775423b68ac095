use Rattle.std.proofs.Common.{◌≡◌, ◌≤◌, ◌==◌, take, count_by}
use Rattle.image_sizes.proofs.folder_sizes.slashes.Given as goal

abbrev pub invariant-loop-byte : goal.invariant-loop-byte
invariant-loop-byte l = (l.count ≡ count_by (λ byte. byte == 47) (take l.byte-index l.way)) × (l.count ≤ l.byte-index)
