use Rattle.std.proofs.Common.{◌≡◌, vec_len}
use Rattle.nor_part.specs.Memory.{AreFullPages, AreBlankPages}
use Rattle.nor_part.proofs.memory_nor.blank_pages.Given as goal

abbrev pub invariant-loop : goal.invariant-loop
invariant-loop l = record { len : vec_len l.pages ≡ l.counter; whole : AreFullPages l.pages.items; blank : AreBlankPages l.pages.items }
