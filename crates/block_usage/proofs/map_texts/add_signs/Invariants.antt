use Rattle.std.proofs.Common.{◌≡◌, ◌++◌, drop, length}
use Rattle.block_usage.specs.MapTexts.{each_from, sign_text, signs_text}
use Rattle.block_usage.proofs.map_texts.add_signs.Given as goal

abbrev pub invariant-loop-place : goal.invariant-loop-place
invariant-loop-place l = l.out.items ++ each_from (sign_text (length l.kinds)) l.place (drop l.place l.kinds) ≡ l.fn.out.items ++ signs_text l.kinds
