use Rattle.std.proofs.Common.{◌≡◌, ◌<◌, ℕ, slice_index}
use Rattle.driver_checks.specs.Patterns.{pattern_byte}
use Rattle.driver_checks.proofs.pattern.Pattern.is_in.Given as goal

abbrev pub invariant-loop-i : goal.invariant-loop-i
invariant-loop-i l = (k : ℕ) → k < l.i → slice_index l.bytes k ≡ pattern_byte l.self.page l.self.round k
