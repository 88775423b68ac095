use Rattle.std.proofs.Common.{◌≡◌, drop}
use Rattle.record_format.specs.Payloads.{numbers_ascend}
use Rattle.record_format.proofs.lawful.numbers_ascend.Given as goal

abbrev pub invariant-loop-number : goal.invariant-loop-number
invariant-loop-number l = numbers_ascend l.least (drop l.number-index l.numbers) ≡ numbers_ascend 0 l.numbers
