use Rattle.std.proofs.Common.{◌≡◌, ℕ, Some, length}
use Rattle.std.specs.Prelude.{slice_get}
use Rattle.flash_model.specs.Device.{Device}
use Rattle.flash_model.specs.Reading.{OnlyReads}
use Rattle.history_machine.specs.History.{Past}
use Rattle.block_usage.specs.Kinds.{IsKind}
use Rattle.block_usage.specs.Maps.{Knows}
use Rattle.block_usage.specs.declared.block_kind.BlockKind.{BlockKind}
use Rattle.block_usage.proofs.maps.list_kinds.Given as goal

-- so many blocks were told, each by its kind
abbrev pub invariant-loop-block : goal.invariant-loop-block
invariant-loop-block g l = record {
  only_reads : OnlyReads (g.F.Flash.device l.initial.flash) (g.F.Flash.device l.flash);
  so_many : length l.kinds.items ≡ l.block;
  each : (d : Device) (h : Past ℕ) → OnlyReads d (g.F.Flash.device l.initial.flash) → Knows d h l.facts → (b : ℕ) (kind : BlockKind) → slice_get l.kinds.items b ≡ Some kind → IsKind d h l.bad b kind;
}
