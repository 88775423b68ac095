use Rattle.std.proofs.Common.{◌^◌}
use Rattle.std.specs.Prelude.{◌&&◌, nat_lt}
use Rattle.arrayvec.specs.ArrayVec.{array_vec_len}
use Rattle.fs_types.specs.Names.{is_checkpoint_name}
use Rattle.record_format.specs.Payloads.{checkpoint_bytes}
use Rattle.record_format.proofs.Pushed.{IsPushed}
use Rattle.record_format.proofs.writing.push_checkpoints.Given as goal

abbrev pub invariant-loop-checkpoint : goal.invariant-loop-checkpoint
invariant-loop-checkpoint l = IsPushed checkpoint_bytes (λ checkpoint. is_checkpoint_name checkpoint.name && nat_lt checkpoint.root (2 ^ 32)) 36 l.checkpoints l.checkpoint-index l.initial.out.items l.out.items (array_vec_len l.initial.out) (array_vec_len l.out)
