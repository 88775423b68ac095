use Rattle.std.proofs.Common.{◌^◌}
use Rattle.std.specs.Prelude.{nat_lt}
use Rattle.arrayvec.specs.ArrayVec.{array_vec_len}
use Rattle.record_format.specs.Payloads.{version_bytes}
use Rattle.record_format.proofs.Pushed.{IsPushed}
use Rattle.record_format.proofs.writing.push_versions.Given as goal

abbrev pub invariant-loop-version : goal.invariant-loop-version
invariant-loop-version l = IsPushed version_bytes (λ version. nat_lt version.root (2 ^ 32)) 12 l.versions l.version-index l.initial.out.items l.out.items (array_vec_len l.initial.out) (array_vec_len l.out)
