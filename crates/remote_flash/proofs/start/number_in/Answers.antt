use Rattle.std.proofs.Common.{ap, arith, ◌∙◌}
use Rattle.std.proofs.lemmas.List.{take_all}
use Rattle.byteorder.specs.Endian.{little_bytes}
use Rattle.fields.proofs.NumberLaws.{spelled_front}
use Rattle.remote_flash.proofs.start.number_in.Goals as goal

pub returns-clause-spelled : goal.returns-clause-spelled
returns-clause-spelled c =
    let bytes = c.args.eight.now in
    ap (little_bytes 8) c.u64_at.ensures ∙ spelled_front 8 bytes (λ i. omega (arith, c.type_inv.eight i)) (omega (arith, c.requires)) ∙ take_all 8 bytes (omega (arith, c.requires))
