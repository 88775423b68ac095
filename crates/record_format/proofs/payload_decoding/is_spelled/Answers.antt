use Rattle.std.proofs.Common.{ℕ, List, ap, ◌∙◌}
use Rattle.std.specs.Str.{bytes_eq}
use Rattle.record_format.specs.Payloads.{is_record, spelling}
use Rattle.record_format.proofs.LawfulRecords.{same_record}
use Rattle.record_format.proofs.payload_decoding.is_spelled.Goals as goal

pub spell-spelled-requires : goal.spell-spelled-requires
spell-spelled-requires c = ap is_record (same_record c.args.read.now c.as_slice.result.now c.as_slice.ensures) ∙ c.requires

pub returns : goal.returns
returns c =
    c.eq.ensures
    ∙ ap (λ (x : List ℕ). bytes_eq x c.args.bytes.now)
    (c.as_slice-2.ensures.value ∙ c.spell-spelled.ensures.spelled ∙ ap (spelling c.args.one c.args.two) (same_record c.args.read.now c.as_slice.result.now c.as_slice.ensures))
