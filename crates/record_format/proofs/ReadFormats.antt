-- A record of any format that is read may be written.
use Rattle.std.proofs.Common.{◌≡◌, Bool, true, length, sym, ap, ◌∙◌}
use Rattle.std.proofs.lemmas.Bool.{le-leb}
use Rattle.std.specs.Prelude.{◌&&◌, nat_lt, nat_le}
use Rattle.fs_types.specs.declared.limits.TheConstants.{ANCHORS, MAX_BAD_BLOCKS, MAX_CHECKPOINTS}
use Rattle.record_format.specs.declared.record.Record.{Record}
use Rattle.record_format.specs.Payloads.{has_limit, has_versions, has_checkpoints, has_bad_blocks, written}
use Rattle.record_format.specs.FormatLaw.{ReadIsWritten}
use Rattle.record_format.proofs.LawfulRecords.{and_true, counts_of}

-- whether a record is lawful, where that of its limit is known
abbrev with_limit : Bool → Record → Bool
with_limit limit r =
    (limit && nat_le (length r.versions) r.limit && nat_lt r.cursor (length r.versions)
    && nat_le (length r.checkpoints) MAX_CHECKPOINTS && nat_le (length r.bad) MAX_BAD_BLOCKS && nat_le ANCHORS r.last && nat_lt r.last r.geometry.blocks)
    && (has_versions r && (has_checkpoints r && has_bad_blocks r))

pub read_is_written : ReadIsWritten
read_is_written r lawful =
    let counts = counts_of r lawful in
    let new : has_limit (written r r.bad) ≡ true = and_true _ _ (le-leb _ _ counts.limit_least) (le-leb _ _ counts.limit_most) in
    ap (λ (limit : Bool). with_limit limit r) (new ∙ sym counts.limit) ∙ lawful
