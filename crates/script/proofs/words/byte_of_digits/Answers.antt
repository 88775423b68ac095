use Rattle.std.proofs.Common.{sym, ◌∙◌}
use Rattle.script.proofs.TextLemmas.{byte_found, byte_missing}
use Rattle.script.proofs.words.byte_of_digits.Goals as goal

pub returns-in_err-ok : goal.returns-in_err-ok
returns-in_err-ok c = c.from_residual.ensures ∙ sym (byte_missing _ _ _ _ c.decode_to_slice.ensures.value c.in_err-ok.ensures.value)

pub returns : goal.returns
returns c = byte_found _ _ _ _ c.decode_to_slice.ensures.value c.in_ok-ok.ensures.value
