use Rattle.std.proofs.Common.{◌<◌, ap, ◌∙◌, arith}
use Rattle.percent_encoding.specs.Iter.{encoded_text}
use Rattle.std.proofs.lemmas.List.Elements.{All-from_get_or}
use Rattle.script.proofs.PrintedLemmas.{percent_encoded, text_ended}
use Rattle.script.proofs.digits.print_name.Goals as goal

pub returns : goal.returns
returns c =
    let small = All-from_get_or (λ b. b < 256) c.args.name.now 0 (λ i within. omega (arith, c.type_inv.name i)) in
    let text = ap encoded_text c.into_iter-piece-iterator.ensures.into_iter_gives ∙ c.percent_encode-piece-items.ensures.text ∙ percent_encoded c.args.name.now small in
    text_ended _ _ _ _ _ c.in-None.ensures.steps text c.loop-piece.invariant
