use Rattle.std.proofs.Common.{inr, refl, ap, ◌∙◌}
use Rattle.block_usage.specs.MapTexts.{map_text}
use Rattle.image_words.proofs.image_maps.text_of_image.Goals as goal

pub returns-in-Ok-map_text-clause-ok : goal.returns-in-Ok-map_text-clause-ok
returns-in-Ok-map_text-clause-ok g c = record {
  kinds = c.in-Ok.kinds.items;
  are = c.in-Ok.ensures.ok;
  spelled = c.in-Ok-map_text.ensures ∙ ap map_text c.as_slice.ensures.value;
}

pub returns-clause-err : goal.returns-clause-err
returns-clause-err g c = inr (inr refl)
