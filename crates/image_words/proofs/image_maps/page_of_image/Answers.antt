use Rattle.std.proofs.Common.{inr, refl, ap, ◌∙◌}
use Rattle.block_usage.specs.HtmlPages.{map_page}
use Rattle.image_words.proofs.image_maps.page_of_image.Goals as goal

pub returns-in-Ok-map_page-clause-ok : goal.returns-in-Ok-map_page-clause-ok
returns-in-Ok-map_page-clause-ok g c = record {
  kinds = c.in-Ok.kinds.items;
  are = c.in-Ok.ensures.ok;
  spelled = c.in-Ok-map_page.ensures ∙ ap map_page c.as_slice.ensures.value;
}

pub returns-clause-err : goal.returns-clause-err
returns-clause-err g c = inr (inr refl)
