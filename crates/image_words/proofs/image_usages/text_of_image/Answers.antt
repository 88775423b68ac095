use Rattle.std.proofs.Common.{inl, inr, refl}
use Rattle.image_words.proofs.image_usages.text_of_image.Goals as goal

pub returns-in-Err-clause-err : goal.returns-in-Err-clause-err
returns-in-Err-clause-err g c = inl c.in-Err.ensures.err

pub returns-in-Err-usages_of_image-clause-err : goal.returns-in-Err-usages_of_image-clause-err
returns-in-Err-usages_of_image-clause-err g c = inr (c.in-Ok.place, c.in-Ok.ensures.ok, c.in-Err-usages_of_image.ensures.err)

pub returns-in-Ok-usage_text-clause-ok : goal.returns-in-Ok-usage_text-clause-ok
returns-in-Ok-usage_text-clause-ok g c = record {
  place = c.in-Ok.place;
  is = c.in-Ok.ensures.ok;
  list = c.in-Ok-usages_of_image.list;
  are = c.in-Ok-usages_of_image.ensures.ok;
  told = c.in-Ok-usage_text.ensures;
}

pub returns-clause-err : goal.returns-clause-err
returns-clause-err g c = inl (inl refl)
