use Rattle.std.proofs.Common.{inl, inr, refl}
use Rattle.image_words.proofs.MapPages.{page_saved}
use Rattle.image_words.proofs.image_maps.save_map_page.Goals as goal

pub returns-in-Err-clause-ends : goal.returns-in-Err-clause-ends
returns-in-Err-clause-ends g c = inl (inl c.in-Err.ensures.err, refl)

pub returns-in-Ok-page_of_image-clause-ends : goal.returns-in-Ok-page_of_image-clause-ends
returns-in-Ok-page_of_image-clause-ends g c =
    page_saved c.args.name.now c.args.file.now (g.F.ImageFiles.held c.args.files.now) (g.F.ImageFiles.held c.save_bytes.new.files) c.in-Ok-page_of_image.page.items c.as_slice.result.now c.save_bytes.result
    c.in-Ok.ensures.ok c.in-Ok-page_of_image.ensures.ok c.as_slice.ensures.value c.save_bytes.ensures.ok c.save_bytes.ensures.err

pub returns-in-Err-page_of_image-clause-ends : goal.returns-in-Err-page_of_image-clause-ends
returns-in-Err-page_of_image-clause-ends g c = inl (inr c.in-Err-page_of_image.ensures.err, refl)
