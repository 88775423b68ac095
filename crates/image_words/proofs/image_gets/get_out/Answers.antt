use Rattle.std.proofs.Common.{inl, inr, refl}
use Rattle.image_words.proofs.image_gets.get_out.Goals as goal

pub returns-in-Err : goal.returns-in-Err
returns-in-Err g c = inr (c.in-Err.failure, refl, inl c.in-Err.ensures.err, refl)

pub returns-in-Err-path_of_word : goal.returns-in-Err-path_of_word
returns-in-Err-path_of_word g c = inr (c.in-Err-path_of_word.failure, refl, inr (inl c.in-Err-path_of_word.ensures.err), refl)

pub returns-in-Err-view_of_word : goal.returns-in-Err-view_of_word
returns-in-Err-view_of_word g c = inr (c.in-Err-view_of_word.failure, refl, inr (inr (inl c.in-Err-view_of_word.ensures.err)), refl)

pub returns : goal.returns
returns g c = inr (c.in-Err-load.failure, refl, inr (inr (inr c.in-Err-load.ensures.err)), refl)

pub returns-in-Ok-load : goal.returns-in-Ok-load
returns-in-Ok-load g c = inl (
  c.in-Ok-path_of_word.path,
  c.in-Ok-view_of_word.view,
  c.in-Ok-load.flash,
  c.in-Ok.ensures.ok,
  record { is_path = c.in-Ok-path_of_word.ensures.ok; is_view = c.in-Ok-view_of_word.ensures.ok; is_flash = c.in-Ok-load.ensures.ok },
  c.copy_to.ensures,
)
