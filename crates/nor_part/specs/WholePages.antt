-- Each page with data has the bytes of a whole page.
use Rattle.std.specs.Prelude.{◌≡◌, ℕ, List, length, slice_index}
use Rattle.std.proofs.Common.{arith}
use Rattle.std.proofs.lemmas.Grind.{common_steps}
use Rattle.std.proofs.lemmas.Bool.Decides.{nat_tests}
use Rattle.flash_model.specs.Device.{bytes_of}
use Rattle.nor_part.specs.Layout.{page_from, page_in, data_page, mark_page}

page_from-whole : (held : List ℕ) (mark : ℕ) (bytes : List ℕ) → length held ≡ 256 → page_from held mark ≡ bytes_of bytes → length bytes ≡ 256
page_from-whole held mark bytes whole is = grind (arith, nat_tests, common_steps)

pub whole_part_pages_of : (held : ℕ → List ℕ) → ((n : ℕ) → length (held n) ≡ 256) → (p : ℕ) (bytes : List ℕ) → page_in held p ≡ bytes_of bytes → length bytes ≡ 256
whole_part_pages_of held whole p bytes is = page_from-whole (held (data_page p)) (slice_index (held (mark_page p)) 0) bytes (whole (data_page p)) is
