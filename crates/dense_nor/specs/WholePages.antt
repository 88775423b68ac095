-- Each page with data has the bytes of a whole page.
use Rattle.std.specs.Prelude.{◌≡◌, ℕ, List, length}
use Rattle.std.proofs.Common.{arith}
use Rattle.std.proofs.lemmas.Grind.{common_steps}
use Rattle.std.proofs.lemmas.Bool.Decides.{nat_tests}
use Rattle.flash_model.specs.Device.{bytes_of}
use Rattle.dense_nor.specs.Marks.{entry_of, page_from}
use Rattle.dense_nor.specs.Layout.{data_at, mark_at, place_of, page_in}

page_from-whole : (held entry bytes : List ℕ) → length held ≡ 256 → page_from held entry ≡ bytes_of bytes → length bytes ≡ 256
page_from-whole held entry bytes whole is = grind (arith, nat_tests, common_steps)

pub whole_pages_of : (n : ℕ) (held : ℕ → List ℕ) → ((k : ℕ) → length (held k) ≡ 256) → (p : ℕ) (bytes : List ℕ) → page_in n held p ≡ bytes_of bytes → length bytes ≡ 256
whole_pages_of n held whole p bytes is = page_from-whole (held (data_at n p)) (entry_of (held (mark_at n p)) (place_of n p)) bytes (whole (data_at n p)) is
