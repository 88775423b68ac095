-- What is told at the start, read piece by piece.
use Rattle.std.proofs.Common.{◌≡◌, ℕ, ◌^◌, ◌<◌, ◌≤◌, List, ◌++◌, length, take, None, Some, refl, sym, ap, ◌∙◌, append_assoc, arith}
use Rattle.std.specs.Prelude.{Option}
use Rattle.std.specs.Io.KnownBytes.{Consumes}
use Rattle.std.proofs.lemmas.List.{take_at}
use Rattle.byteorder.specs.Endian.{little_bytes}
use Rattle.fields.proofs.NumberLaws.{number_cancel}
use Rattle.remote_flash.specs.Starts.{start_text}

-- the length that is read is the one that was told
pub length_told : (a m : Option (List ℕ)) (n : ℕ) (image rest : List ℕ) → length image ≤ 67387412 → n < 2 ^ 64 → a ≡ Some (start_text image ++ rest)
    → Consumes a m (little_bytes 8 n) → (n ≡ length image) × (m ≡ Some (image ++ rest))
length_told None m n image rest short fits told read = absurd cc
length_told (Some xs) None n image rest short fits told read = absurd read
length_told (Some xs) (Some ys) n image rest short fits told read =
    let is : xs ≡ start_text image ++ rest = cc in
    let same : little_bytes 8 n ++ ys ≡ little_bytes 8 (length image) ++ (image ++ rest) =
    sym read ∙ is ∙ append_assoc (little_bytes 8 (length image)) image rest in
    let both = number_cancel 8 n (length image) ys (image ++ rest) fits (omega (arith, short)) same in
    (both.0, ap Some both.1)

-- the bytes that are read are those that were told
pub image_told : (m b : Option (List ℕ)) (image rest bytes : List ℕ) → m ≡ Some (image ++ rest) → Consumes m b bytes → length bytes ≡ length image → bytes ≡ image
image_told None b image rest bytes told read same = absurd cc
image_told (Some xs) None image rest bytes told read same = absurd read
image_told (Some xs) (Some ys) image rest bytes told read same =
    let is : xs ≡ image ++ rest = cc in
    sym (take_at bytes ys (length image) same) ∙ ap (take (length image)) (sym read ∙ is) ∙ take_at image rest (length image) refl
