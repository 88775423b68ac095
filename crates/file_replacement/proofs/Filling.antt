-- What stands in a new file, and what a power cut may leave of it.
use Rattle.std.proofs.Common.{◌≡◌, ℕ, ◌-◌, ◌≤◌, List, [], ◌∷◌, ◌++◌, take, drop, length, Option, None, Some, refl, sym, ◌∙◌, ap, append_assoc, take-append-drop, arith}
use Rattle.std.proofs.lemmas.Grind.{common_steps}
use Rattle.file_replacement.specs.Folder.{Folder, Left, Anything, grown, newest, Writes}
use Rattle.file_replacement.specs.Outcomes.{HasWritten}

-- what is left of bytes of which so many more are written
pub rest_more : (done rest : List ℕ) (count : ℕ) → count ≤ length rest → done ++ rest ≡ (done ++ take count rest) ++ take (length rest - count) (drop count rest)
rest_more done rest count within =
    let last : take (length rest - count) (drop count rest) ≡ drop count rest = grind (arith, common_steps) in
    sym (append_assoc done (take count rest) (take (length rest - count) (drop count rest))
    ∙ ap (λ (more : List ℕ). done ++ more) (ap (λ (more : List ℕ). take count rest ++ more) last ∙ take-append-drop count rest))

grown_twice : (one two : List ℕ) (o : Option (List ℕ)) → grown two (grown one o) ≡ grown (one ++ two) o
grown_twice one two None = refl
grown_twice one two (Some old) = ap (λ (all : List ℕ). Some all) (append_assoc old one two)

pub written_more : (done bytes : List ℕ) (count : ℕ) (f g h : Folder) → HasWritten done f g → Writes count bytes g h → HasWritten (done ++ take count bytes) f h
written_more done bytes count f g h first next =
    let bytes_are = grown_twice done (take count bytes) f.beside in
    let file_is : Anything ≡ h.file = ap (λ (d : Folder). d.file) (sym next.rest) in
    next.rest ∙ ap (λ (d : Folder). record d { beside = grown (take count bytes) d.beside; file = Anything; has_failed = h.has_failed }) first
    ∙ (λ i. record f { beside = bytes_are i; file = file_is i; has_failed = h.has_failed })

-- the newest of what may be left is what came last
pub newest_last : (more : List Left) (one : Left) → newest (more ++ one ∷ []) ≡ one ∷ []
newest_last [] one = refl
newest_last (a ∷ []) one = refl
newest_last (a ∷ b ∷ more) one = newest_last (b ∷ more) one
