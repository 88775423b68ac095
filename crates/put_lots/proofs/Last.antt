-- The last of some names and files.
use Rattle.std.proofs.Common.{◌≡◌, suc, ◌-◌, ◌<◌, Some, List, [], ◌∷◌, ◌++◌, length, get_or, refl, ap, ◌∙◌, arith}
use Rattle.fs_types.specs.Names.{Name, Path}
use Rattle.fs_types.specs.declared.named_file.NamedFile.{NamedFile}
use Rattle.put_lots.specs.Lots.{last_name, name_of_last}

pub last-at : (p : Path) (d : Name) → 0 < length p → last_name p ≡ get_or p (length p - 1) d
last-at [] d some = absurd (omega arith)
last-at (n ∷ []) d some = ap (λ i. get_or (n ∷ []) i d) (let e : 0 ≡ length (n ∷ []) - 1 = omega arith in e)
last-at (n ∷ m ∷ p) d some = last-at (m ∷ p) d (omega arith) ∙ ap (λ i. get_or (n ∷ m ∷ p) i d) (let e : suc (length (m ∷ p) - 1) ≡ length (n ∷ m ∷ p) - 1 = omega arith in e)

pub last-push : (files : List NamedFile) (file : NamedFile) → name_of_last (files ++ file ∷ []) ≡ Some file.name
last-push [] file = refl
last-push (first ∷ []) file = refl
last-push (first ∷ next ∷ files) file = last-push (next ∷ files) file
