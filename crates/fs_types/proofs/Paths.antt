-- Paths that are put together.
use Rattle.std.proofs.Common.{◌≡◌, ◌<◌, true, [], ◌∷◌, ◌++◌, length, ◌∙◌, arith, ◌&&◌, ap}
use Rattle.std.proofs.lemmas.Bool.{le-leb, and_parts, and_from}
use Rattle.std.proofs.lemmas.List.{length-append}
use Rattle.std.proofs.lemmas.List.Folds.{list_all-append}
use Rattle.std.specs.Prelude.{nat_le}
use Rattle.std.specs.List.{list_all}
use Rattle.fs_types.specs.Names.{Name, Path, is_name, is_path}

-- one name more, where there is room for it
pub path-push : (p : Path) (n : Name) → is_path p ≡ true → is_name n ≡ true → length p < 16 → is_path (p ++ n ∷ []) ≡ true
path-push p n path name room =
    let one : list_all is_name (n ∷ []) ≡ true = ap (λ b. b && true) name in
    let names = list_all-append is_name p (n ∷ []) ∙ and_from (list_all is_name p) (list_all is_name (n ∷ [])) (and_parts (list_all is_name p) (nat_le (length p) 16) path).0 one in
    and_from (list_all is_name (p ++ n ∷ [])) (nat_le (length (p ++ n ∷ [])) 16) names (le-leb (length (p ++ n ∷ [])) 16 (omega (arith, length-append p (n ∷ []))))
