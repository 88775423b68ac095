-- Paths of names in directories.
use Rattle.std.proofs.Common.{◌≡◌, true, ◌&&◌, [], ◌∷◌, ◌++◌, sym, ap, ◌∙◌}
use Rattle.std.proofs.lemmas.Bool.{and_parts, and_from}
use Rattle.std.proofs.lemmas.List.{same_from_push}
use Rattle.std.specs.Cmp.{both_ways}
use Rattle.fs_types.specs.Names.{Name, Path, same_name, same_path}
use Rattle.fs_types.proofs.Orders.{same_name-is, same_name-own, same_path-is, same_path-own}

-- a path that ends in a name is that of another name in a directory where the directory and the name are the same
pub same-in : (directory parent path : Path) (name last : Name) → path ≡ parent ++ last ∷ [] → same_path (directory ++ name ∷ []) path ≡ (same_path parent directory && same_name last name)
same-in directory parent path name last is = both_ways (same_path (directory ++ name ∷ []) path) (same_path parent directory && same_name last name) forth back
  where
    forth : same_path (directory ++ name ∷ []) path ≡ true → same_path parent directory && same_name last name ≡ true
    forth e =
        let parts = same_from_push directory parent name last (same_path-is (directory ++ name ∷ []) path e ∙ is) in
        and_from (same_path parent directory) (same_name last name) (ap (same_path parent) parts.0 ∙ same_path-own parent) (ap (same_name last) parts.1 ∙ same_name-own last)

    back : same_path parent directory && same_name last name ≡ true → same_path (directory ++ name ∷ []) path ≡ true
    back e =
        let parts = and_parts (same_path parent directory) (same_name last name) e in
        (λ i. same_path (sym (same_path-is parent directory parts.0) i ++ sym (same_name-is last name parts.1) i ∷ []) path) ∙ ap (same_path (parent ++ last ∷ [])) is ∙ same_path-own (parent ++ last ∷ [])
