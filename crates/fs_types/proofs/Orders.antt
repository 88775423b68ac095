-- Names and paths are in a total order, and only equal ones tie.
use Rattle.std.proofs.Common.{◌≡◌, true, refl}
use Rattle.std.specs.Cmp.{IsTotalOrder}
use Rattle.std.specs.Cmp.Lexicographic.{lists_total, lists_ties, texts_ties, nat_list_cmp_total, bytes_decides, pointwise_decides}
use Rattle.std.specs.FinMap.{IsAntisymmetric, nat_cmp-IsAntisymmetric, slice_cmp-IsAntisymmetric}
use Rattle.std.specs.Ordering.{eq_by_cmp}
use Rattle.fs_types.specs.Names.{Name, Path, same_name, same_path, name_cmp, path_cmp}

pub names_total : IsTotalOrder name_cmp
names_total = nat_list_cmp_total

pub names_exact : IsAntisymmetric name_cmp
names_exact = slice_cmp-IsAntisymmetric nat_cmp-IsAntisymmetric

pub paths_total : IsTotalOrder path_cmp
paths_total = lists_total nat_list_cmp_total

pub paths_exact : IsAntisymmetric path_cmp
paths_exact = slice_cmp-IsAntisymmetric names_exact

pub name_ties : (n m : Name) → same_name n m ≡ eq_by_cmp name_cmp n m
name_ties = texts_ties

pub path_ties : (p q : Path) → same_path p q ≡ eq_by_cmp path_cmp p q
path_ties = lists_ties name_cmp name_ties

pub same_name-is : (n m : Name) → same_name n m ≡ true → n ≡ m
same_name-is n m = (bytes_decides n m).0

pub same_name-own : (n : Name) → same_name n n ≡ true
same_name-own n = (bytes_decides n n).1 refl

pub same_path-is : (p q : Path) → same_path p q ≡ true → p ≡ q
same_path-is p q = (pointwise_decides bytes_decides p q).0

pub same_path-own : (p : Path) → same_path p p ≡ true
same_path-own p = (pointwise_decides bytes_decides p p).1 refl
