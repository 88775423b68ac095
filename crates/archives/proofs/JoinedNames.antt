-- The path of the names of two paths.
use Rattle.std.proofs.Common.{◌≡◌, ◌+◌, ◌≤◌, ◌++◌, [], length, true, sym, ap, subst, ◌∙◌, arith, length-append}
use Rattle.std.specs.Prelude.{nat_le}
use Rattle.std.specs.List.{list_all}
use Rattle.std.proofs.lemmas.Bool.{le-leb, and_parts, and_from}
use Rattle.std.proofs.lemmas.List.Folds.{list_all-append}
use Rattle.fs_types.specs.Names.{Path, is_name, is_path}
use Rattle.fs_types.specs.declared.limits.TheConstants.{MAX_NAMES}

is_joined : (p q : Path) → is_path p ≡ true → is_path q ≡ true → length p + length q ≤ MAX_NAMES → is_path (p ++ q) ≡ true
is_joined p q good also short =
    let first = and_parts (list_all is_name p) (nat_le (length p) MAX_NAMES) good in
    let second = and_parts (list_all is_name q) (nat_le (length q) MAX_NAMES) also in
    let names = list_all-append is_name p q ∙ and_from (list_all is_name p) (list_all is_name q) first.0 second.0 in
    and_from (list_all is_name (p ++ q)) (nat_le (length (p ++ q)) MAX_NAMES) names (le-leb (length (p ++ q)) MAX_NAMES (omega (arith, length-append p q)))

pub joined_names : (first second none some all lent other : Path) → none ≡ [] → some ≡ none ++ lent → lent ≡ first → all ≡ some ++ other → other ≡ second
    → is_path first ≡ true → is_path second ≡ true → length first + length second ≤ MAX_NAMES → is_path all ≡ true
joined_names first second none some all lent other empty begun same whole rest good_first good_second short =
    let is_some : some ≡ first = begun ∙ ap (λ (x : Path). x ++ lent) empty ∙ same in
    let is_all : all ≡ first ++ second = whole ∙ ap (λ (x : Path). x ++ other) is_some ∙ ap (λ (x : Path). first ++ x) rest in
    subst (λ (x : Path). is_path x ≡ true) (sym is_all) (is_joined first second good_first good_second short)
