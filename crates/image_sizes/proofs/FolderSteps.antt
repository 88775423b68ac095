-- One source more of those that stand at names of the host.
use Rattle.std.proofs.Common.{◌≡◌, ◌<◌, ◌+◌, ◌*◌, ℕ, zero, suc, List, [], ◌∷◌, ◌++◌, take, map, max, min, length, get_or, refl, sym, ap, ◌∙◌, arith}
use Rattle.std.proofs.lemmas.List.{map_more}
use Rattle.std.proofs.lemmas.List.Recursion.{max_push}
use Rattle.std.proofs.lemmas.List.Sums.{sum_by_push}
use Rattle.std.specs.List.{sum_by}
use Rattle.host_interface.specs.Sources.{Found, source_found}
use Rattle.host_interface.specs.declared.source.Source.{Source}
use Rattle.image_sizes.specs.FolderSizes.{greatest}

found_more : (sources : List Source) (i : ℕ) (source : Source) → i < length sources → source ≡ get_or sources i source
    → map source_found (take (i + 1) sources) ≡ map source_found (take i sources) ++ source_found source ∷ []
found_more sources i source below is = map_more source_found sources i source below ∙ ap (λ (x : Source). map source_found (take i sources) ++ source_found x ∷ []) (sym is)

pub greatest_more : (f : Found → ℕ) (sources : List Source) (i : ℕ) (source : Source) → i < length sources → source ≡ get_or sources i source
    → greatest f (map source_found (take (i + 1) sources)) ≡ max (greatest f (map source_found (take i sources))) (f (source_found source))
greatest_more f sources i source below is =
    ap (greatest f) (found_more sources i source below is)
    ∙ max_push (greatest f) f refl (λ (x : Found) (xs : List Found). refl) (map source_found (take i sources)) (source_found source)

pub sum_more : (f : Found → ℕ) (sources : List Source) (i : ℕ) (source : Source) → i < length sources → source ≡ get_or sources i source
    → sum_by f (map source_found (take (i + 1) sources)) ≡ sum_by f (map source_found (take i sources)) + f (source_found source)
sum_more f sources i source below is =
    ap (sum_by f) (found_more sources i source below is) ∙ sum_by_push f (map source_found (take i sources)) (source_found source)

-- a sum that is told up to a greatest number, and one term more
pub capped_more : (told sum next term after top : ℕ) → told ≡ min sum top → next ≡ min (told + term) top → after ≡ sum + term → next ≡ min after top
capped_more told sum next term after top h k l = omega arith

-- a product of what is told up to a greatest number
pub capped_times : (told n top times : ℕ) → told ≡ min n top → min (told * times) top ≡ min (n * times) top
capped_times told n top zero is = omega arith
capped_times told n top (suc k) is =
    let rest : min (told * k) top ≡ min (n * k) top = capped_times told n top k is in
    let one : told * suc k ≡ told * k + told = omega arith in
    let other : n * suc k ≡ n * k + n = omega arith in
    omega (arith, rest, one, other, is)
