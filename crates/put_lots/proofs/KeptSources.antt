-- What the sources so far account for.
use Rattle.std.proofs.Common.{◌≡◌, ◌<◌, ◌≤◌, ◌+◌, ◌++◌, ◌∷◌, [], ℕ, List, length, take, map, get_or, sym, ap, ◌∙◌, append-nil, take_all}
use Rattle.std.specs.List.{flat_map}
use Rattle.std.proofs.lemmas.List.{map_more}
use Rattle.std.proofs.lemmas.List.Concat.{flat_map-append}
use Rattle.host_interface.specs.Sources.{Found, source_found}
use Rattle.host_interface.specs.declared.source.Source.{Source}
use Rattle.put_lots.specs.Removals.{kept_found}
use Rattle.put_lots.specs.declared.kept.Kept.{Kept}

pub kept_more : (sources : List Source) (i : ℕ) (source : Source) (kept more : List Kept) → i < length sources → source ≡ get_or sources i source → kept ≡ flat_map kept_found (map source_found (take i sources))
    → more ≡ kept ++ kept_found (source_found source) → more ≡ flat_map kept_found (map source_found (take (i + 1) sources))
kept_more sources i source kept more below is so_far grown =
    let first : List Found = map source_found (take i sources) in
    let next : map source_found (take (i + 1) sources) ≡ first ++ source_found source ∷ [] =
    map_more source_found sources i source below ∙ ap (λ (x : Source). first ++ source_found x ∷ []) (sym is) in
    let parts : flat_map kept_found (first ++ source_found source ∷ []) ≡ flat_map kept_found first ++ kept_found (source_found source) =
    flat_map-append kept_found first (source_found source ∷ []) ∙ ap (λ (x : List Kept). flat_map kept_found first ++ x) (append-nil (kept_found (source_found source))) in
    grown ∙ ap (λ (x : List Kept). x ++ kept_found (source_found source)) so_far ∙ sym parts ∙ ap (flat_map kept_found) (sym next)

pub kept_all : (sources : List Source) (i : ℕ) (kept : List Kept) → length sources ≤ i → kept ≡ flat_map kept_found (map source_found (take i sources)) → kept ≡ flat_map kept_found (map source_found sources)
kept_all sources i kept over so_far = so_far ∙ ap (λ (x : List Source). flat_map kept_found (map source_found x)) (take_all i sources over)
