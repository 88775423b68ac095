-- What is put, of all that was found.
use Rattle.std.proofs.Common.{◌≡◌, ◌⊎◌, ◌++◌, ℕ, Bool, true, false, Option, Result, Ok, List, [], ◌∷◌, IfSome, map, inl, inr, sym, ap, subst, ◌∙◌, append-nil, if◌then◌else◌}
use Rattle.std.specs.List.{flat_map}
use Rattle.std.proofs.lemmas.List.{map-append}
use Rattle.std.proofs.lemmas.List.Concat.{flat_map-append}
use Rattle.fs_types.specs.Names.{Path}
use Rattle.host_interface.specs.Files.{Held}
use Rattle.host_interface.specs.Sources.{Found, source_found}
use Rattle.host_interface.specs.declared.source.Source.{Source}
use Rattle.image_jobs.specs.declared.failure.Failure.{Failure}
use Rattle.put_lots.specs.declared.kept.Kept.{Kept}
use Rattle.put_jobs.specs.Batches.{IsBatch, kept_in}
use Rattle.put_jobs.specs.Mirrors.{wants_folder, kept_asked}
use Rattle.put_jobs.specs.Places.{AreOthers}
use Rattle.put_jobs.specs.Puts.{is_left_out, is_no_folder, left_in, FoundCause, PlaceCause}
use Rattle.image_jobs.specs.PathWords.{path_spelled}
use Rattle.put_jobs.specs.Putting.{PutEnds, SourcesEnd}
use Rattle.put_jobs.specs.declared.batch.Batch.{Batch}

-- a batch is put, which is what was asked for
pub asked_ends : (mirror skips : Bool) (name word : List ℕ) (IsClaimed : List ℕ → Type 0) (Reads : List ℕ → List ℕ → Type 0) (gathered : Option (List Found)) (base : Path) (batch : Batch) (held saved : Held) (result : Result (Unit {0}) Failure)
    → path_spelled word ≡ Ok base → (all : List Found) × IfSome gathered (λ found. all ≡ found) × IsBatch mirror skips base all batch → AreOthers name (map source_found batch.sources.items)
    → SourcesEnd name IsClaimed Reads batch.base (kept_in batch) (map source_found batch.sources.items) held saved result → PutEnds mirror skips name word IsClaimed Reads held saved gathered result
asked_ends mirror skips name word IsClaimed Reads gathered base batch held saved result spelled (all, known, is) others ends =
    let at_base = subst (λ (p : Path). SourcesEnd name IsClaimed Reads p (kept_in batch) (map source_found batch.sources.items) held saved result) is.base ends in
    let at_kept = subst (λ (kept : Option (List Kept)). SourcesEnd name IsClaimed Reads base kept (map source_found batch.sources.items) held saved result) is.kept at_base in
    let at_sources = subst (λ (found : List Found). SourcesEnd name IsClaimed Reads base (kept_asked mirror all) found held saved result) is.sources at_kept in
    inl (base, all, record { spelled = spelled; known = known }, is.folder, subst (AreOthers name) is.sources others, at_sources)

-- what was found is refused
pub batch_refused : (mirror skips : Bool) (image : List ℕ) (gathered : Option (List Found)) (base : Path) (all : List Found) (failure : Failure) → IfSome gathered (λ found. all ≡ found)
    → (failure ≡ Failure.Memory) ⊎ ((failure ≡ Failure.NoFolder) × (is_no_folder (wants_folder mirror skips) all ≡ true))
    → (failure ≡ Failure.Memory) ⊎ ((all : List Found) × IfSome gathered (λ found. all ≡ found) × FoundCause (wants_folder mirror skips) skips image base all failure)
batch_refused mirror skips image gathered base all failure known (inl memory) = inl memory
batch_refused mirror skips image gathered base all failure known (inr none) = inr (all, known, inl none)

-- one of what is put is not to be
pub batch_misplaced : (mirror skips : Bool) (image : List ℕ) (gathered : Option (List Found)) (base : Path) (all : List Found) (batch : Batch) (lent : List Source) (failure : Failure) → IfSome gathered (λ found. all ≡ found)
    → IsBatch mirror skips base all batch → lent ≡ batch.sources.items → PlaceCause image batch.base (map source_found lent) failure
    → (failure ≡ Failure.Memory) ⊎ ((all : List Found) × IfSome gathered (λ found. all ≡ found) × FoundCause (wants_folder mirror skips) skips image base all failure)
batch_misplaced mirror skips image gathered base all batch lent failure known is same cause =
    let at_base = subst (λ (p : Path). PlaceCause image p (map source_found lent) failure) is.base cause in
    inr (all, known, inr (subst (λ (found : List Found). PlaceCause image base found failure) (ap (map source_found) same ∙ is.sources) at_base))

-- one source more is left in, or out
pub left_more : (skips : Bool) (yielded : List Source) (source : Source) (left more : List Source) → map source_found left ≡ left_in skips (map source_found yielded)
    → map source_found more ≡ map source_found left ++ left_in skips (source_found source ∷ []) → map source_found more ≡ left_in skips (map source_found (yielded ++ source ∷ []))
left_more skips yielded source left more so_far grown =
    let one : Found → List Found = λ found. if is_left_out skips found then [] else found ∷ [] in
    let parts : left_in skips (map source_found yielded ++ source_found source ∷ []) ≡ left_in skips (map source_found yielded) ++ left_in skips (source_found source ∷ []) =
    flat_map-append one (map source_found yielded) (source_found source ∷ []) in
    grown ∙ ap (λ (x : List Found). x ++ left_in skips (source_found source ∷ [])) so_far ∙ sym parts ∙ ap (left_in skips) (sym (map-append source_found yielded (source ∷ [])))

-- it is left out
pub one_out : (skips : Bool) (left : List Source) (source : Source) → true ≡ is_left_out skips (source_found source)
    → map source_found left ≡ map source_found left ++ left_in skips (source_found source ∷ [])
one_out skips left source is =
    sym (append-nil (map source_found left)) ∙ ap (λ (b : Bool). map source_found left ++ ((if b then [] else source_found source ∷ []) ++ [])) is

-- it is left in
pub one_in : (skips : Bool) (left : List Source) (source : Source) → false ≡ is_left_out skips (source_found source)
    → map source_found (left ++ source ∷ []) ≡ map source_found left ++ left_in skips (source_found source ∷ [])
one_in skips left source is =
    map-append source_found left (source ∷ []) ∙ ap (λ (b : Bool). map source_found left ++ ((if b then [] else source_found source ∷ []) ++ [])) is
