-- What fits a flash after reads, writes and steps of memory alone.
use Rattle.std.specs.Prelude.{◌≡◌, ℕ, Option, Some, None, Result, Ok, Err, vec_len, refl}
use Rattle.std.proofs.Common.{sym, ◌∙◌, ap}
use Rattle.fs_types.specs.declared.fault.Fault.{Fault}
use Rattle.flash_model.specs.declared.geometry.Geometry.{Geometry}
use Rattle.flash_model.specs.Device.{Device}
use Rattle.node_store.specs.NodeCache.{NodeCache}
use Rattle.node_store.specs.Caching.{IsTruthful}
use Rattle.node_store.specs.Fitting.{Fits, StillFits, ListsNone, ListsNoneTried}
use Rattle.node_store.specs.declared.storage.Storage.{Storage}

pub still_itself : (d : Device) (s : Storage) → StillFits d s d s
still_itself d s = record { fits = λ fits. fits; same_room = refl }

pub still_on : (d : Device) (s : Storage) (e : Device) (t : Storage) (f : Device) (u : Storage) → StillFits d s e t → StillFits e t f u → StillFits d s f u
still_on d s e t f u first then = record { fits = λ fits. then.fits (first.fits fits); same_room = then.same_room ∙ first.same_room }

-- with a page as long, on a flash of the same sizes, where what is listed stays true
pub still_fits : (old : Device) (s : Storage) (new : Device) (t : Storage) → new.geometry ≡ old.geometry → vec_len t.page ≡ vec_len s.page
    → t.cache.room ≡ s.cache.room → (Fits old s → IsTruthful new t.cache) → StillFits old s new t
still_fits old s new t same page nodes listed = record {
  fits = λ fits. record { page_len = page ∙ fits.page_len ∙ ap (λ (g : Geometry). g.page) (sym same); truthful = listed fits };
  same_room = nodes;
}

-- with another cache of as much room, where what it lists is true
pub still_listed : (d : Device) (s : Storage) (cache : NodeCache) → cache.room ≡ s.cache.room → (Fits d s → IsTruthful d cache)
    → StillFits d s d (record s { cache = cache })
still_listed d s cache same listed =
    still_fits d s d (record s { cache = cache }) refl refl same listed

-- where no block that became used is listed, an attempt lists none
pub lists_none : (s t : Storage) (result : Result (Option ℕ) Fault) → ListsNoneTried s t → ListsNone s t result
lists_none s t (Ok (Some b)) none = tt
lists_none s t (Ok None) none = none
lists_none s t (Err fault) none = none
