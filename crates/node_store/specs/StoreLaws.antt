-- The laws of a store's states.
use Rattle.std.specs.Prelude.{◌≡◌, ◌≢◌, ℕ, ◌+◌, ◌*◌, ◌≤◌, true, List, Option, Err, refl}
use Rattle.std.specs.FinSet as set
use Rattle.std.proofs.Common.{sym, ◌∙◌, ap, subst, arith}
use Rattle.fs_types.specs.declared.fault.Fault.{Fault}
use Rattle.fs_types.specs.declared.fault.Fault.TheVariants.{FlashFull, ReadOnly, ReadFailed, PowerCut, NoMemory, Damaged}
use Rattle.flash_model.specs.declared.geometry.Geometry.{Geometry}
use Rattle.flash_model.specs.Geometry.{IsGeometry}
use Rattle.flash_model.specs.Device.{Device}
use Rattle.block_ring.specs.Ring.{Ring}
use Rattle.node_store.specs.declared.store.Store.{Store}
use Rattle.node_store.specs.Fitting.{StillFits}
use Rattle.node_store.specs.FittingLaws.{still_itself, still_on}
use Rattle.node_store.specs.NodePages.{node_of}
use Rattle.node_store.specs.NodeLaws.{node_of-same}
use Rattle.node_store.specs.Storage.{Storage, is_kept, Evolved, IsUntouched}
use Rattle.node_store.specs.StorageLaws.{Untouched_itself, Untouched_on, Untouched_evolved, Evolved_itself, Evolved_on}
use Rattle.nodes.specs.Faults.{IsReadFault}
use Rattle.node_store.specs.Reading.{Brings}
use Rattle.node_store.specs.Stores.{parts, IsSoundStore, Follows, Causes}

-- a kept block keeps its node
pub Evolved_node : (s t : Storage) (b : ℕ) → IsGeometry s.device.geometry → Evolved s t → is_kept s b ≡ true
    → node_of t.device b ≡ node_of s.device b
Evolved_node s t b lawful e kept =
    node_of-same s.device t.device b lawful e.geometry (λ p own. e.kept_pages p (ap (is_kept s) own ∙ kept))

-- one read more asks for the pages of one block more
pub one_more : (before after reads pages : ℕ) → after ≤ before + pages → after + reads * pages ≤ before + (reads + 1) * pages
one_more before after reads pages most = omega arith

-- which refusals a read of pages has
pub brings_fault : (old new : Device) (there : Option (List ℕ)) (shown : List ℕ) (fault : Fault) → Brings old new there shown (Err fault) → IsReadFault fault
brings_fault old new there shown ReadFailed b = refl
brings_fault old new there shown PowerCut b = refl
brings_fault old new there shown Damaged b = refl
brings_fault old new there shown _ b = absurd b

module _ {F : Type 0} (device : F → Device) where
  pub Follows_itself : (s : Store F) → Follows device s s
  Follows_itself s = record {
    same_flash = refl;
    same_storage = refl;
    fits = still_itself (device s.flash.now) s.storage.now;
    evolved = Evolved_itself (parts device s);
    more_writes = omega arith;
    paid = omega arith;
    untouched = λ same. Untouched_itself (parts device s);
    at_limit = λ full. Untouched_itself (parts device s);
    asks = λ same. omega arith;
  }

  pub Follows_on : (s t u : Store F) → Follows device s t → Follows device t u → Follows device s u
  Follows_on s t u f g = record {
    same_flash = g.same_flash ∙ f.same_flash;
    same_storage = g.same_storage ∙ f.same_storage;
    fits = still_on (device s.flash.now) s.storage.now (device t.flash.now) t.storage.now (device u.flash.now) u.storage.now f.fits g.fits;
    evolved = Evolved_on (parts device s) (parts device t) (parts device u) f.evolved g.evolved;
    more_writes = omega arith;
    paid = omega arith;
    untouched = λ same.
        Untouched_on (parts device s) (parts device t) (parts device u) (f.untouched (omega arith)) (g.untouched (omega arith));
    at_limit = λ full.
        let first = f.at_limit full in
        Untouched_on (parts device s) (parts device t) (parts device u) first (g.at_limit (ap (λ bads. set.len bads) first.bad ∙ full));
    asks = λ same.
        let first = f.asks (omega arith) in
        let pages = ap (λ (k : Geometry). k.pages) f.evolved.geometry in
        let second = subst (λ (p : ℕ). (device u.flash.now).operations + t.reads.n * p ≤ (device t.flash.now).operations + u.reads.n * p) pages (g.asks (omega arith)) in
        omega (arith, first, second);
  }

  -- one look, which reads a page at most and leaves which blocks are bad and which are used
  pub Follows_look : (s t : Store F) → IsGeometry (device s.flash.now).geometry → t.flash.ghost_name ≡ s.flash.ghost_name → t.storage.ghost_name ≡ s.storage.ghost_name
      → StillFits (device s.flash.now) s.storage.now (device t.flash.now) t.storage.now → IsUntouched (parts device s) (parts device t)
      → t.reads.n ≡ s.reads.n + 1 → t.writes.n ≡ s.writes.n → (device t.flash.now).operations ≤ (device s.flash.now).operations + 1 → Follows device s t
  Follows_look s t lawful same_flash same_storage fits untouched reads writes most =
      let takes : t.storage.now.ring.takes ≡ s.storage.now.ring.takes = ap (λ (r : Ring). r.takes) untouched.ring in
      let listed : set.len t.storage.now.bad ≡ set.len s.storage.now.bad = ap (λ bads. set.len bads) untouched.bad in
      let page = lawful.some_pages in
      record {
        same_flash = same_flash;
        same_storage = same_storage;
        fits = fits;
        evolved = Untouched_evolved (parts device s) (parts device t) untouched;
        more_writes = omega (arith, writes);
        paid = omega (arith, takes, listed, writes);
        untouched = λ same. untouched;
        at_limit = λ full. untouched;
        asks = λ same. subst (λ (n : ℕ). (device t.flash.now).operations + s.reads.n * (device s.flash.now).geometry.pages ≤ (device s.flash.now).operations + n * (device s.flash.now).geometry.pages) (sym reads)
            (one_more (device s.flash.now).operations (device t.flash.now).operations s.reads.n (device s.flash.now).geometry.pages (omega (arith, most, page)));
      }

  pub Causes_on : (s t u : Store F) (fault : Fault) → Follows device s t → Causes device t u fault → Causes device s u fault
  Causes_on s t u FlashFull f c =
      let taken = f.evolved.taken in
      let few = c.reason.few_free in
      record { reason = record { none_free = c.reason.none_free; few_free = omega arith; room = c.reason.room } }
  Causes_on s t u ReadFailed f c =
      let before = f.evolved.failed_reads in
      let after = c.reason in
      record { reason = omega arith }
  Causes_on s t u ReadOnly f c = record { reason = c.reason }
  Causes_on s t u PowerCut f c = record { reason = c.reason }
  Causes_on s t u NoMemory f c = record { reason = tt }
  Causes_on s t u _ f c = absurd c.reason

  -- why a read of pages is refused
  pub brings_causes : (s t : Store F) (there : Option (List ℕ)) (shown : List ℕ) (fault : Fault) → Brings (device s.flash.now) (device t.flash.now) there shown (Err fault)
      → fault ≢ Damaged → Causes device s t fault
  brings_causes s t there shown ReadFailed b apart = record { reason = b }
  brings_causes s t there shown PowerCut b apart = record { reason = b }
  brings_causes s t there shown Damaged b apart = absurd (apart refl)
  brings_causes s t there shown _ b apart = absurd b

  pub Sound_on : (s t : Store F) → Follows device s t → IsSoundStore device s → IsSoundStore device t
  Sound_on s t f sound =
      let same = f.evolved.geometry in
      record {
        lawful = subst IsGeometry (sym same) sound.lawful;
        ring_blocks = f.evolved.blocks ∙ sound.ring_blocks ∙ ap (λ (g : Geometry). g.blocks) (sym same);
        fits = f.fits.fits sound.fits;
      }
