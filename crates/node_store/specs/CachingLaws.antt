-- What reads and writes leave of what a cache holds.
use Rattle.std.specs.Prelude.{◌≡◌, ◌≢◌, ℕ, nat_eq, drop, List, [], Option, Some, None, Bool, true, is_some, Result, Ok, Err, OnOk, OnErr, IfErr, length, refl}
use Rattle.std.specs.Map.{lookup}
use Rattle.std.proofs.Common.{sym, ◌∙◌, ap, subst, inl, inr}
use Rattle.std.proofs.lemmas.Bool.{cases_eq}
use Rattle.fs_types.specs.declared.fault.Fault.{Fault}
use Rattle.fs_types.specs.declared.fault.Fault.TheVariants.{NoMemory}
use Rattle.flash_model.specs.Geometry.{IsGeometry}
use Rattle.flash_model.specs.Device.{Device, block_of}
use Rattle.flash_model.specs.Reading.{OnlyReads}
use Rattle.node_store.specs.NodeCache.{NodeCache, node_in, with_first, without, with_blocks, first_bytes, IsBounded}
use Rattle.node_store.specs.NodeCacheLaws.{first_here, first_shown, first_apart, taken_out, found_with, found_without}
use Rattle.node_store.specs.NodePages.{node_of}
use Rattle.node_store.specs.NodeLaws.{node_of-same}
use Rattle.node_store.specs.ReadingLaws.{OnlyReads_nodes}
use Rattle.node_store.specs.Caching.{IsTruthful, BringsOrWants, Fetches}

-- reads leave what is listed true
pub read_truthful : (old new : Device) (cache : NodeCache) → IsGeometry old.geometry → OnlyReads old new → IsTruthful old cache → IsTruthful new cache
read_truthful old new cache lawful reads true_before = record {
  each = λ b bytes is. ap (λ (node : ℕ → _). node b) (OnlyReads_nodes old new lawful reads) ∙ true_before.each b bytes is;
}

-- a block that goes first with its node
pub first_truthful : (d : Device) (cache : NodeCache) (b : ℕ) (bytes : List ℕ) → IsBounded cache → node_of d b ≡ Some bytes
    → IsTruthful d cache → IsTruthful d (with_first cache b bytes)
first_truthful d cache b bytes bounded node before = record {
  each = λ c x is. elim (cases_eq c b) [
    | inl same ↦
        let shown : Some bytes ≡ Some x = sym (first_here cache bounded b bytes) ∙ ap (node_in (with_first cache b bytes)) (sym same) ∙ is in
        ap (node_of d) same ∙ node ∙ shown
    | inr apart ↦ before.each c x (first_apart cache bounded b bytes c x apart is)
  ];
}

-- a block was written, whose entry is the first one, and the others are as they were
pub written_truthful : (old new : Device) (cache : NodeCache) (b : ℕ) (bytes : List ℕ) → IsGeometry old.geometry → new.geometry ≡ old.geometry
    → ((p : ℕ) → block_of old p ≢ b → new.pages p ≡ old.pages p) → IsBounded cache → node_of new b ≡ Some bytes
    → IsTruthful old cache → IsTruthful new (with_first cache b bytes)
written_truthful old new cache b bytes lawful geometry others bounded node before = record {
  each = λ c x is. elim (cases_eq c b) [
    | inl same ↦
        let shown : Some bytes ≡ Some x = sym (first_here cache bounded b bytes) ∙ ap (node_in (with_first cache b bytes)) (sym same) ∙ is in
        ap (node_of new) same ∙ node ∙ shown
    | inr apart ↦
        node_of-same old new c lawful geometry (λ p own. others p (λ here. apart (sym own ∙ here)))
        ∙ before.each c x (first_apart cache bounded b bytes c x apart is)
  ];
}

-- a block was tried, whose entry was put first and taken out again
pub tried_truthful : (old new : Device) (cache : NodeCache) (b : ℕ) (bytes : List ℕ) → IsGeometry old.geometry → new.geometry ≡ old.geometry
    → ((p : ℕ) → block_of old p ≢ b → new.pages p ≡ old.pages p) → IsBounded cache
    → IsTruthful old cache → IsTruthful new (record cache { entries = drop 1 (with_first cache b bytes).entries })
tried_truthful old new cache b bytes lawful geometry others bounded before = record {
  each = λ c x is.
      let was = taken_out cache bounded b bytes c x is in
      node_of-same old new c lawful geometry (λ p own. others p (λ here. was.0 (sym own ∙ here))) ∙ before.each c x was.1;
}

-- the entries of some blocks alone
pub some_truthful : (d : Device) (cache : NodeCache) (these : ℕ → Bool) → IsTruthful d cache → IsTruthful d (record cache { entries = with_blocks these cache.entries })
some_truthful d cache these before = record { each = λ b x is. before.each b x (found_with these b cache.entries x is).1 }

-- the other entries, without those of a block
pub without_truthful : (d : Device) (cache : NodeCache) (b : ℕ) → IsBounded cache → IsTruthful d cache → IsTruthful d (without cache b)
without_truthful d cache b bounded before = record { each = λ c x is. before.each c x (found_without cache b c x bounded is) }

-- an empty cache
pub empty_truthful : (d : Device) (cache : NodeCache) → cache.entries ≡ [] → IsTruthful d cache
empty_truthful d cache empty = record {
  each = λ b x is. let none : None ≡ Some x = sym (ap (lookup (nat_eq b)) empty) ∙ is in cc;
}

-- the node of an unlisted block was not read
pub unfetched : (old new : Device) (cache : NodeCache) (b : ℕ) (fault : Fault) → node_in cache b ≡ None
    → ((shown : List ℕ) → BringsOrWants old new (node_of old b) shown (Err fault)) → Fetches old cache b new cache (Err fault)
unfetched old new cache b fault unlisted refuses = record {
  brings = refuses (first_bytes cache.entries);
  listed = λ x is. let none : None ≡ Some x = sym unlisted ∙ is in cc;
  first = tt;
  refused = refl;
}

-- what listing a node first, or the want of memory for it, leaves of a cache
module _ (cache after : NodeCache) (b : ℕ) (shown : List ℕ) (bounded : IsBounded cache) where
  -- the node of an unlisted block was read, and is listed
  pub fetched : (old new : Device) (result : Result (Unit {0}) Fault) → node_in cache b ≡ None → node_of old b ≡ Some shown
      → OnOk result (after ≡ with_first cache b shown) → OnErr result (after ≡ cache) → IfErr result (λ fault. fault ≡ NoMemory)
      → Fetches old cache b new after result
  fetched old new (Ok u) unlisted node listed same memory =
      let bytes : first_bytes after.entries ≡ shown = ap (λ (c : NodeCache). first_bytes c.entries) listed ∙ first_shown cache bounded b shown in
      record {
        brings = node ∙ ap Some (sym bytes);
        listed = λ x is. let none : None ≡ Some x = sym unlisted ∙ is in cc;
        first = listed ∙ ap (with_first cache b) (sym bytes);
        refused = tt;
      }
  fetched old new (Err fault) unlisted node listed same memory = record {
    brings = rw memory tt;
    listed = λ x is. let none : None ≡ Some x = sym unlisted ∙ is in cc;
    first = tt;
    refused = same;
  }

  pub fetched_truthful : (d : Device) (result : Result (Unit {0}) Fault) → node_of d b ≡ Some shown → OnOk result (after ≡ with_first cache b shown)
      → OnErr result (after ≡ cache) → IsTruthful d cache → IsTruthful d after
  fetched_truthful d (Ok u) node listed same before = subst (IsTruthful d) (sym listed) (first_truthful d cache b shown bounded node before)
  fetched_truthful d (Err fault) node listed same before = subst (IsTruthful d) (sym same) before

  pub fetched_room : (result : Result (Unit {0}) Fault) → OnOk result (after ≡ with_first cache b shown) → OnErr result (after ≡ cache) → after.room ≡ cache.room
  fetched_room (Ok u) listed same = ap (λ (c : NodeCache). c.room) listed
  fetched_room (Err fault) listed same = ap (λ (c : NodeCache). c.room) same

  -- a bound by the length of the node that was read is one by that of the first node
  pub fetched_bytes : (bound : ℕ → Type 0) (result : Result (Unit {0}) Fault) → OnOk result (after ≡ with_first cache b shown) → bound (length shown)
      → OnOk result (bound (length (first_bytes after.entries)))
  fetched_bytes bound (Ok u) listed holds =
      subst bound (ap length (sym (ap (λ (c : NodeCache). first_bytes c.entries) listed ∙ first_shown cache bounded b shown))) holds
  fetched_bytes bound (Err fault) listed holds = tt

-- a listed block was moved to the front
module _ (d : Device) (cache after : NodeCache) (b : ℕ) (bounded : IsBounded cache) (before : IsTruthful d cache)
    (moved : (bytes : List ℕ) → node_in cache b ≡ Some bytes → after ≡ with_first cache b bytes) where
  pub record IsPromoted : Type 0 where
    pub fetches : Fetches d cache b d after (Ok tt)
    pub truthful : IsTruthful d after
    pub room : after.room ≡ cache.room

  promoted_with : (bytes : List ℕ) → node_in cache b ≡ Some bytes → IsPromoted
  promoted_with bytes is =
      let listed = moved bytes is in
      let node = before.each b bytes is in
      let shown : first_bytes after.entries ≡ bytes = ap (λ (c : NodeCache). first_bytes c.entries) listed ∙ first_shown cache bounded b bytes in
      record {
        fetches = record {
          brings = node ∙ ap Some (sym shown);
          listed = λ x has. (refl, refl);
          first = listed ∙ ap (with_first cache b) (sym shown);
          refused = tt;
        };
        truthful = subst (IsTruthful d) (sym listed) (first_truthful d cache b bytes bounded node before);
        room = ap (λ (c : NodeCache). c.room) listed;
      }

  promoted_by : (o : Option (List ℕ)) → node_in cache b ≡ o → is_some o ≡ true → IsPromoted
  promoted_by None is has = cc
  promoted_by (Some bytes) is has = promoted_with bytes is

  pub promoted : is_some (node_in cache b) ≡ true → IsPromoted
  promoted = promoted_by (node_in cache b) refl
