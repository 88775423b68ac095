-- What the front of a block tells of its node.
use Rattle.std.specs.Prelude.{◌≡◌, ℕ, ◌+◌, ◌*◌, ◌<◌, ◌≤◌, ◌&&◌, nat_le, nat_lt, List, [], ◌++◌, option_and_then, length, take, Option, Some, None, Result, Ok, Err, OnOk, IsErrOf, is_some, true, refl}
use Rattle.std.proofs.Common.{sym, ◌∙◌, ap, subst, inl, inr, arith, add-zero}
use Rattle.std.proofs.lemmas.Bool.{cases_lt, true≢false, and_from, and_parts, leb-true, ltb-true, le-leb, lt-ltb, cond-true}
use Rattle.std.proofs.lemmas.List.{length-take-le, take-take, take_all, take-append-le}
use Rattle.std.proofs.lemmas.Grind.{div_ceil_times}
use Rattle.std.proofs.Math.Seq.{take-append_seam}
use Rattle.fs_types.specs.declared.fault.Fault.{Fault}
use Rattle.fs_types.specs.declared.fault.Fault.TheVariants.{Damaged}
use Rattle.fs_types.specs.declared.limits.TheConstants.{ANCHORS}
use Rattle.flash_model.specs.Geometry.{IsGeometry, block_bytes}
use Rattle.flash_model.specs.Device.{Device, bytes_of}
use Rattle.flash_model.specs.Reading.{OnlyReads, OnlyReads_itself}
use Rattle.node_store.specs.NodeCache.{NodeCache, node_in, with_first, first_bytes, IsBounded}
use Rattle.node_store.specs.NodeCacheLaws.{first_shown}
use Rattle.node_format.specs.Headers.{node_size}
use Rattle.node_store.specs.NodePages.{and_page, joined, bytes_at, node_of}
use Rattle.nodes.specs.PageCounts.{pages_for}
use Rattle.node_store.specs.NodeLaws.{AreWhole, has_node, lawful_has_room, joined-front, joined-length, pages_for-some, size_in-within, size_in-tells, first_joined, node_of-first}
use Rattle.nodes.specs.FrontLaws.{front_itself}
use Rattle.nodes.specs.SizeLaws.{if_some}
use Rattle.node_store.specs.Reading.{Brings}
use Rattle.node_store.specs.Caching.{IsTruthful}
use Rattle.node_store.specs.Fronts.{first_page, Fronts}
use Rattle.nodes.specs.Parts.{IsFront}

-- the beginning of a longer list, which is cut at a size
cut_front : (size : ℕ) (front rest : List ℕ) → size ≤ length (front ++ rest) → IsFront (length front) front (take size (front ++ rest))
cut_front size front rest fits =
    let len : length (take size (front ++ rest)) ≡ size = length-take-le size (front ++ rest) fits in
    record {
      alike = ap (λ n. take n front) len ∙ elim (cases_lt size (length front)) [
        | inl short ↦
            sym (take-append-le size front rest (omega arith))
            ∙ sym (take_all (length front) (take size (front ++ rest)) (omega arith))
        | inr long ↦
            take_all size front (omega arith) ∙ sym (take-append_seam front rest)
            ∙ sym (take-take (length front) size (front ++ rest) (omega arith))
      ];
      enough = omega arith;
    }

-- the first page is a page of the block's own
page_of : (d : Device) (b : ℕ) (front : List ℕ) → first_page d b ≡ Some front → d.pages (b * d.geometry.pages) ≡ bytes_of front
page_of d b front h =
    let inside = if_some (nat_le ANCHORS b && nat_lt b d.geometry.blocks) _ front h in
    ap d.pages (sym (add-zero (b * d.geometry.pages))) ∙ first_joined (d.pages (b * d.geometry.pages + 0)) front inside.1

-- only a data block has a first page
pub page_least : (d : Device) (b : ℕ) (front : List ℕ) → first_page d b ≡ Some front → ANCHORS ≤ b
page_least d b front h =
    let inside = if_some (nat_le ANCHORS b && nat_lt b d.geometry.blocks) _ front h in
    leb-true ANCHORS b (and_parts (nat_le ANCHORS b) (nat_lt b d.geometry.blocks) inside.0).0

pub page_below : (d : Device) (b : ℕ) (front : List ℕ) → first_page d b ≡ Some front → b < d.geometry.blocks
page_below d b front h =
    let inside = if_some (nat_le ANCHORS b && nat_lt b d.geometry.blocks) _ front h in
    ltb-true b d.geometry.blocks (and_parts (nat_le ANCHORS b) (nat_lt b d.geometry.blocks) inside.0).1

-- the first page is the one at place 0, as reads leave it
pub page_begins : (old mid : Device) (b first : ℕ) (front : List ℕ) → OnlyReads old mid → first ≡ b * old.geometry.pages + 0
    → first_page old b ≡ Some front → joined mid.pages first 1 ≡ Some front
page_begins old mid b first front reads at h =
    let inside = if_some (nat_le ANCHORS b && nat_lt b old.geometry.blocks) _ front h in
    let start : first + 0 ≡ b * old.geometry.pages + 0 = omega arith in
    ap (and_page (Some [])) (reads.pages (first + 0)) ∙ ap (λ n. and_page (Some []) (old.pages n)) start ∙ inside.1

-- it tells the size of the node
pub node_by_page : (d : Device) (b : ℕ) (head : List ℕ) → first_page d b ≡ Some head
    → node_of d b ≡ option_and_then (bytes_at d.geometry d.pages (b * d.geometry.pages + 0)) (node_size (block_bytes d.geometry) head)
node_by_page d b head page =
    node_of-first d b (b * d.geometry.pages + 0) head (page_least d b head page) (page_below d b head page) refl
    (page_begins d d b (b * d.geometry.pages + 0) head (OnlyReads_itself d) refl page)

-- the first page of a block is the front of its node
pub page_front : (d : Device) (b : ℕ) (front bytes : List ℕ) → IsGeometry d.geometry → AreWhole d.geometry.page d.pages
    → first_page d b ≡ Some front → node_of d b ≡ Some bytes → IsFront d.geometry.page front bytes
page_front d b front bytes lawful whole page node =
    let g = d.geometry in
    let room = lawful_has_room g lawful in
    let has = has_node d b bytes node in
    let begins = page_of d b front page in
    let within = size_in-within (block_bytes g) (d.pages (b * g.pages)) has.size has.tells in
    let times = div_ceil_times has.size g.page (omega arith) in
    let some : 0 < pages_for g.page has.size = pages_for-some g.page has.size (omega arith) (omega arith) in
    let long : length has.all ≡ pages_for g.page has.size * g.page =
    joined-length d.pages g.page (b * g.pages) (pages_for g.page has.size) has.all whole has.joins in
    let parts = joined-front d.pages (b * g.pages) (pages_for g.page has.size) front has.all begins some has.joins in
    let fits : has.size ≤ length (front ++ parts.rest) = omega (arith, times.0, ap length parts.is) in
    let cut : IsFront (length front) front (take has.size has.all) =
    subst (λ (l : List ℕ). IsFront (length front) front (take has.size l)) parts.is (cut_front has.size front parts.rest fits) in
    subst (λ (n : ℕ). IsFront n front bytes) (whole (b * g.pages) front begins) (subst (IsFront (length front) front) has.is cut)

-- without a first page there is no node
none_by : (d : Device) (b : ℕ) → first_page d b ≡ None → (o : Option (List ℕ)) → node_of d b ≡ o → o ≡ None
none_by d b none None is = refl
none_by d b none (Some bytes) is =
    let g = d.geometry in
    let has = has_node d b bytes is in
    let tells = size_in-tells (block_bytes g) (d.pages (b * g.pages)) has.size has.tells in
    let page : joined d.pages (b * g.pages) 1 ≡ Some tells.head =
    ap (and_page (Some [])) (ap d.pages (add-zero (b * g.pages)) ∙ tells.has) in
    let some : first_page d b ≡ Some tells.head =
    cond-true _ _ _ (and_from (nat_le ANCHORS b) (nat_lt b g.blocks) (le-leb ANCHORS b has.least) (lt-ltb b g.blocks has.below)) ∙ page in
    absurd (true≢false (ap is_some (sym some ∙ none)))

pub page_none : (d : Device) (b : ℕ) → first_page d b ≡ None → node_of d b ≡ None
page_none d b none = none_by d b none _ refl

module _ (old new : Device) (cache after : NodeCache) (b : ℕ) (front : List ℕ) (lawful : IsGeometry old.geometry)
    (whole : AreWhole old.geometry.page old.pages) (true_before : IsTruthful old cache) where
  begins_by : (bytes : List ℕ) → Fronts old cache b new after front (Ok tt) → node_of old b ≡ Some bytes
      → (o : Option (List ℕ)) → node_in cache b ≡ o → IsFront old.geometry.page front bytes
  begins_by bytes fronts node None is = page_front old b front bytes lawful whole (fronts.unlisted is).0 node
  begins_by bytes fronts node (Some x) is =
      let same : Some x ≡ Some bytes = sym (true_before.each b x is) ∙ node in
      let shown : bytes ≡ front = cc (same, (fronts.listed x is).1) in
      subst (λ (l : List ℕ). IsFront old.geometry.page l bytes) shown (front_itself old.geometry.page bytes)

  -- what was brought is the front of the node, where there is one
  pub front_begins : (result : Result (Unit {0}) Fault) → Fronts old cache b new after front result
      → OnOk result ((bytes : List ℕ) → node_of old b ≡ Some bytes → IsFront old.geometry.page front bytes)
  front_begins (Ok u) fronts = λ bytes node. begins_by bytes fronts node _ refl
  front_begins (Err fault) fronts = tt

-- a front that is refused was not listed
refused_brings : (old new : Device) (cache after : NodeCache) (b : ℕ) (front : List ℕ) (fault : Fault)
    → Fronts old cache b new after front (Err fault) → (o : Option (List ℕ)) → node_in cache b ≡ o → Brings old new (first_page old b) front (Err fault)
refused_brings old new cache after b front fault fronts None is = (fronts.unlisted is).0
refused_brings old new cache after b front fault fronts (Some x) is = cc ((fronts.listed x is).0)

pub front_refused : (old new : Device) (cache after : NodeCache) (b : ℕ) (front : List ℕ) (fault : Fault)
    → Fronts old cache b new after front (Err fault) → Brings old new (first_page old b) front (Err fault)
front_refused old new cache after b front fault fronts = refused_brings old new cache after b front fault fronts _ refl

-- damaged only where there is no node
pub front_damaged : (old new : Device) (cache after : NodeCache) (b : ℕ) (front : List ℕ) (result : Result (Unit {0}) Fault)
    → Fronts old cache b new after front result → IsErrOf result Damaged → node_of old b ≡ None
front_damaged old new cache after b front result fronts is =
    page_none old b (front_refused old new cache after b front Damaged (subst (Fronts old cache b new after front) is fronts))

-- a listed block was moved to the front
pub promoted_fronts : (d : Device) (cache after : NodeCache) (b : ℕ) → IsBounded cache
    → ((bytes : List ℕ) → node_in cache b ≡ Some bytes → after ≡ with_first cache b bytes) → is_some (node_in cache b) ≡ true
    → Fronts d cache b d after (first_bytes after.entries) (Ok tt)
promoted_fronts d cache after b bounded moved has = record {
  listed = λ bytes is.
      (refl, ap (λ (c : NodeCache). first_bytes c.entries) (moved bytes is) ∙ first_shown cache bounded b bytes, refl, moved bytes is);
  unlisted = λ none. absurd (true≢false (sym has ∙ ap is_some none));
}
