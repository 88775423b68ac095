-- What follows of the first page of a node: the rest of it, its header, and how many pages it asks.
use Rattle.std.proofs.Common.{◌≡◌, ◌≢◌, ℕ, suc, ◌+◌, ◌-◌, ◌*◌, ◌<◌, ◌≤◌, Bool, true, false, List, [], ◌++◌, length, take, Option, Some, None, Result, Ok, Err, option_map, option_and_then, refl, sym, ap, subst, ◌∙◌, arith}
use Rattle.std.specs.Prelude.{◌==◌, ◌&&◌, nat_le, nat_lt, if◌then◌else◌}
use Rattle.std.proofs.lemmas.Bool.{eqb-true}
use Rattle.std.proofs.lemmas.List.{take-take}
use Rattle.std.specs.FinSet as set
use Rattle.block_ring.specs.Ring.{Ring}
use Rattle.fs_types.specs.declared.fault.Fault.{Fault}
use Rattle.fs_types.specs.declared.fault.Fault.TheVariants.{ReadFailed, PowerCut, NoMemory, Damaged}
use Rattle.fs_types.specs.declared.limits.TheConstants.{ANCHORS}
use Rattle.flash_model.specs.declared.geometry.Geometry.{Geometry}
use Rattle.flash_model.specs.Geometry.{IsGeometry, block_bytes}
use Rattle.flash_model.specs.Device.{Device, Page, bytes_of}
use Rattle.flash_model.specs.Reading.{OnlyReads, OnlyReads_itself}
use Rattle.node_format.specs.Headers.{field, body_magic, body_header, body_size, directory_magic, chain_magic, directory_size, node_size, IsNode}
use Rattle.node_format.proofs.HeaderLaws.{field-take}
use Rattle.node_store.specs.Caching.{BringsOrWants}
use Rattle.nodes.specs.PageCounts.{most_pages, pages_for}
use Rattle.nodes.specs.Parts.{HasBodyHeader, IsFront}
use Rattle.node_store.specs.ExaminingLaws.{block_pages}
use Rattle.nodes.specs.Faults.{IsReadFault}
use Rattle.node_store.specs.Fronts.{first_page}
use Rattle.node_store.specs.FrontLaws.{page_front, page_least, page_below, page_begins}
use Rattle.nodes.specs.FrontLaws.{front_size}
use Rattle.node_store.specs.NodeLaws.{AreWhole, lawful_has_room, pages_for-some, pages_for-most, node_of-whole, first_joined}
use Rattle.nodes.specs.SizeLaws.{size_within, if_some}
use Rattle.node_store.specs.NodePages.{and_page, joined, bytes_at, node_of}
use Rattle.node_store.specs.ReadingLaws.{OnlyReads_nodes, node_after_first, some_rest}
use Rattle.node_store.specs.Fitting.{StillFits}
use Rattle.node_store.specs.Storage.{IsUntouched}
use Rattle.node_store.specs.StorageLaws.{Untouched_evolved}
use Rattle.node_store.specs.StoreLaws.{one_more}
use Rattle.node_store.specs.Stores.{parts, Follows, Causes}
use Rattle.node_store.specs.declared.store.Store.{Store}
use Rattle.nodes.proofs.PageCountLaws.{fewer_pages}

-- reads leave the first page of a block
pub first_stays : (old new : Device) (b : ℕ) → OnlyReads old new → first_page new b ≡ first_page old b
first_stays old new b reads =
    ap (λ (g : Geometry). if nat_le ANCHORS b && nat_lt b g.blocks then joined new.pages (b * g.pages) 1 else None) reads.geometry
    ∙ ap (λ (pages : ℕ → Page). if nat_le ANCHORS b && nat_lt b old.geometry.blocks then joined pages (b * old.geometry.pages) 1 else None) (λ i p. reads.pages p i)

-- a refusal after reads is a refusal from before them
pub wants_from : (old mid new : Device) (there before : Option (List ℕ)) (shown : List ℕ) (fault : Fault) → OnlyReads old mid → before ≡ there
    → BringsOrWants mid new there shown (Err fault) → BringsOrWants old new before shown (Err fault)
wants_from old mid new there before shown ReadFailed reads same b = let first = reads.failed_reads in omega arith
wants_from old mid new there before shown PowerCut reads same b = b
wants_from old mid new there before shown NoMemory reads same b = tt
wants_from old mid new there before shown Damaged reads same b = same ∙ b
wants_from old mid new there before shown _ reads same b = absurd b

-- the node begins with its first page, which tells its size
pub node_here : (d : Device) (b first size : ℕ) (head : List ℕ) → first ≡ b * d.geometry.pages + 0 → first_page d b ≡ Some head
    → node_size (block_bytes d.geometry) head ≡ Some size → node_of d b ≡ bytes_at d.geometry d.pages first size
node_here d b first size head at page tells =
    node_after_first d d b first size head (OnlyReads_itself d) (page_least d b head page) (page_below d b head page) at
    (page_begins d d b first head (OnlyReads_itself d) at page) tells

-- one page more
pub joined_next : (old mid : Device) (first place : ℕ) (so_far shown : List ℕ) → OnlyReads old mid → joined old.pages first place ≡ Some so_far
    → and_page (Some []) (mid.pages (first + place)) ≡ Some shown → joined old.pages first (place + 1) ≡ Some (so_far ++ shown)
joined_next old mid first place so_far shown reads before next =
    let is : place + 1 ≡ suc place = omega arith in
    let page : old.pages (first + place) ≡ bytes_of shown =
    first_joined (old.pages (first + place)) shown (ap (and_page (Some [])) (sym (reads.pages (first + place))) ∙ next) in
    ap (joined old.pages first) is ∙ ap (λ o. and_page o (old.pages (first + place))) before ∙ ap (and_page (Some so_far)) page

-- the node of a body has its header, and some bytes more
body_least : (block used size : ℕ) → body_size block used ≡ Some size → 80 ≤ size
body_least block used size is =
    let inner = if_some (nat_le (body_header + used) block) _ size (if_some (nat_lt 0 used) _ size is).1 in
    let same : body_header + used ≡ size = cc in
    omega arith

pub body_long : (block : ℕ) (bytes : List ℕ) → IsNode block bytes → (field bytes 0 == body_magic) ≡ true → 80 ≤ length bytes
body_long block bytes node body = on (field bytes 0 == body_magic) body node
  where
    on : (t : Bool) → t ≡ true
        → (if t then body_size block (field bytes 8)
        else if field bytes 0 == directory_magic then directory_size block (field bytes 4) (field bytes 8)
        else if field bytes 0 == chain_magic then directory_size block (field bytes 4) (field bytes 8)
        else None) ≡ Some (length bytes)
        → 80 ≤ length bytes
    on true is size = body_least block (field bytes 8) (length bytes) size
    on false is size = absurd cc

module _ (d : Device) (b : ℕ) (head bytes : List ℕ) (lawful : IsGeometry d.geometry) (whole : AreWhole d.geometry.page d.pages)
    (page : first_page d b ≡ Some head) (node : node_of d b ≡ Some bytes) where
  is_front : IsFront d.geometry.page head bytes
  is_front = page_front d b head bytes lawful whole page node

  is_node : IsNode (block_bytes d.geometry) bytes
  is_node = node_of-whole d b bytes lawful whole node

  -- it has the size that its first page tells
  pub sized_node : (size : ℕ) → node_size (block_bytes d.geometry) head ≡ Some size → length bytes ≡ size
  sized_node size tells =
      let room = lawful_has_room d.geometry lawful in
      let within = size_within (block_bytes d.geometry) (length bytes) bytes is_node in
      let both : Some size ≡ Some (length bytes) =
      sym tells ∙ front_size d.geometry.page head bytes is_front (block_bytes d.geometry) (omega arith) (omega arith) ∙ is_node in
      cc

  -- the header of a body
  pub header_of : (field head 0 == body_magic) ≡ true → HasBodyHeader (node_of d b) (take body_header head)
  header_of body =
      let room = lawful_has_room d.geometry lawful in
      let front = is_front in
      let enough = front.enough in
      let within = size_within (block_bytes d.geometry) (length bytes) bytes is_node in
      let magic : field bytes 0 ≡ field head 0 =
      sym (field-take bytes (length head) 0 (omega arith)) ∙ ap (λ (l : List ℕ). field l 0) (sym front.alike) ∙ field-take head (length bytes) 0 (omega arith) in
      let long = body_long (block_bytes d.geometry) bytes is_node (ap (λ n. n == body_magic) magic ∙ body) in
      record {
        bytes = bytes;
        is = node;
        body = magic ∙ eqb-true (field head 0) body_magic body;
        begins =
            sym (take-take body_header (length bytes) head (omega arith)) ∙ ap (take body_header) front.alike
            ∙ take-take body_header (length head) bytes (omega arith);
      }

-- how many pages are asked for a node
module _ (d : Device) (b : ℕ) (lawful : IsGeometry d.geometry) (whole : AreWhole d.geometry.page d.pages) where
  first_by : (before after : ℕ) → after ≤ before + 1 → (o : Option (List ℕ)) → node_of d b ≡ o → after ≤ before + most_pages d.geometry.page (block_bytes d.geometry) o
  first_by before after first None is =
      let room = lawful_has_room d.geometry lawful in
      let some = pages_for-some d.geometry.page (block_bytes d.geometry) (omega arith) (omega arith) in
      omega arith
  first_by before after first (Some bytes) is =
      let room = lawful_has_room d.geometry lawful in
      let within = size_within (block_bytes d.geometry) (length bytes) bytes (node_of-whole d b bytes lawful whole is) in
      let some = pages_for-some d.geometry.page (length bytes) (omega arith) (omega arith) in
      omega arith

  -- the first one alone was
  pub first_asked : (before after : ℕ) → after ≤ before + 1 → after ≤ before + most_pages d.geometry.page (block_bytes d.geometry) (node_of d b)
  first_asked before after first = first_by before after first (node_of d b) refl

  rest_by : (head : List ℕ) (size before mid after : ℕ) → first_page d b ≡ Some head → node_size (block_bytes d.geometry) head ≡ Some size
      → mid ≤ before + 1 → after ≤ mid + (pages_for d.geometry.page size - 1)
      → (o : Option (List ℕ)) → node_of d b ≡ o → after ≤ before + most_pages d.geometry.page (block_bytes d.geometry) o
  rest_by head size before mid after page tells first rest None is =
      let room = lawful_has_room d.geometry lawful in
      let within = size_within (block_bytes d.geometry) size head tells in
      let some = some_rest d.geometry d.geometry size head lawful refl tells in
      let fewer = fewer_pages d.geometry.page size (block_bytes d.geometry) (omega arith) within.most in
      omega arith
  rest_by head size before mid after page tells first rest (Some bytes) is =
      let some = some_rest d.geometry d.geometry size head lawful refl tells in
      subst (λ (n : ℕ). after ≤ before + pages_for d.geometry.page n) (sym (sized_node d b head bytes lawful whole page is size tells)) (omega arith)

  -- the first one and the rest were
  pub rest_asked : (head : List ℕ) (size before mid after : ℕ) → first_page d b ≡ Some head → node_size (block_bytes d.geometry) head ≡ Some size
      → mid ≤ before + 1 → after ≤ mid + (pages_for d.geometry.page size - 1)
      → after ≤ before + most_pages d.geometry.page (block_bytes d.geometry) (node_of d b)
  rest_asked head size before mid after page tells first rest = rest_by head size before mid after page tells first rest (node_of d b) refl

-- reads between change nothing of it
module _ (old mid new : Device) (b : ℕ) (lawful : IsGeometry old.geometry) (reads : OnlyReads old mid) where
  pub node_stays : node_of mid b ≡ node_of old b
  node_stays = ap (λ (f : ℕ → Option (List ℕ)). f b) (OnlyReads_nodes old mid lawful reads)

  pub wants_on : (shown : List ℕ) (fault : Fault) → BringsOrWants mid new (node_of mid b) shown (Err fault) → BringsOrWants old new (node_of old b) shown (Err fault)
  wants_on shown fault wants = wants_from old mid new (node_of mid b) (node_of old b) shown fault reads (sym node_stays) wants

  module _ (size : ℕ) (head : List ℕ) (begins : first_page mid b ≡ Some head) (tells : node_size (block_bytes mid.geometry) head ≡ Some size) where
    tells_old : node_size (block_bytes old.geometry) head ≡ Some size
    tells_old = ap (λ (g : Geometry). node_size (block_bytes g) head) (sym reads.geometry) ∙ tells

    begins_old : first_page old b ≡ Some head
    begins_old = sym (first_stays old mid b reads) ∙ begins

    pub asked_on : AreWhole old.geometry.page old.pages → mid.operations ≤ old.operations + 1 → new.operations ≤ mid.operations + (pages_for mid.geometry.page size - 1)
        → new.operations ≤ old.operations + most_pages old.geometry.page (block_bytes old.geometry) (node_of old b)
    asked_on whole first rest =
        rest_asked old b lawful whole head size old.operations mid.operations new.operations begins_old tells_old first
        (subst (λ (g : Geometry). new.operations ≤ mid.operations + (pages_for g.page size - 1)) reads.geometry rest)

    pub header_on : (bytes : List ℕ) → AreWhole old.geometry.page old.pages → node_of mid b ≡ Some bytes → (field head 0 == body_magic) ≡ true
        → HasBodyHeader (node_of old b) (take body_header head)
    header_on bytes whole node body = header_of old b head bytes lawful whole begins_old (sym node_stays ∙ node) body

-- no more pages than a block has
pub within_block : (d : Device) (b : ℕ) → IsGeometry d.geometry → AreWhole d.geometry.page d.pages → most_pages d.geometry.page (block_bytes d.geometry) (node_of d b) ≤ d.geometry.pages
within_block d b lawful whole = by (node_of d b) refl
  where
    by : (o : Option (List ℕ)) → node_of d b ≡ o → most_pages d.geometry.page (block_bytes d.geometry) o ≤ d.geometry.pages
    by None is = omega (arith, block_pages d.geometry lawful)
    by (Some bytes) is =
        let room = lawful_has_room d.geometry lawful in
        let within = size_within (block_bytes d.geometry) (length bytes) bytes (node_of-whole d b bytes lawful whole is) in
        pages_for-most d.geometry.page d.geometry.pages (length bytes) (omega arith) within.most

-- why a node is not examined
pub wants_fault : (old new : Device) (there : Option (List ℕ)) (shown : List ℕ) (fault : Fault) → BringsOrWants old new there shown (Err fault) → IsReadFault fault
wants_fault old new there shown ReadFailed b = refl
wants_fault old new there shown PowerCut b = refl
wants_fault old new there shown NoMemory b = refl
wants_fault old new there shown Damaged b = refl
wants_fault old new there shown _ b = absurd b

module _ {F : Type 0} (device : F → Device) where
  -- one read, which asks no more pages than a block has and leaves which blocks are bad and which are used
  pub follows_read : (s t : Store F) → t.flash.ghost_name ≡ s.flash.ghost_name → t.storage.ghost_name ≡ s.storage.ghost_name
      → StillFits (device s.flash.now) s.storage.now (device t.flash.now) t.storage.now → IsUntouched (parts device s) (parts device t)
      → t.reads.n ≡ s.reads.n + 1 → t.writes.n ≡ s.writes.n → (device t.flash.now).operations ≤ (device s.flash.now).operations + (device s.flash.now).geometry.pages → Follows device s t
  follows_read s t same_flash same_storage fits untouched reads writes most =
      let takes : t.storage.now.ring.takes ≡ s.storage.now.ring.takes = ap (λ (r : Ring). r.takes) untouched.ring in
      let listed : set.len t.storage.now.bad ≡ set.len s.storage.now.bad = ap (λ bads. set.len bads) untouched.bad in
      record {
        same_flash = same_flash;
        same_storage = same_storage;
        fits = fits;
        evolved = Untouched_evolved (parts device s) (parts device t) untouched;
        more_writes = omega (arith, writes);
        paid = omega (arith, takes, listed, writes);
        untouched = λ same. untouched;
        at_limit = λ full. untouched;
        asks = λ same. subst (λ (n : ℕ). (device t.flash.now).operations + s.reads.n * (device s.flash.now).geometry.pages ≤ (device s.flash.now).operations + n * (device s.flash.now).geometry.pages) (sym reads)
            (one_more (device s.flash.now).operations (device t.flash.now).operations s.reads.n (device s.flash.now).geometry.pages most);
      }

  pub wants_causes : (s t : Store F) (there : Option (List ℕ)) (shown : List ℕ) (fault : Fault) → BringsOrWants (device s.flash.now) (device t.flash.now) there shown (Err fault)
      → fault ≢ Damaged → Causes device s t fault
  wants_causes s t there shown ReadFailed b other = record { reason = b }
  wants_causes s t there shown PowerCut b other = record { reason = b }
  wants_causes s t there shown NoMemory b other = record { reason = tt }
  wants_causes s t there shown Damaged b other = absurd (other refl)
  wants_causes s t there shown _ b other = absurd b
