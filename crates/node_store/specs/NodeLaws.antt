-- What a block's node depends on, and that it has the bytes of one node.
use Rattle.std.specs.Prelude.{◌≡◌, ℕ, zero, suc, ◌+◌, ◌*◌, ◌<◌, ◌≤◌, ◌&&◌, IsTrue, nat_le, nat_lt, if◌then◌else◌, List, [], ◌++◌, length, take, drop, replicate, Option, Some, None, option_map, option_and_then, refl}
use Rattle.std.proofs.Common.{sym, ◌∙◌, ap, subst, inl, inr, arith, add-zero}
use Rattle.std.proofs.lemmas.List.{append_assoc, append-nil, length-append, length-take-le, length-drop, take_all, take-take, take-append-le, drop_at, drop-append-le}
use Rattle.std.proofs.lemmas.Nat.{mul-le}
use Rattle.std.proofs.Math.Seq.{take-append_seam, take-add}
use Rattle.std.proofs.Math.Nat.{lt_of_mul-lt-mul_right}
use Rattle.std.proofs.lemmas.Bool.{cases_eq, leb-true, ltb-true, and_parts, and_from, and_left, and_right, cond-true, cond-false, le-leb, lt-leb, lt-ltb, le-ltb}
use Rattle.std.proofs.lemmas.Bool.Decides.{nat_tests}
use Rattle.std.proofs.lemmas.Grind.{div_ceil_times}
use Rattle.fs_types.specs.declared.limits.TheConstants.{ANCHORS}
use Rattle.flash_model.specs.declared.geometry.Geometry.{Geometry}
use Rattle.flash_model.specs.Geometry.{block_bytes, IsGeometry, is_page_size}
use Rattle.flash_model.specs.Device.{Device, Page, bytes_of, erased, unreadable, block_of}
use Rattle.flash_model.specs.Blocks.{block_of-at}
use Rattle.node_format.specs.Headers.{node_size, IsNode}
use Rattle.node_store.specs.NodePages.{and_page, joined, size_in, bytes_at, node_at, page_bytes, HasPages, HoldsNode, node_of}
use Rattle.nodes.specs.PageCounts.{pages_for}
use Rattle.nodes.specs.SizeLaws.{IsWithin, if_some, node_size-take, node_size-append, size_within}

-- so many pages join to the same bytes where each is the same
pub joined-same : (p q : ℕ → Page) (first n : ℕ) → ((j : ℕ) → j < n → q (first + j) ≡ p (first + j)) → joined q first n ≡ joined p first n
joined-same p q first zero same = refl
joined-same p q first (suc n) same =
    ap (λ o. and_page o (q (first + n))) (joined-same p q first n (λ j h. same j (omega arith)))
    ∙ ap (and_page (joined p first n)) (same n (omega arith))

-- a node's pages are in its block
pub pages_for-most : (page pages size : ℕ) → 0 < page → size ≤ pages * page → pages_for page size ≤ pages
pages_for-most page pages size some fits =
    let times = div_ceil_times size page some in
    let below : pages_for page size * page < suc pages * page = omega (arith, times.1) in
    let less : pages_for page size < suc pages = lt_of_mul-lt-mul_right page below in
    omega arith

factor_some : (n k : ℕ) → 0 < n * k → 0 < n
factor_some zero k h = absurd (omega arith)
factor_some (suc n) k h = omega arith

page_some : (n k : ℕ) → 0 < n * k → 0 < k
page_some n zero h = absurd (omega arith)
page_some n (suc k) h = omega arith

-- some bytes need some page
pub pages_for-some : (page size : ℕ) → 0 < page → 0 < size → 0 < pages_for page size
pages_for-some page size some bytes =
    let times = div_ceil_times size page some in
    factor_some (pages_for page size) page (omega (arith, times.0))

-- the pages of a block are those from its first one on
in_block : (d : Device) (p : ℕ → Page) (b : ℕ) → ((q : ℕ) → block_of d q ≡ b → p q ≡ d.pages q) → (j : ℕ) → j < d.geometry.pages → p (b * d.geometry.pages + j) ≡ d.pages (b * d.geometry.pages + j)
in_block d p b same j h = same (b * d.geometry.pages + j) (block_of-at d b j h)

page_size-some : (n : ℕ) → IsTrue (is_page_size n) → 256 ≤ n
page_size-some n h = grind (arith, nat_tests)

-- the node of a size, in pages
abbrev sized : Geometry → (ℕ → Page) → ℕ → Option ℕ → Option (List ℕ)
sized g pages first o = option_and_then (bytes_at g pages first) o

sized-same : (g : Geometry) (p q : ℕ → Page) (first : ℕ) (o : Option ℕ) → 0 < g.page
    → ((size : ℕ) → o ≡ Some size → size ≤ block_bytes g)
    → ((j : ℕ) → j < g.pages → q (first + j) ≡ p (first + j)) → sized g q first o ≡ sized g p first o
sized-same g p q first None some fits same = refl
sized-same g p q first (Some size) some fits same =
    let most = pages_for-most g.page g.pages size some (fits size refl) in
    ap (option_map (take size)) (joined-same p q first (pages_for g.page size) (λ j h. same j (omega arith)))

pub size_in-within : (limit : ℕ) (page : Page) (size : ℕ) → size_in limit page ≡ Some size → IsWithin limit size
size_in-within limit erased size h = cc
size_in-within limit (bytes_of bytes) size h = size_within limit size bytes h
size_in-within limit unreadable size h = cc

pub node_at-same : (g : Geometry) (p q : ℕ → Page) (first : ℕ) → 0 < g.page → 0 < g.pages
    → ((j : ℕ) → j < g.pages → q (first + j) ≡ p (first + j)) → node_at g q first ≡ node_at g p first
node_at-same g p q first some pages same =
    let start : q first ≡ p first = rw add-zero at (same 0 pages) in
    ap (λ page. sized g q first (size_in (block_bytes g) page)) start
    ∙ sized-same g p q first (size_in (block_bytes g) (p first)) some (λ size h. (size_in-within (block_bytes g) (p first) size h).most) same

-- a block's node depends on its pages alone
pub node_of-same : (d e : Device) (b : ℕ) → IsGeometry d.geometry → e.geometry ≡ d.geometry
    → ((p : ℕ) → block_of d p ≡ b → e.pages p ≡ d.pages p) → node_of e b ≡ node_of d b
node_of-same d e b lawful geometry same =
    let some : 256 ≤ d.geometry.page = page_size-some d.geometry.page lawful.page_size in
    let at : node_at d.geometry e.pages (b * d.geometry.pages) ≡ node_at d.geometry d.pages (b * d.geometry.pages) =
    node_at-same d.geometry d.pages e.pages (b * d.geometry.pages) (omega arith) lawful.some_pages (in_block d e.pages b same) in
    ap (λ (g : Geometry). if nat_le ANCHORS b && nat_lt b g.blocks then node_at g e.pages (b * g.pages) else None) geometry
    ∙ ap (λ o. if nat_le ANCHORS b && nat_lt b d.geometry.blocks then o else None) at

-- what joining a page took
record IsJoined (o : Option (List ℕ)) (page : Page) (all : List ℕ) : Type 0 where
  front : List ℕ
  more : List ℕ
  so_far : o ≡ Some front
  has : page ≡ bytes_of more
  is : front ++ more ≡ all

and_page-some : (o : Option (List ℕ)) (page : Page) (all : List ℕ) → and_page o page ≡ Some all → IsJoined o page all
and_page-some (Some front) (bytes_of more) all h = record { front = front; more = more; so_far = refl; has = refl; is = cc }
and_page-some None page all h = cc
and_page-some (Some front) erased all h = cc
and_page-some (Some front) unreadable all h = cc

-- each page with data is whole
abbrev pub AreWhole : ℕ → (ℕ → Page) → Type 0
AreWhole page pages = (p : ℕ) (bytes : List ℕ) → pages p ≡ bytes_of bytes → length bytes ≡ page

pub joined-length : (pages : ℕ → Page) (page first n : ℕ) (all : List ℕ) → AreWhole page pages → joined pages first n ≡ Some all → length all ≡ n * page
joined-length pages page first zero all whole h =
    let none : [] ≡ all = cc in
    ap length (sym none) ∙ omega arith
joined-length pages page first (suc n) all whole h =
    let parts = and_page-some (joined pages first n) (pages (first + n)) all h in
    let front = joined-length pages page first n parts.front whole parts.so_far in
    let more = whole (first + n) parts.more parts.has in
    let both = length-append parts.front parts.more in
    let is : length (parts.front ++ parts.more) ≡ length all = ap length parts.is in
    omega arith

-- joined bytes have those of each page at its place
pub joined-page : (pages : ℕ → Page) (page first n place : ℕ) (all shown : List ℕ) → AreWhole page pages → place < n
    → pages (first + place) ≡ bytes_of shown → joined pages first n ≡ Some all → shown ≡ take (length shown) (drop (place * page) all)
joined-page pages page first zero place all shown whole below is h = absurd (omega arith)
joined-page pages page first (suc n) place all shown whole below is h =
    let parts = and_page-some (joined pages first n) (pages (first + n)) all h in
    let front = joined-length pages page first n parts.front whole parts.so_far in
    let size = whole (first + place) shown is in
    elim (cases_eq place n) [
      | inl same ↦
          let more : bytes_of parts.more ≡ bytes_of shown = sym parts.has ∙ ap (λ (k : ℕ). pages (first + k)) (sym same) ∙ is in
          let last : parts.more ≡ shown = cc in
          let at : n * page ≡ place * page = ap (λ (k : ℕ). k * page) (sym same) in
          sym last ∙ sym (take_all (length shown) parts.more (omega (arith, ap length last)))
          ∙ ap (take (length shown)) (sym (drop_at parts.front parts.more (place * page) (front ∙ at)))
          ∙ ap (λ (l : List ℕ). take (length shown) (drop (place * page) l)) parts.is
      | inr apart ↦
          let before = joined-page pages page first n place parts.front shown whole (omega arith) is parts.so_far in
          let fits : suc place * page ≤ n * page = mul-le (suc place) page n page (omega arith) (omega arith) in
          before
          ∙ sym (take-append-le (length shown) (drop (place * page) parts.front) parts.more (omega (arith, length-drop (place * page) parts.front)))
          ∙ ap (take (length shown)) (sym (drop-append-le (place * page) parts.front parts.more (omega arith)))
          ∙ ap (λ (l : List ℕ). take (length shown) (drop (place * page) l)) parts.is
    ]

-- joined bytes begin with those of the first page
pub record BeginsWith (head all : List ℕ) : Type 0 where
  pub rest : List ℕ
  pub is : head ++ rest ≡ all

pub joined-front : (pages : ℕ → Page) (first n : ℕ) (head all : List ℕ) → pages first ≡ bytes_of head → 0 < n → joined pages first n ≡ Some all → BeginsWith head all
joined-front pages first zero head all begins some h = absurd (omega arith)
joined-front pages first (suc zero) head all begins some h =
    let parts = and_page-some (joined pages first zero) (pages (first + zero)) all h in
    let page : pages first ≡ bytes_of parts.more = ap pages (sym (add-zero first)) ∙ parts.has in
    let so_far = parts.so_far in
    let empty : [] ≡ parts.front = cc in
    let same : head ≡ parts.more = cc in
    record { rest = []; is = append-nil head ∙ same ∙ ap (λ xs. xs ++ parts.more) empty ∙ parts.is }
joined-front pages first (suc (suc n)) head all begins some h =
    let parts = and_page-some (joined pages first (suc n)) (pages (first + suc n)) all h in
    let before = joined-front pages first (suc n) head parts.front begins (omega arith) parts.so_far in
    record { rest = before.rest ++ parts.more; is = sym (append_assoc head before.rest parts.more) ∙ ap (λ xs. xs ++ parts.more) before.is ∙ parts.is }

-- what a block with a node holds
pub record HasNode (d : Device) (b : ℕ) (bytes : List ℕ) : Type 0 where
  pub least : ANCHORS ≤ b
  pub below : b < d.geometry.blocks
  pub size : ℕ
  pub all : List ℕ
  pub tells : size_in (block_bytes d.geometry) (d.pages (b * d.geometry.pages)) ≡ Some size
  pub joins : joined d.pages (b * d.geometry.pages) (pages_for d.geometry.page size) ≡ Some all
  pub is : take size all ≡ bytes

-- the node's size and the joined bytes that it is cut from
record IsCut (o : Option ℕ) (joins : ℕ → Option (List ℕ)) (bytes : List ℕ) : Type 0 where
  size : ℕ
  all : List ℕ
  tells : o ≡ Some size
  is_joined : joins size ≡ Some all
  is : take size all ≡ bytes

pub map_some : {A B : Type 0} (f : A → B) (o : Option A) (y : B) → option_map f o ≡ Some y → (x : A) × (o ≡ Some x) × (f x ≡ y)
map_some f None y h = cc
map_some f (Some x) y h = (x, refl, cc)

cut_from : (joins : ℕ → Option (List ℕ)) (o : Option ℕ) (bytes : List ℕ)
    → option_and_then (λ size. option_map (take size) (joins size)) o ≡ Some bytes → IsCut o joins bytes
cut_from joins None bytes h = cc
cut_from joins (Some size) bytes h =
    let m = map_some (take size) (joins size) bytes h in
    record { size = size; all = m.0; tells = refl; is_joined = m.1; is = m.2 }

pub has_node : (d : Device) (b : ℕ) (bytes : List ℕ) → node_of d b ≡ Some bytes → HasNode d b bytes
has_node d b bytes h =
    let inside = if_some (nat_le ANCHORS b && nat_lt b d.geometry.blocks) _ bytes h in
    let tests = and_parts (nat_le ANCHORS b) (nat_lt b d.geometry.blocks) inside.0 in
    let parts = cut_from (λ size. joined d.pages (b * d.geometry.pages) (pages_for d.geometry.page size)) _ bytes inside.1 in
    record {
      least = leb-true ANCHORS b tests.0;
      below = ltb-true b d.geometry.blocks tests.1;
      size = parts.size;
      all = parts.all;
      tells = parts.tells;
      joins = parts.is_joined;
      is = parts.is;
    }

-- the bytes of a page that tells a size
pub record TellsSize (limit : ℕ) (page : Page) (size : ℕ) : Type 0 where
  pub head : List ℕ
  pub has : page ≡ bytes_of head
  pub size_is : node_size limit head ≡ Some size

pub size_in-tells : (limit : ℕ) (page : Page) (size : ℕ) → size_in limit page ≡ Some size → TellsSize limit page size
size_in-tells limit erased size h = cc
size_in-tells limit (bytes_of bytes) size h = record { head = bytes; has = refl; size_is = h }
size_in-tells limit unreadable size h = cc

-- a page has room for a header, and a block has pages
pub record HasRoom (g : Geometry) : Type 0 where
  pub page : 256 ≤ g.page
  pub pages : 1 ≤ g.pages

pub lawful_has_room : (g : Geometry) → IsGeometry g → HasRoom g
lawful_has_room g lawful = record { page = page_size-some g.page lawful.page_size; pages = lawful.some_pages }

-- joined pages that begin with a header are as many bytes as the node needs, and more
cut_whole : (d : Device) (b : ℕ) (bytes : List ℕ) → IsGeometry d.geometry → AreWhole d.geometry.page d.pages
    → HasNode d b bytes → IsNode (block_bytes d.geometry) bytes
cut_whole d b bytes lawful whole has =
    let room = lawful_has_room d.geometry lawful in
    let g = d.geometry in
    let within = size_in-within (block_bytes g) (d.pages (b * g.pages)) has.size has.tells in
    let tells = size_in-tells (block_bytes g) (d.pages (b * g.pages)) has.size has.tells in
    let times = div_ceil_times has.size g.page (omega arith) in
    let long : length has.all ≡ pages_for g.page has.size * g.page = joined-length d.pages g.page (b * g.pages) (pages_for g.page has.size) has.all whole has.joins in
    let some : 0 < pages_for g.page has.size = pages_for-some g.page has.size (omega arith) (omega arith) in
    let front = joined-front d.pages (b * g.pages) (pages_for g.page has.size) tells.head has.all tells.has some has.joins in
    let header : length tells.head ≡ g.page = whole (b * g.pages) tells.head tells.has in
    let size : length (take has.size has.all) ≡ has.size = length-take-le has.size has.all (omega (arith, times.0)) in
    let same : node_size (block_bytes g) (take has.size has.all) ≡ Some has.size =
    node_size-take (block_bytes g) has.size has.all (omega arith)
    ∙ ap (node_size (block_bytes g)) (sym front.is)
    ∙ node_size-append (block_bytes g) tells.head front.rest (omega arith)
    ∙ tells.size_is in
    subst (λ xs. node_size (block_bytes g) xs ≡ Some (length xs)) has.is (same ∙ ap Some (sym size))

-- what a block holds is one node
pub node_of-whole : (d : Device) (b : ℕ) (bytes : List ℕ) → IsGeometry d.geometry → AreWhole d.geometry.page d.pages
    → node_of d b ≡ Some bytes → IsNode (block_bytes d.geometry) bytes
node_of-whole d b bytes lawful whole h = cut_whole d b bytes lawful whole (has_node d b bytes h)

-- anchors hold no node
pub node_of-anchor : (d : Device) (b : ℕ) → b < ANCHORS → node_of d b ≡ None
node_of-anchor d b h =
    cond-false (nat_le ANCHORS b && nat_lt b d.geometry.blocks) _ _
    (and_left (nat_le ANCHORS b) (nat_lt b d.geometry.blocks) (lt-leb ANCHORS b h))

-- what is no block holds no node
pub node_of-beyond : (d : Device) (b : ℕ) → d.geometry.blocks ≤ b → node_of d b ≡ None
node_of-beyond d b h =
    cond-false (nat_le ANCHORS b && nat_lt b d.geometry.blocks) _ _
    (and_right (nat_le ANCHORS b) (nat_lt b d.geometry.blocks) (le-ltb b d.geometry.blocks h))

-- a page's part of the bytes is a part of the bytes with zeros behind
part_of : (page place : ℕ) (bytes : List ℕ) → place * page ≤ length bytes
    → page_bytes page place bytes ≡ take page (drop (place * page) (bytes ++ replicate page 0))
part_of page place bytes h = ap (take page) (sym (drop-append-le (place * page) bytes (replicate page 0) h))

-- a page before the last one that is needed begins within the bytes
begins_within : (page size n : ℕ) → 0 < page → n < pages_for page size → n * page < size
begins_within page size n some h =
    let times = div_ceil_times size page some in
    let more : suc n * page ≤ pages_for page size * page = mul-le (suc n) page (pages_for page size) page h (omega arith) in
    omega (arith, times.1)

joined-pages : (pages : ℕ → Page) (page first : ℕ) (bytes : List ℕ) (n : ℕ) → 0 < page → n ≤ pages_for page (length bytes)
    → ((j : ℕ) → j < n → pages (first + j) ≡ bytes_of (page_bytes page j bytes))
    → joined pages first n ≡ Some (take (n * page) (bytes ++ replicate page 0))
joined-pages pages page first bytes zero some h each =
    let none : 0 ≡ 0 * page = omega arith in
    ap (λ m. Some (take m (bytes ++ replicate page 0))) none
joined-pages pages page first bytes (suc n) some h each =
    let before = joined-pages pages page first bytes n some (omega arith) (λ j k. each j (omega arith)) in
    let image = bytes ++ replicate page 0 in
    let begins = begins_within page (length bytes) n some h in
    let within : n * page ≤ length bytes = omega arith in
    let next : n * page + page ≡ suc n * page = omega arith in
    let here : page_bytes page n bytes ≡ take page (drop (n * page) image) = part_of page n bytes within in
    ap (λ o. and_page o (pages (first + n))) before
    ∙ ap (and_page (Some (take (n * page) image))) (each n (omega arith) ∙ ap bytes_of here)
    ∙ ap Some (sym (take-add (n * page) page image))
    ∙ ap (λ m. Some (take m image)) next

-- the first page tells the size
first-page : (limit page : ℕ) (bytes : List ℕ) → 12 ≤ page → 12 ≤ length bytes → node_size limit (page_bytes page 0 bytes) ≡ node_size limit bytes
first-page limit page bytes some h =
    let none : 0 * page ≡ 0 = omega arith in
    node_size-take limit page (drop (0 * page) bytes ++ replicate page 0) some
    ∙ ap (λ m. node_size limit (drop m bytes ++ replicate page 0)) none
    ∙ node_size-append limit bytes (replicate page 0) h

node_at-pages : (g : Geometry) (pages : ℕ → Page) (first : ℕ) (bytes : List ℕ) → IsGeometry g → IsNode (block_bytes g) bytes
    → ((j : ℕ) → j < pages_for g.page (length bytes) → pages (first + j) ≡ bytes_of (page_bytes g.page j bytes))
    → node_at g pages first ≡ Some bytes
node_at-pages g pages first bytes lawful node each =
    let room = lawful_has_room g lawful in
    let within = size_within (block_bytes g) (length bytes) bytes node in
    let some = pages_for-some g.page (length bytes) (omega arith) (omega arith) in
    let start : pages first ≡ bytes_of (page_bytes g.page 0 bytes) = ap pages (sym (add-zero first)) ∙ each 0 some in
    let tells : size_in (block_bytes g) (pages first) ≡ Some (length bytes) =
    ap (size_in (block_bytes g)) start ∙ first-page (block_bytes g) g.page bytes (omega arith) (omega arith) ∙ node in
    let count = pages_for g.page (length bytes) in
    let image = bytes ++ replicate g.page 0 in
    let times = div_ceil_times (length bytes) g.page (omega arith) in
    let covers : length bytes ≤ count * g.page = omega (arith, times.0) in
    let all : joined pages first count ≡ Some (take (count * g.page) image) =
    joined-pages pages g.page first bytes count (omega arith) (omega arith) each in
    ap (sized g pages first) tells
    ∙ ap (option_map (take (length bytes))) all
    ∙ ap Some (take-take (length bytes) (count * g.page) image covers ∙ take-append_seam bytes (replicate g.page 0))

-- a block that holds the pages of a node holds the node
pub node_of-pages : (d : Device) (b : ℕ) (bytes : List ℕ) → IsGeometry d.geometry → ANCHORS ≤ b → b < d.geometry.blocks
    → IsNode (block_bytes d.geometry) bytes → HasPages d b bytes → node_of d b ≡ Some bytes
node_of-pages d b bytes lawful least below node pages =
    cond-true (nat_le ANCHORS b && nat_lt b d.geometry.blocks) _ _
    (and_from (nat_le ANCHORS b) (nat_lt b d.geometry.blocks) (le-leb ANCHORS b least) (lt-ltb b d.geometry.blocks below))
    ∙ node_at-pages d.geometry d.pages (b * d.geometry.pages) bytes lawful node pages.each

-- the pages that a node needs are in its block
node_pages-most : (g : Geometry) (bytes : List ℕ) → IsNode (block_bytes g) bytes → pages_for g.page (length bytes) ≤ g.pages
node_pages-most g bytes node =
    let size = size_within (block_bytes g) (length bytes) bytes node in
    pages_for-most g.page g.pages (length bytes) (page_some g.pages g.page (omega arith)) size.most

-- a block holds its node while its pages stay
pub HoldsNode_same : (d e : Device) (b : ℕ) → e.geometry ≡ d.geometry → ((p : ℕ) → block_of d p ≡ b → e.pages p ≡ d.pages p) → HoldsNode d b → HoldsNode e b
HoldsNode_same d e b geometry same holds =
    let bytes = holds.bytes in
    let most = node_pages-most d.geometry bytes holds.node in
    record {
      bytes = bytes;
      node = subst (λ (g : Geometry). IsNode (block_bytes g) bytes) (sym geometry) holds.node;
      pages = record {
        each = subst (λ (g : Geometry). (j : ℕ) → j < pages_for g.page (length bytes) → e.pages (b * g.pages + j) ≡ bytes_of (page_bytes g.page j bytes)) (sym geometry)
            (λ j below. same (b * d.geometry.pages + j) (block_of-at d b j (omega arith)) ∙ holds.pages.each j below);
        rest = subst (λ (g : Geometry). (j : ℕ) → pages_for g.page (length bytes) ≤ j → j < g.pages → e.pages (b * g.pages + j) ≡ erased) (sym geometry)
            (λ j from below. same (b * d.geometry.pages + j) (block_of-at d b j below) ∙ holds.pages.rest j from below);
      };
    }

pub first_joined : (page : Page) (xs : List ℕ) → and_page (Some []) page ≡ Some xs → page ≡ bytes_of xs
first_joined erased xs h = cc
first_joined (bytes_of bytes) xs h = ap bytes_of cc
first_joined unreadable xs h = cc

-- the node of a block, by the size that its first page tells
pub node_of-first : (d : Device) (b first : ℕ) (head : List ℕ) → ANCHORS ≤ b → b < d.geometry.blocks
    → first ≡ b * d.geometry.pages + 0 → joined d.pages first 1 ≡ Some head
    → node_of d b ≡ option_and_then (bytes_at d.geometry d.pages first) (node_size (block_bytes d.geometry) head)
node_of-first d b first head least below at begins =
    let g = d.geometry in
    let place : first + 0 ≡ b * g.pages = omega arith in
    let start : first ≡ b * g.pages = omega arith in
    let page : d.pages (b * g.pages) ≡ bytes_of head = ap d.pages (sym place) ∙ first_joined (d.pages (first + 0)) head begins in
    cond-true (nat_le ANCHORS b && nat_lt b g.blocks) _ _
    (and_from (nat_le ANCHORS b) (nat_lt b g.blocks) (le-leb ANCHORS b least) (lt-ltb b g.blocks below))
    ∙ ap (λ x. option_and_then (bytes_at g d.pages (b * g.pages)) (size_in (block_bytes g) x)) page
    ∙ ap (λ n. option_and_then (bytes_at g d.pages n) (node_size (block_bytes g) head)) (sym start)
