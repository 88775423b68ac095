-- What reads after reads bring, and that they leave each node.
use Rattle.std.specs.Prelude.{◌≡◌, ℕ, zero, suc, ◌+◌, ◌-◌, ◌*◌, ◌<◌, ◌≤◌, List, [], ◌∷◌, ◌++◌, length, take, Option, Some, None, Result, Ok, Err, option_map, option_and_then, refl}
use Rattle.std.proofs.Common.{sym, ◌∙◌, ap, subst, inl, inr, arith}
use Rattle.std.specs.Result.{OnOk}
use Rattle.std.proofs.lemmas.Bool.{cases_eq}
use Rattle.std.proofs.lemmas.Grind.{div_ceil_times}
use Rattle.std.proofs.lemmas.Nat.{mul-le}
use Rattle.fs_types.specs.declared.fault.Fault.{Fault}
use Rattle.fs_types.specs.declared.fault.Fault.TheVariants.{ReadFailed, PowerCut, Damaged, NoMemory}
use Rattle.fs_types.specs.declared.limits.TheConstants.{ANCHORS}
use Rattle.flash_model.specs.Device.{Device, Page, bytes_of, erased, unreadable}
use Rattle.flash_model.specs.declared.geometry.Geometry.{Geometry}
use Rattle.flash_model.specs.Geometry.{IsGeometry, block_bytes, page_count}
use Rattle.node_format.specs.Headers.{node_size}
use Rattle.node_store.specs.NodePages.{and_page, joined, bytes_at, node_of}
use Rattle.nodes.specs.PageCounts.{pages_for}
use Rattle.node_store.specs.NodeLaws.{node_of-same, node_of-first, lawful_has_room, pages_for-most, pages_for-some, first_joined, map_some}
use Rattle.nodes.specs.SizeLaws.{size_within}
use Rattle.flash_model.specs.Reading.{OnlyReads}
use Rattle.node_store.specs.Caching.{BringsOrWants}
use Rattle.node_store.specs.Reading.{Brings}

-- reads leave the nodes of all blocks
pub OnlyReads_nodes : (d e : Device) → IsGeometry d.geometry → OnlyReads d e → node_of e ≡ node_of d
OnlyReads_nodes d e lawful r = λ i b. node_of-same d e b lawful r.geometry (λ p own. r.pages p) i

-- a refusal after reads is a refusal from before them, where nothing is there then
pub Brings_on : (fault : Fault) (old mid new : Device) (part whole : Option (List ℕ)) (was shown : List ℕ)
    → OnlyReads old mid → (part ≡ None → whole ≡ None)
    → Brings mid new part was (Err fault) → Brings old new whole shown (Err fault)
Brings_on ReadFailed old mid new part whole was shown r none b = omega arith
Brings_on PowerCut old mid new part whole was shown r none b = b
Brings_on Damaged old mid new part whole was shown r none b = none b
Brings_on _ old mid new part whole was shown r none b = absurd b

take_most : (n : ℕ) (l : List ℕ) → length (take n l) ≤ n
take_most zero l = omega arith
take_most (suc n) [] = omega arith
take_most (suc n) (x ∷ xs) = let rest = take_most n xs in omega arith

-- a refusal of reads is one where memory may be wanted too
pub brings_wants : (old new : Device) (there : Option (List ℕ)) (was shown : List ℕ) (fault : Fault)
    → Brings old new there was (Err fault) → BringsOrWants old new there shown (Err fault)
brings_wants old new there was shown ReadFailed b = b
brings_wants old new there was shown PowerCut b = b
brings_wants old new there was shown Damaged b = b
brings_wants old new there was shown NoMemory b = tt
brings_wants old new there was shown _ b = absurd b

-- without the pages up to one place there are none up to a later one
pub joined_none : (pages : ℕ → Page) (first n : ℕ) → joined pages first n ≡ None → joined pages first (suc n) ≡ None
joined_none pages first n h = ap (λ o. and_page o (pages (first + n))) h

pub joined_none_to : (pages : ℕ → Page) (first n m : ℕ) → n ≤ m → joined pages first n ≡ None → joined pages first m ≡ None
joined_none_to pages first n zero le h = let none : n ≡ 0 = omega arith in subst (λ k. joined pages first k ≡ None) none h
joined_none_to pages first n (suc m) le h =
    elim (cases_eq n (suc m)) [
      | inl same ↦ subst (λ k. joined pages first k ≡ None) same h
      | inr apart ↦ joined_none pages first m (joined_none_to pages first n m (omega arith) h)
    ]

-- a page without data joins nothing
no_data : (page : Page) (o : Option (List ℕ)) → and_page (Some []) page ≡ None → and_page o page ≡ None
no_data (bytes_of more) o none = cc
no_data page None none = refl
no_data erased (Some bytes) none = refl
no_data unreadable (Some bytes) none = refl

-- where a page has no data after reads, the pages up to it and beyond joined nothing before
pub no_next : (old mid : Device) (first place end : ℕ) → OnlyReads old mid → place < end
    → and_page (Some []) (mid.pages (first + place)) ≡ None → joined old.pages first end ≡ None
no_next old mid first place end r below none =
    joined_none_to old.pages first (suc place) end (omega arith)
    (no_data (old.pages (first + place)) (joined old.pages first place) (ap (and_page (Some [])) (sym (r.pages (first + place))) ∙ none))

-- a list and more of it, cut at a size
take_both : (size : ℕ) (all more : List ℕ) → take size (all ++ more) ≡ take size all ++ take (size - length (take size all)) more
take_both zero all more = refl
take_both (suc n) [] more = let all : suc n ≡ suc n - 0 = omega arith in ap (λ k. take k more) all
take_both (suc n) (x ∷ xs) more =
    let less : n - length (take n xs) ≡ suc n - suc (length (take n xs)) = omega arith in
    ap (λ l. x ∷ l) (take_both n xs more ∙ ap (λ k. take n xs ++ take k more) less)

-- the bytes before a page, cut at a size, and the part of the page
pub cut_next : (size : ℕ) (old mid : Device) (first place : ℕ) (so_far shown : List ℕ) → OnlyReads old mid
    → option_map (take size) (joined old.pages first place) ≡ Some so_far → and_page (Some []) (mid.pages (first + place)) ≡ Some shown
    → option_map (take size) (joined old.pages first (place + 1)) ≡ Some (so_far ++ take (size - length so_far) shown)
cut_next size old mid first place so_far shown r before next =
    let is : place + 1 ≡ suc place = omega arith in
    let parts = map_some (take size) (joined old.pages first place) so_far before in
    let page : old.pages (first + place) ≡ bytes_of shown =
    first_joined (old.pages (first + place)) shown (ap (and_page (Some [])) (sym (r.pages (first + place))) ∙ next) in
    ap (λ n. option_map (take size) (joined old.pages first n)) is
    ∙ ap (λ o. option_map (take size) (and_page o (old.pages (first + place)))) parts.1
    ∙ ap (λ x. option_map (take size) (and_page (Some parts.0) x)) page
    ∙ ap Some (take_both size parts.0 shown ∙ ap (λ l. l ++ take (size - length l) shown) parts.2)

-- what is cut at a size is no longer
pub cut_within : (size : ℕ) (o : Option (List ℕ)) (so_far : List ℕ) → option_map (take size) o ≡ Some so_far → length so_far ≤ size
cut_within size o so_far before =
    let parts = map_some (take size) o so_far before in
    subst (λ (l : List ℕ). length l ≤ size) parts.2 (take_most size parts.0)

-- what reads after reads bring of what was there before them
pub Brings_from : (old mid new : Device) (part whole : Option (List ℕ)) (shown : List ℕ) (result : Result (Unit {0}) Fault)
    → OnlyReads old mid → whole ≡ part → Brings mid new part shown result → Brings old new whole shown result
Brings_from old mid new part whole shown (Ok u) r same b = same ∙ b
Brings_from old mid new part whole shown (Err fault) r same b =
    Brings_on fault old mid new part whole shown shown r (λ none. same ∙ none) b

-- the pages of a node are in its block, so in the flash
pub rest_in_range : (g h : Geometry) (b first size : ℕ) (head : List ℕ) → IsGeometry g → h ≡ g → b < g.blocks → first ≡ b * g.pages + 0
    → node_size (block_bytes g) head ≡ Some size → first + pages_for h.page size ≤ page_count h
rest_in_range g h b first size head lawful same below at tells =
    let room = lawful_has_room g lawful in
    let within = size_within (block_bytes g) size head tells in
    let most = pages_for-most g.page g.pages size (omega arith) within.most in
    let block : suc b * g.pages ≤ g.blocks * g.pages = mul-le (suc b) g.pages g.blocks g.pages below (omega arith) in
    let fits : first + pages_for g.page size ≤ page_count g = omega arith in
    subst (λ (k : Geometry). first + pages_for k.page size ≤ page_count k) (sym same) fits

-- and it needs some
pub some_rest : (g h : Geometry) (size : ℕ) (head : List ℕ) → IsGeometry g → h ≡ g → node_size (block_bytes g) head ≡ Some size → 0 < pages_for h.page size
some_rest g h size head lawful same tells =
    let room = lawful_has_room g lawful in
    let within = size_within (block_bytes g) size head tells in
    subst (λ (k : Geometry). 0 < pages_for k.page size) (sym same) (pages_for-some g.page size (omega arith) (omega arith))

-- a node begins with its first page, as reads between left it
pub node_after_first : (old mid : Device) (b first size : ℕ) (head : List ℕ) → OnlyReads old mid → ANCHORS ≤ b → b < old.geometry.blocks
    → first ≡ b * old.geometry.pages + 0 → joined old.pages first 1 ≡ Some head → node_size (block_bytes old.geometry) head ≡ Some size
    → node_of old b ≡ bytes_at mid.geometry mid.pages first size
node_after_first old mid b first size head r least below at begins tells =
    node_of-first old b first head least below at begins
    ∙ ap (option_and_then (bytes_at old.geometry old.pages first)) tells
    ∙ ap (λ (h : Geometry). bytes_at h old.pages first size) (sym r.geometry)
    ∙ ap (λ (pages : ℕ → Page). bytes_at mid.geometry pages first size) (λ i p. sym (r.pages p) i)

some_pages : (k page size : ℕ) → 16 ≤ size → size ≤ k * page → 1 ≤ k
some_pages zero page size least fits = omega (arith, least, fits)
some_pages (suc k) page size least fits = omega arith

-- the first page and the rest are no more reads than a block has pages
pub block_once : (g h : Geometry) (size a b c : ℕ) (head : List ℕ) → IsGeometry g → h ≡ g → node_size (block_bytes g) head ≡ Some size
    → b ≤ a + 1 → c ≤ b + (pages_for h.page size - 1) → c ≤ a + g.pages
block_once g h size a b c head lawful same tells first rest =
    let room = lawful_has_room g lawful in
    let within = size_within (block_bytes g) size head tells in
    let most = pages_for-most g.page g.pages size (omega arith) within.most in
    let last : c ≤ b + (pages_for g.page size - 1) = subst (λ (k : Geometry). c ≤ b + (pages_for k.page size - 1)) same rest in
    let some = lawful.some_pages in
    omega (arith, last, first, most, some)

-- the first page and the rest are as many reads as the node has pages
pub each_once : (g h : Geometry) (size len a b c : ℕ) (head : List ℕ) (result : Result (Unit {0}) Fault) → IsGeometry g → h ≡ g
    → node_size (block_bytes g) head ≡ Some size → b ≤ a + 1 → c ≤ b + (pages_for h.page size - 1) → OnOk result (len ≡ size)
    → OnOk result (c ≤ a + pages_for g.page len)
each_once g h size len a b c head (Err fault) lawful same tells first rest is = tt
each_once g h size len a b c head (Ok x) lawful same tells first rest is =
    let room = lawful_has_room g lawful in
    let within = size_within (block_bytes g) size head tells in
    let some = some_pages (pages_for g.page size) g.page size within.least (div_ceil_times size g.page (omega arith)).0 in
    let last : c ≤ b + (pages_for g.page size - 1) = subst (λ (k : Geometry). c ≤ b + (pages_for k.page size - 1)) same rest in
    subst (λ (n : ℕ). c ≤ a + pages_for g.page n) (sym is) (omega (arith, last, first, some))
