-- A node of a directory is read as it is spelled, and as nothing else is.
use Rattle.std.proofs.Common.{◌≡◌, ℕ, zero, suc, ◌+◌, ◌-◌, ◌^◌, ◌<◌, ◌≤◌, ◌⊎◌, inl, inr, Bool, true, false, cond, eqb, ltb, leb, Option, Some, None, List, [], ◌∷◌, ◌++◌, length, get_or, take, drop, subst, refl, sym, ap, ◌∙◌, arith}
use Rattle.std.specs.Prelude.{codes, ◌||◌, IfSome}
use Rattle.std.specs.Option.{option_map, option_map_or}
use Rattle.std.specs.List.{list_all}
use Rattle.std.proofs.lemmas.Bool.{le-ltb, le-leb, eq-eqb, eqb-true, ltb-false}
use Rattle.std.proofs.lemmas.List.{length-append, length-take, length-drop, get_or-drop, take-append-drop, drop-drop, drop_at}
use Rattle.byteorder.specs.Endian.{little_number, little_bytes}
use Rattle.byteorder.specs.Numbers.{little_number-reads_back}
use Rattle.fs_types.specs.Names.{Name}
use Rattle.fs_types.specs.declared.limits.TheConstants.{MIN_BLOCK_BYTES, NODE_ENTRIES}
use Rattle.node_format.specs.Headers.{field, chain_magic, directory_magic, body_magic, IsNode}
use Rattle.node_format.specs.Items.{Item, is_before, are_ascending, are_entries}
use Rattle.node_format.specs.Directories.{items_bytes, item_at, items_at, are_filled, entries_at, AreSpelled}
use Rattle.node_format.specs.Links.{Link, link, link_at, may_go_on, directory_bytes, chain_bytes, IsAlone, IsChained, IsLink, skipped}
use Rattle.node_format.proofs.DirectoryLaws.{kept_true, entries_again, used_most, are_spelled}
use Rattle.node_format.specs.Order.{and_true, all_after}
use Rattle.fields.specs.Numbers.{IsBytes}
use Rattle.fields.proofs.Found.{passed, not_refused, some_is}
use Rattle.fields.proofs.NumberLaws.{IsBytes-drop, spelled_front}

-- ---- what is spelled is read

full_goes_on : (next count : ℕ) → (next ≡ 0) ⊎ (count ≡ NODE_ENTRIES) → may_go_on next count ≡ true
full_goes_on next count (inl none) = rw none refl
full_goes_on next count (inr full) = on (eqb next 0) (eqb count NODE_ENTRIES) (eq-eqb _ _ full)
  where
    on : (a b : Bool) → b ≡ true → (a || b) ≡ true
    on true b e = refl
    on false b e = e

-- the fields of a node's spelling
record HasFields (bytes : List ℕ) (magic next count used : ℕ) (spelled : List ℕ) : Type 0 where
  magic_is : field bytes 0 ≡ magic
  count_is : field bytes 4 ≡ count
  used_is : field bytes 8 ≡ used
  next_is : field bytes 12 ≡ next
  size : length bytes ≡ 16 + length spelled
  rest : drop 16 bytes ≡ spelled

chain_fields : (next count used : ℕ) (spelled : List ℕ) → next < 2 ^ 32 → count < 2 ^ 32 → used < 2 ^ 32
    → HasFields (codes "UFNE" ++ (little_bytes 4 count ++ (little_bytes 4 used ++ (little_bytes 4 next ++ spelled)))) chain_magic next count used spelled
chain_fields next count used spelled ln lc lu = record {
  magic_is = refl;
  count_is = little_number-reads_back 4 count (little_bytes 4 used ++ (little_bytes 4 next ++ spelled)) (omega arith);
  used_is = little_number-reads_back 4 used (little_bytes 4 next ++ spelled) (omega arith);
  next_is = little_number-reads_back 4 next spelled (omega arith);
  size = omega arith;
  rest = refl;
}

directory_fields : (unread : List ℕ) (count used : ℕ) (spelled : List ℕ) → length unread ≡ 4 → count < 2 ^ 32 → used < 2 ^ 32
    → HasFields (codes "UFND" ++ (little_bytes 4 count ++ (little_bytes 4 used ++ (unread ++ spelled)))) directory_magic (field (unread ++ spelled) 0) count used spelled
directory_fields unread count used spelled four lc lu = record {
  magic_is = refl;
  count_is = little_number-reads_back 4 count (little_bytes 4 used ++ (unread ++ spelled)) (omega arith);
  used_is = little_number-reads_back 4 used (unread ++ spelled) (omega arith);
  next_is = refl;
  size = omega (arith, length-append unread spelled);
  rest = drop_at unread spelled 4 four;
}

-- what is read off the fields
by_chain_fields : (bytes spelled : List ℕ) (next count used : ℕ) → HasFields bytes chain_magic next count used spelled → may_go_on next count ≡ true → link_at bytes ≡ option_map (link true next) (entries_at count used spelled)
unfolding link_at
by_chain_fields bytes spelled next count used h goes =
    let enough : ltb (length bytes) 16 ≡ false = le-ltb _ _ (omega (arith, h.size)) in
    rw (enough, h.magic_is, h.count_is, h.used_is, h.next_is, h.rest, goes) refl

by_directory_fields : (bytes spelled : List ℕ) (next count used : ℕ) → HasFields bytes directory_magic next count used spelled → link_at bytes ≡ option_map (link false 0) (entries_at count used spelled)
unfolding link_at
by_directory_fields bytes spelled next count used h =
    let enough : ltb (length bytes) 16 ≡ false = le-ltb _ _ (omega (arith, h.size)) in
    rw (enough, h.magic_is, h.count_is, h.used_is, h.rest) refl

-- the entries of a node, which are few
record AreFew (items : List Item) : Type 0 where
  counted : length items < 2 ^ 32
  used : length (items_bytes items) < 2 ^ 32

few_of : (items : List Item) → are_entries items ≡ true → length items ≤ NODE_ENTRIES → AreFew items
few_of items lawful few = record { counted = omega arith; used = omega (arith, used_most items lawful few) }

chain_has : (next : ℕ) (items : List Item) → are_entries items ≡ true → length items ≤ NODE_ENTRIES → next < 2 ^ 32 → HasFields (chain_bytes next items) chain_magic next (length items) (length (items_bytes items)) (items_bytes items)
chain_has next items lawful few small =
    let f = few_of items lawful few in
    chain_fields next (length items) (length (items_bytes items)) (items_bytes items) small f.counted f.used

directory_has : (unread : List ℕ) (items : List Item) → are_entries items ≡ true → length items ≤ NODE_ENTRIES → length unread ≡ 4
    → HasFields (directory_bytes unread items) directory_magic (field (unread ++ items_bytes items) 0) (length items) (length (items_bytes items)) (items_bytes items)
directory_has unread items lawful few four =
    let f = few_of items lawful few in
    directory_fields unread (length items) (length (items_bytes items)) (items_bytes items) four f.counted f.used

-- a node of a chain is read as it is written
pub link_again : (next : ℕ) (items : List Item) → are_entries items ≡ true → length items ≤ NODE_ENTRIES → next < 2 ^ 32 → (next ≡ 0) ⊎ (length items ≡ NODE_ENTRIES) → link_at (chain_bytes next items) ≡ Some (link true next items)
link_again next items lawful few small full =
    by_chain_fields (chain_bytes next items) (items_bytes items) next (length items) (length (items_bytes items)) (chain_has next items lawful few small) (full_goes_on next (length items) full)
    ∙ ap (option_map (link true next)) (entries_again items lawful few)

-- and so is one that stands alone
alone_again : (unread : List ℕ) (items : List Item) → are_entries items ≡ true → length items ≤ NODE_ENTRIES → length unread ≡ 4 → link_at (directory_bytes unread items) ≡ Some (link false 0 items)
alone_again unread items lawful few four =
    by_directory_fields (directory_bytes unread items) (items_bytes items) (field (unread ++ items_bytes items) 0) (length items) (length (items_bytes items)) (directory_has unread items lawful few four)
    ∙ ap (option_map (link false 0)) (entries_again items lawful few)

pub link_only : (bytes : List ℕ) (l : Link) → IsLink bytes l → link_at bytes ≡ Some l
link_only bytes l is = on is.spelled
  where
    on : IsAlone bytes l ⊎ IsChained bytes l → link_at bytes ≡ Some l
    on (inl a) = ap link_at a.spelling ∙ alone_again a.unread l.items is.lawful is.few a.four ∙ λ i. Some (link (sym a.alone i) (sym a.last i) l.items)
    on (inr c) = ap link_at c.spelling ∙ link_again l.next l.items is.lawful is.few c.small c.full ∙ λ i. Some (link (sym c.chained i) l.next l.items)

-- ---- a node of a directory is a node

node_by_fields : (block : ℕ) (bytes : List ℕ) (magic next : ℕ) (items : List Item) → MIN_BLOCK_BYTES ≤ block → are_entries items ≡ true → length items ≤ NODE_ENTRIES → (magic ≡ directory_magic) ⊎ (magic ≡ chain_magic)
    → HasFields bytes magic next (length items) (length (items_bytes items)) (items_bytes items) → IsNode block bytes
node_by_fields block bytes magic next items capacity lawful le one h =
    let few : leb (length items) NODE_ENTRIES ≡ true = le-leb _ _ le in
    let fits : leb (16 + length (items_bytes items)) block ≡ true = le-leb _ _ (omega (arith, used_most items lawful le)) in
    elim one [
      | inl alone ↦ let is : field bytes 0 ≡ directory_magic = h.magic_is ∙ alone in rw (is, h.count_is, h.used_is, few, fits) (ap (λ (k : ℕ). Some k) (sym h.size))
      | inr chained ↦ let is : field bytes 0 ≡ chain_magic = h.magic_is ∙ chained in rw (is, h.count_is, h.used_is, few, fits) (ap (λ (k : ℕ). Some k) (sym h.size))
    ]

pub link_is_node : (block next : ℕ) (items : List Item) → MIN_BLOCK_BYTES ≤ block → are_entries items ≡ true → length items ≤ NODE_ENTRIES → next < 2 ^ 32 → IsNode block (chain_bytes next items)
link_is_node block next items capacity lawful few small =
    node_by_fields block (chain_bytes next items) chain_magic next items capacity lawful few (inr refl) (chain_has next items lawful few small)

-- what the writer of a node of a chain owes
pub record IsNodeWritten (bytes : List ℕ) (next : ℕ) (items : List Item) : Type 0 where
  pub written : bytes ≡ chain_bytes next items
  pub read : link_at bytes ≡ Some (link true next items)
  pub node : (block : ℕ) → MIN_BLOCK_BYTES ≤ block → IsNode block bytes

pub node_written : (bytes : List ℕ) (next count : ℕ) (spelled : List ℕ) (items : List Item) → AreSpelled count spelled items → length items ≤ NODE_ENTRIES → next < 2 ^ 32 → (next ≡ 0) ⊎ (length items ≡ NODE_ENTRIES)
    → bytes ≡ codes "UFNE" ++ (little_bytes 4 count ++ (little_bytes 4 (length spelled) ++ (little_bytes 4 next ++ spelled))) → IsNodeWritten bytes next items
node_written bytes next count spelled items s few small full is =
    let same : bytes ≡ chain_bytes next items = is ∙ λ i. codes "UFNE" ++ (little_bytes 4 (sym s.counted i) ++ (little_bytes 4 (length (s.spelled i)) ++ (little_bytes 4 next ++ s.spelled i))) in
    record {
      written = same;
      read = ap link_at same ∙ link_again next items s.lawful few small full;
      node = λ block capacity. subst (IsNode block) (sym same) (link_is_node block next items capacity s.lawful few small);
    }

-- ---- what is read is spelled so

linked_entries : (chained : Bool) (next : ℕ) (o : Option (List Item)) (l : Link) → option_map (link chained next) o ≡ Some l → (items : List Item) × (o ≡ Some items) × (link chained next items ≡ l)
linked_entries chained next None l e = absurd cc
linked_entries chained next (Some items) l e = (items, refl, some_is (link chained next items) l e)

may : (next count : ℕ) → may_go_on next count ≡ true → (next ≡ 0) ⊎ (count ≡ NODE_ENTRIES)
may next count e = on (eqb next 0) refl e
  where
    on : (a : Bool) → eqb next 0 ≡ a → (a || eqb count NODE_ENTRIES) ≡ true → (next ≡ 0) ⊎ (count ≡ NODE_ENTRIES)
    on true is e = inl (eqb-true _ _ is)
    on false is e = inr (eqb-true _ _ e)

-- the number of four bytes at a place is spelled by these four bytes
field_takes : (bytes : List ℕ) (place : ℕ) → IsBytes bytes → place + 4 ≤ length bytes → little_bytes 4 (field bytes place) ≡ take 4 (drop place bytes)
field_takes bytes place fits le =
    let at : (i j : ℕ) → place + i ≡ j → get_or (drop place bytes) i 0 ≡ get_or bytes j 0 = λ i j e. get_or-drop place bytes i 0 ∙ ap (λ (k : ℕ). get_or bytes k 0) e in
    let e0 = at 0 place (omega arith) in
    let e1 = at 1 (suc place) (omega arith) in
    let e2 = at 2 (suc (suc place)) (omega arith) in
    let e3 = at 3 (suc (suc (suc place))) (omega arith) in
    let same : field bytes place ≡ little_number 4 (drop place bytes) = omega (arith, e0, e1, e2, e3) in
    ap (little_bytes 4) same ∙ spelled_front 4 (drop place bytes) (IsBytes-drop place bytes fits) (omega (arith, length-drop place bytes))

-- a field is a number of four bytes
field_small : (bytes : List ℕ) (place : ℕ) → IsBytes bytes → field bytes place < 2 ^ 32
field_small bytes place fits = omega (arith, fits place, fits (suc place), fits (suc (suc place)), fits (suc (suc (suc place))))

-- bytes are their first 16, by fours, and the others
by_fours : (bytes : List ℕ) → bytes ≡ take 4 bytes ++ (take 4 (drop 4 bytes) ++ (take 4 (drop 8 bytes) ++ (take 4 (drop 12 bytes) ++ drop 16 bytes)))
by_fours bytes =
    let four : (place next : ℕ) → place + 4 ≡ next → drop place bytes ≡ take 4 (drop place bytes) ++ drop next bytes =
    λ place next e. sym (take-append-drop 4 (drop place bytes)) ∙ ap (λ (rest : List ℕ). take 4 (drop place bytes) ++ rest) (drop-drop 4 place bytes ∙ ap (λ (k : ℕ). drop k bytes) e) in
    sym (take-append-drop 4 bytes)
    ∙ ap (λ (rest : List ℕ). take 4 bytes ++ rest)
    (four 4 8 refl ∙ ap (λ (rest : List ℕ). take 4 (drop 4 bytes) ++ rest)
    (four 8 12 refl ∙ ap (λ (rest : List ℕ). take 4 (drop 8 bytes) ++ rest) (four 12 16 refl)))

-- the entries that a header's fields let through
record AreTaken (bytes : List ℕ) (items : List Item) : Type 0 where
  counted : field bytes 4 ≡ length items
  few : length items ≤ NODE_ENTRIES
  used : field bytes 8 ≡ length (items_bytes items)
  spelled : AreSpelled (length items) (drop 16 bytes) items

entries_taken : (bytes : List ℕ) (items : List Item) → IsBytes bytes → entries_at (field bytes 4) (field bytes 8) (drop 16 bytes) ≡ Some items → AreTaken bytes items
unfolding entries_at
entries_taken bytes items fits e =
    let count = field bytes 4 in
    let rest = drop 16 bytes in
    let c = not_refused (ltb NODE_ENTRIES count) _ items e in
    let d = passed (eqb (field bytes 8) (length rest)) _ items c.1 in
    let f = passed (are_filled count [] rest) (Some (items_at count rest)) items d.1 in
    let few : count ≤ NODE_ENTRIES = ltb-false _ _ c.0 in
    let s : AreSpelled count rest items = subst (AreSpelled count rest) (some_is (items_at count rest) items f.1) (are_spelled count rest (IsBytes-drop 16 bytes fits) few f.0) in
    record {
      counted = sym s.counted;
      few = omega (arith, s.counted);
      used = eqb-true _ _ d.0 ∙ ap length s.spelled;
      spelled = record { lawful = s.lawful; counted = refl; spelled = s.spelled };
    }

-- the bytes of a node whose fields were let through
taken_bytes : (bytes magic : List ℕ) (number : ℕ) (items : List Item) → IsBytes bytes → 16 ≤ length bytes → field bytes 0 ≡ number → little_bytes 4 number ≡ magic → AreTaken bytes items
    → bytes ≡ magic ++ (little_bytes 4 (length items) ++ (little_bytes 4 (length (items_bytes items)) ++ (take 4 (drop 12 bytes) ++ items_bytes items)))
taken_bytes bytes magic number items fits long is spelled t =
    let first : take 4 bytes ≡ magic = sym (field_takes bytes 0 fits (omega arith)) ∙ ap (little_bytes 4) is ∙ spelled in
    let counted : take 4 (drop 4 bytes) ≡ little_bytes 4 (length items) = sym (field_takes bytes 4 fits (omega arith)) ∙ ap (little_bytes 4) t.counted in
    let used : take 4 (drop 8 bytes) ≡ little_bytes 4 (length (items_bytes items)) = sym (field_takes bytes 8 fits (omega arith)) ∙ ap (little_bytes 4) t.used in
    by_fours bytes ∙ λ i. first i ++ (counted i ++ (used i ++ (take 4 (drop 12 bytes) ++ t.spelled.spelled i)))

pub link_takes : (bytes : List ℕ) (l : Link) → IsBytes bytes → link_at bytes ≡ Some l → IsLink bytes l
unfolding link_at
link_takes bytes l fits e =
    let a = not_refused (ltb (length bytes) 16) _ l e in
    alone (ltb-false _ _ a.0) (eqb (field bytes 0) directory_magic) refl a.1
  where
    read : Option (List Item)
    read = entries_at (field bytes 4) (field bytes 8) (drop 16 bytes)

    alone : 16 ≤ length bytes → (a : Bool) → eqb (field bytes 0) directory_magic ≡ a
        → cond a (option_map (link false 0) read) (cond (eqb (field bytes 0) chain_magic) (cond (may_go_on (field bytes 12) (field bytes 4)) (option_map (link true (field bytes 12)) read) None) None) ≡ Some l → IsLink bytes l
    alone long true is e =
        let r = linked_entries false 0 read l e in
        let t = entries_taken bytes r.0 fits r.1 in
        let spelling = taken_bytes bytes (codes "UFND") directory_magic r.0 fits long (eqb-true _ _ is) refl t in
        let four : length (take 4 (drop 12 bytes)) ≡ 4 = omega (arith, length-take 4 (drop 12 bytes), length-drop 12 bytes) in
        subst (IsLink bytes) r.2 (record {
          lawful = t.spelled.lawful;
          few = t.few;
          spelled = inl (record { alone = refl; last = refl; unread = take 4 (drop 12 bytes); four = four; spelling = spelling });
        })
    alone long false is e =
        let c = passed (eqb (field bytes 0) chain_magic) _ l e in
        let m = passed (may_go_on (field bytes 12) (field bytes 4)) _ l c.1 in
        let r = linked_entries true (field bytes 12) read l m.1 in
        let t = entries_taken bytes r.0 fits r.1 in
        let next : take 4 (drop 12 bytes) ≡ little_bytes 4 (field bytes 12) = sym (field_takes bytes 12 fits (omega arith)) in
        let spelling : bytes ≡ chain_bytes (field bytes 12) r.0 = taken_bytes bytes (codes "UFNE") chain_magic r.0 fits long (eqb-true _ _ c.0) refl t
        ∙ ap (λ (more : List ℕ). codes "UFNE" ++ (little_bytes 4 (length r.0) ++ (little_bytes 4 (length (items_bytes r.0)) ++ (more ++ items_bytes r.0)))) next in
        let full : (field bytes 12 ≡ 0) ⊎ (length r.0 ≡ NODE_ENTRIES) = elim (may (field bytes 12) (field bytes 4) m.0) [ inl none ↦ inl none | inr all ↦ inr (sym t.counted ∙ all) ] in
        subst (IsLink bytes) r.2 (record {
          lawful = t.spelled.lawful;
          few = t.few;
          spelled = inr (record { chained = refl; small = field_small bytes 12 fits; full = full; spelling = spelling });
        })

pub is_found : (bytes : List ℕ) (read : Option Link) → IsBytes bytes → read ≡ link_at bytes → IfSome read (λ l. IsLink bytes l)
is_found bytes None fits e = tt
is_found bytes (Some l) fits e = link_takes bytes l fits (sym e)

-- ---- what a node says

filled_counted : (count : ℕ) (before : Name) (bytes : List ℕ) → are_filled count before bytes ≡ true → length (items_at count bytes) ≡ count
unfolding are_filled items_at
filled_counted zero before bytes e = refl
filled_counted (suc count) before bytes e = on (item_at bytes) e (filled_counted count)
  where
    on : (read : Option (Item × List ℕ)) → option_map_or (λ x. cond (is_before before x.0.name) (are_filled count x.0.name x.1) false) read false ≡ true
        → ((b : Name) (after : List ℕ) → are_filled count b after ≡ true → length (items_at count after) ≡ count) → length (option_map_or (λ x. x.0 ∷ items_at count x.1) read []) ≡ suc count
    on None filled again = absurd cc
    on (Some x) filled again = ap suc (again x.0.name x.1 (kept_true (is_before before x.0.name) (are_filled count x.0.name x.1) filled).1)

-- a node has at most 32 entries, and exactly so many where another comes after it
pub record IsFilled (l : Link) : Type 0 where
  pub few : length l.items ≤ NODE_ENTRIES
  pub full : (l.next ≡ 0) ⊎ (length l.items ≡ NODE_ENTRIES)

pub entries_counted : (count used : ℕ) (bytes : List ℕ) (items : List Item) → entries_at count used bytes ≡ Some items → (length items ≡ count) × (count ≤ NODE_ENTRIES)
unfolding entries_at
entries_counted count used bytes items e =
    let c = not_refused (ltb NODE_ENTRIES count) _ items e in
    let d = passed (eqb used (length bytes)) _ items c.1 in
    let f = passed (are_filled count [] bytes) (Some (items_at count bytes)) items d.1 in
    (ap length (sym (some_is (items_at count bytes) items f.1)) ∙ filled_counted count [] bytes f.0, ltb-false _ _ c.0)

pub link_filled : (bytes : List ℕ) (l : Link) → link_at bytes ≡ Some l → IsFilled l
unfolding link_at
link_filled bytes l e = alone (eqb (field bytes 0) directory_magic) (not_refused (ltb (length bytes) 16) _ l e).1
  where
    count : ℕ
    count = field bytes 4

    read : Option (List Item)
    read = entries_at count (field bytes 8) (drop 16 bytes)

    filled : (chained : Bool) (next : ℕ) → (next ≡ 0) ⊎ (count ≡ NODE_ENTRIES) → option_map (link chained next) read ≡ Some l → IsFilled l
    filled chained next full e =
        let is = linked_entries chained next read l e in
        let n = entries_counted count (field bytes 8) (drop 16 bytes) is.0 is.1 in
        subst IsFilled is.2 (record { few = omega (arith, n.0, n.1); full = elim full [ inl none ↦ inl none | inr all ↦ inr (n.0 ∙ all) ] })

    alone : (a : Bool) → cond a (option_map (link false 0) read) (cond (eqb (field bytes 0) chain_magic) (cond (may_go_on (field bytes 12) count) (option_map (link true (field bytes 12)) read) None) None) ≡ Some l → IsFilled l
    alone true e = filled false 0 (inl refl) e
    alone false e =
        let c = passed (eqb (field bytes 0) chain_magic) _ l e in
        let m = passed (may_go_on (field bytes 12) count) _ l c.1 in
        filled true (field bytes 12) (may (field bytes 12) count m.0) m.1

pub skipped_goes_on : (count i : ℕ) (bytes : List ℕ) (read : Item × List ℕ) (total : List ℕ) → i < count → Some read ≡ item_at bytes → skipped (count - i) bytes ≡ total → skipped (count - (i + 1)) read.1 ≡ total
unfolding skipped
skipped_goes_on count i bytes read total lt is so_far =
    let k : count - i ≡ suc (count - (i + 1)) = omega arith in
    let one : skipped (count - i) bytes ≡ skipped (count - (i + 1)) read.1 = rw (k, sym is) refl in
    sym one ∙ so_far

-- it is no body node
pub link_no_body : (bytes : List ℕ) (l : Link) → link_at bytes ≡ Some l → eqb (field bytes 0) body_magic ≡ false
unfolding link_at
link_no_body bytes l e = alone (eqb (field bytes 0) directory_magic) refl (not_refused (ltb (length bytes) 16) _ l e).1
  where
    read : Option (List Item)
    read = entries_at (field bytes 4) (field bytes 8) (drop 16 bytes)

    alone : (a : Bool) → eqb (field bytes 0) directory_magic ≡ a → cond a (option_map (link false 0) read) (cond (eqb (field bytes 0) chain_magic) (cond (may_go_on (field bytes 12) (field bytes 4)) (option_map (link true (field bytes 12)) read) None) None) ≡ Some l → eqb (field bytes 0) body_magic ≡ false
    alone true is e = ap (λ (m : ℕ). eqb m body_magic) (eqb-true _ _ is)
    alone false is e = ap (λ (m : ℕ). eqb m body_magic) (eqb-true _ _ (passed (eqb (field bytes 0) chain_magic) _ l e).0)

entries_are : (count used : ℕ) (bytes : List ℕ) (items : List Item) → entries_at count used bytes ≡ Some items → items_at count bytes ≡ items
unfolding entries_at
entries_are count used bytes items e =
    let c = not_refused (ltb NODE_ENTRIES count) _ items e in
    let d = passed (eqb used (length bytes)) _ items c.1 in
    let f = passed (are_filled count [] bytes) (Some (items_at count bytes)) items d.1 in
    some_is (items_at count bytes) items f.1

-- its entries are those that are read after its header
pub link_items_at : (bytes : List ℕ) (l : Link) → link_at bytes ≡ Some l → items_at (field bytes 4) (drop 16 bytes) ≡ l.items
unfolding link_at
link_items_at bytes l e = alone (eqb (field bytes 0) directory_magic) (not_refused (ltb (length bytes) 16) _ l e).1
  where
    read : Option (List Item)
    read = entries_at (field bytes 4) (field bytes 8) (drop 16 bytes)

    same : (chained : Bool) (next : ℕ) → option_map (link chained next) read ≡ Some l → items_at (field bytes 4) (drop 16 bytes) ≡ l.items
    same chained next e =
        let is = linked_entries chained next read l e in
        entries_are (field bytes 4) (field bytes 8) (drop 16 bytes) is.0 is.1 ∙ ap (λ (x : Link). x.items) is.2

    alone : (a : Bool) → cond a (option_map (link false 0) read) (cond (eqb (field bytes 0) chain_magic) (cond (may_go_on (field bytes 12) (field bytes 4)) (option_map (link true (field bytes 12)) read) None) None) ≡ Some l → items_at (field bytes 4) (drop 16 bytes) ≡ l.items
    alone true e = same false 0 e
    alone false e =
        let c = passed (eqb (field bytes 0) chain_magic) _ l e in
        same true (field bytes 12) (passed (may_go_on (field bytes 12) (field bytes 4)) _ l c.1).1

-- ---- its entries ascend

-- entries in order after a name
record Ascend (before : Name) (items : List Item) : Type 0 where
  after : list_all (λ other. is_before before other.name) items ≡ true
  ascending : are_ascending items ≡ true

filled_ascend : (count : ℕ) (before : Name) (bytes : List ℕ) → are_filled count before bytes ≡ true → Ascend before (items_at count bytes)
unfolding are_filled items_at
filled_ascend zero before bytes e = record { after = refl; ascending = refl }
filled_ascend (suc count) before bytes e = on (item_at bytes) e (λ b after. filled_ascend count b after)
  where
    on : (read : Option (Item × List ℕ)) → option_map_or (λ x. cond (is_before before x.0.name) (are_filled count x.0.name x.1) false) read false ≡ true
        → ((b : Name) (after : List ℕ) → are_filled count b after ≡ true → Ascend b (items_at count after))
        → Ascend before (option_map_or (λ x. x.0 ∷ items_at count x.1) read [])
    on None filled again = absurd cc
    on (Some x) filled again =
        let g = kept_true (is_before before x.0.name) (are_filled count x.0.name x.1) filled in
        let others = again x.0.name x.1 g.1 in
        record {
          after = and_true _ _ g.0 (all_after before x.0.name (items_at count x.1) g.0 others.after);
          ascending = and_true _ _ others.after others.ascending;
        }

entries_ascend : (count used : ℕ) (bytes : List ℕ) (items : List Item) → entries_at count used bytes ≡ Some items → are_ascending items ≡ true
unfolding entries_at
entries_ascend count used bytes items e =
    let c = not_refused (ltb NODE_ENTRIES count) _ items e in
    let d = passed (eqb used (length bytes)) _ items c.1 in
    let f = passed (are_filled count [] bytes) (Some (items_at count bytes)) items d.1 in
    ap are_ascending (sym (some_is (items_at count bytes) items f.1)) ∙ (filled_ascend count [] bytes f.0).ascending

pub link_ascending : (bytes : List ℕ) (l : Link) → link_at bytes ≡ Some l → are_ascending l.items ≡ true
unfolding link_at
link_ascending bytes l e = alone (eqb (field bytes 0) directory_magic) (not_refused (ltb (length bytes) 16) _ l e).1
  where
    read : Option (List Item)
    read = entries_at (field bytes 4) (field bytes 8) (drop 16 bytes)

    ascends : (chained : Bool) (next : ℕ) → option_map (link chained next) read ≡ Some l → are_ascending l.items ≡ true
    ascends chained next e =
        let is = linked_entries chained next read l e in
        ap (λ (x : Link). are_ascending x.items) (sym is.2) ∙ entries_ascend (field bytes 4) (field bytes 8) (drop 16 bytes) is.0 is.1

    alone : (a : Bool) → cond a (option_map (link false 0) read) (cond (eqb (field bytes 0) chain_magic) (cond (may_go_on (field bytes 12) (field bytes 4)) (option_map (link true (field bytes 12)) read) None) None) ≡ Some l → are_ascending l.items ≡ true
    alone true e = ascends false 0 e
    alone false e =
        let c = passed (eqb (field bytes 0) chain_magic) _ l e in
        ascends true (field bytes 12) (passed (may_go_on (field bytes 12) (field bytes 4)) _ l c.1).1
