-- The first entry of a node is told by the first bytes of it.
use Rattle.std.proofs.Common.{◌≡◌, ◌⊎◌, inl, inr, ℕ, zero, suc, ◌+◌, ◌-◌, ◌<◌, ◌≤◌, Bool, true, false, cond, eqb, ltb, leb, Option, Some, None, List, [], ◌∷◌, ◌++◌, length, take, drop, get_or, refl, sym, ap, subst, ◌∙◌, arith}
use Rattle.std.specs.Prelude.{◌&&◌, min, not, nat_le, slice_get}
use Rattle.std.specs.Option.{option_map, option_map_or}
use Rattle.std.proofs.lemmas.Bool.{cases_lt, lt-ltb, le-ltb, le-leb, leb-true, ltb-false, eqb-true}
use Rattle.std.proofs.lemmas.List.{length-append, length-take, length-drop, take-append-le, drop-append-le, take-take, drop-take, drop_all, take_all, nil_from_length, take-append-drop, get_or_append_left}
use Rattle.fs_types.specs.Names.{Name, is_name, is_lawful}
use Rattle.fields.specs.Numbers.{byte_at, number_at}
use Rattle.fields.proofs.Found.{bind_some, some_is, not_refused, passed}
use Rattle.node_format.specs.Headers.{field, chain_magic, directory_magic}
use Rattle.node_format.specs.Items.{Item}
use Rattle.node_format.specs.Order.{both_true}
use Rattle.node_format.specs.Directories.{name_at, place_at, item_at, items_at, entries_at}
use Rattle.node_format.specs.Links.{Link, link, link_at, first_of, may_go_on}
use Rattle.node_format.specs.declared.place.Place.{Place}
use Rattle.node_format.proofs.HeaderLaws.{field-take}
use Rattle.node_format.proofs.LinkLaws.{link_items_at, entries_counted}

-- ---- reading on through bytes that begin alike

-- so many of these bytes are there, or nothing comes after them
abbrev AreEnough : ℕ → List ℕ → List ℕ → Type 0
AreEnough n p s = (n ≤ length p) ⊎ (s ≡ [])

byte_alike : (n : ℕ) (p s t : List ℕ) (b : ℕ) (rest : List ℕ) → AreEnough (suc n) p s → byte_at (p ++ s) ≡ Some (b, rest)
    → (q : List ℕ) × (rest ≡ q ++ s) × AreEnough n q s × (byte_at (p ++ t) ≡ Some (b, q ++ t))
byte_alike n [] s t b rest (inl le) e = absurd (omega (arith, le))
byte_alike n [] s t b rest (inr none) e = absurd (let h : byte_at [] ≡ Some (b, rest) = ap byte_at (sym none) ∙ e in cc)
byte_alike n (x ∷ q) s t b rest enough e =
    let pair : (x, q ++ s) ≡ (b, rest) = some_is (x, q ++ s) (b, rest) e in
    (q, ap (λ (y : ℕ × List ℕ). y.1) (sym pair), less enough, ap (λ (y : ℕ × List ℕ). Some (y.0, q ++ t)) pair)
  where
    less : AreEnough (suc n) (x ∷ q) s → AreEnough n q s
    less (inl le) = inl (omega (arith, le))
    less (inr none) = inr none

-- so many bytes are among the first ones
within : (k n : ℕ) (p s : List ℕ) → k ≤ n → AreEnough n p s → k ≤ length (p ++ s) → k ≤ length p
within k n p s le (inl all) long = omega arith
within k n p s le (inr none) long = omega (arith, long, length-append p s, ap length none)

left : (k n : ℕ) (p s : List ℕ) → AreEnough (k + n) p s → AreEnough n (drop k p) s
left k n p s (inl all) = inl (omega (arith, all, length-drop k p))
left k n p s (inr none) = inr none

number_alike : (n : ℕ) (p s t : List ℕ) (v : ℕ) (rest : List ℕ) → AreEnough (4 + n) p s → number_at 4 (p ++ s) ≡ Some (v, rest)
    → (q : List ℕ) × (rest ≡ q ++ s) × AreEnough n q s × (number_at 4 (p ++ t) ≡ Some (v, q ++ t))
number_alike n p s t v rest enough e =
    let a = not_refused (ltb (length (p ++ s)) 4) _ _ e in
    let long : 4 ≤ length p = within 4 (4 + n) p s (omega arith) enough (ltb-false _ _ a.0) in
    let pair = some_is _ (v, rest) a.1 in
    let some : ltb (length (p ++ t)) 4 ≡ false = le-ltb _ _ (omega (arith, long, length-append p t)) in
    let at : (i : ℕ) → i < 4 → get_or (p ++ t) i 0 ≡ get_or (p ++ s) i 0 = λ i less. get_or_append_left p t 0 i (omega arith) ∙ sym (get_or_append_left p s 0 i (omega arith)) in
    let e0 = at 0 (omega arith) in
    let e1 = at 1 (omega arith) in
    let e2 = at 2 (omega arith) in
    let e3 = at 3 (omega arith) in (
      drop 4 p,
      sym (ap (λ (y : ℕ × List ℕ). y.1) pair) ∙ drop-append-le 4 p s long,
      left 4 n p s enough,
      rw (some, drop-append-le 4 p t long) (ap (λ (k : ℕ). Some (k, drop 4 p ++ t)) (omega (arith, e0, e1, e2, e3, ap (λ (y : ℕ × List ℕ). y.0) pair))),
    )

name_alike : (n size : ℕ) (p s t : List ℕ) (name : Name) (rest : List ℕ) → AreEnough (64 + n) p s → name_at size (p ++ s) ≡ Some (name, rest)
    → (q : List ℕ) × (rest ≡ q ++ s) × AreEnough n q s × (name_at size (p ++ t) ≡ Some (name, q ++ t))
name_alike n size p s t name rest enough e =
    let a = not_refused (ltb (length (p ++ s)) size) _ _ e in
    let b = passed (is_name (take size (p ++ s))) _ _ a.1 in
    let pair = some_is _ (name, rest) b.1 in
    let short = leb-true _ _ (both_true (is_lawful (take size (p ++ s))) _ b.0).1 in
    let there : size ≤ length (p ++ s) = ltb-false _ _ a.0 in
    let few : size ≤ 64 = omega (arith, short, there, length-take size (p ++ s)) in
    let long : size ≤ length p = within size (64 + n) p s (omega arith) enough there in
    let some : ltb (length (p ++ t)) size ≡ false = le-ltb _ _ (omega (arith, long, length-append p t)) in
    let same : take size (p ++ t) ≡ take size (p ++ s) = take-append-le size p t long ∙ sym (take-append-le size p s long) in
    let lawful : is_name (take size (p ++ t)) ≡ true = ap is_name same ∙ b.0 in (
      drop size p,
      sym (ap (λ (y : Name × List ℕ). y.1) pair) ∙ drop-append-le size p s long,
      rest_enough few enough,
      rw (some, lawful, drop-append-le size p t long) (ap (λ (k : List ℕ). Some (k, drop size p ++ t)) (same ∙ ap (λ (y : Name × List ℕ). y.0) pair)),
    )
  where
    rest_enough : size ≤ 64 → AreEnough (64 + n) p s → AreEnough n (drop size p) s
    rest_enough few (inl all) = inl (omega (arith, all, few, length-drop size p))
    rest_enough few (inr none) = inr none

-- an entry has at most 74 bytes
pub item_alike : (p s t : List ℕ) (x : Item × List ℕ) → AreEnough 74 p s → item_at (p ++ s) ≡ Some x → (rest : List ℕ) × (item_at (p ++ t) ≡ Some (x.0, rest))
unfolding item_at
item_alike p s t x enough e =
    let a = bind_some (byte_at (p ++ s)) _ x e in
    let a' = byte_alike 73 p s t a.0.0 a.0.1 enough a.1 in
    let b = bind_some (byte_at a.0.1) _ x a.2 in
    let b' = byte_alike 72 a'.0 s t b.0.0 b.0.1 a'.2 (ap byte_at (sym a'.1) ∙ b.1) in
    let n = bind_some (name_at b.0.0 b.0.1) _ x b.2 in
    let n' = name_alike 8 b.0.0 b'.0 s t n.0.0 n.0.1 b'.2 (ap (name_at b.0.0) (sym b'.1) ∙ n.1) in
    let h = bind_some (number_at 4 n.0.1) _ x n.2 in
    let h' = number_alike 4 n'.0 s t h.0.0 h.0.1 n'.2 (ap (number_at 4) (sym n'.1) ∙ h.1) in
    let z = bind_some (number_at 4 h.0.1) _ x h.2 in
    let z' = number_alike 0 h'.0 s t z.0.0 z.0.1 h'.2 (ap (number_at 4) (sym h'.1) ∙ z.1) in
    let place = bind_some (place_at a.0.0 h.0.0 z.0.0) _ x z.2 in
    let made : Item × List ℕ = (record { name = n.0.0; place = place.0 }, z.0.1) in
    let item : made.0 ≡ x.0 = ap (λ (y : Item × List ℕ). y.0) (some_is made x place.2) in
    (z'.0 ++ t, rw a'.3 (rw b'.3 (rw n'.3 (rw h'.3 (rw z'.3 (rw place.1 (ap (λ (i : Item). Some (i, z'.0 ++ t)) item)))))))

-- ---- what a node says

linked : (chained : Bool) (next count used : ℕ) (bytes : List ℕ) (l : Link) → option_map (link chained next) (entries_at count used bytes) ≡ Some l → (l.chained ≡ chained) × (length l.items ≡ count)
linked chained next count used bytes l e = on (entries_at count used bytes) refl e
  where
    on : (o : Option (List Item)) → entries_at count used bytes ≡ o → option_map (link chained next) o ≡ Some l → (l.chained ≡ chained) × (length l.items ≡ count)
    on None is e = absurd cc
    on (Some items) is e =
        let same = some_is (link chained next items) l e in
        (ap (λ (k : Link). k.chained) (sym same), ap (λ (k : Link). length k.items) (sym same) ∙ (entries_counted count used bytes items is).0)

link_says : (bytes : List ℕ) (l : Link) → link_at bytes ≡ Some l → (16 ≤ length bytes) × ((l.chained ≡ eqb (field bytes 0) chain_magic) × (length l.items ≡ field bytes 4))
unfolding link_at
link_says bytes l e =
    let a = not_refused (ltb (length bytes) 16) _ l e in
    (ltb-false _ _ a.0, alone (eqb (field bytes 0) directory_magic) refl a.1)
  where
    read : Option (List Item)
    read = entries_at (field bytes 4) (field bytes 8) (drop 16 bytes)

    alone : (a : Bool) → eqb (field bytes 0) directory_magic ≡ a
        → cond a (option_map (link false 0) read) (cond (eqb (field bytes 0) chain_magic) (cond (may_go_on (field bytes 12) (field bytes 4)) (option_map (link true (field bytes 12)) read) None) None) ≡ Some l
        → (l.chained ≡ eqb (field bytes 0) chain_magic) × (length l.items ≡ field bytes 4)
    alone true is e =
        let own = linked false 0 (field bytes 4) (field bytes 8) (drop 16 bytes) l e in
        (own.0 ∙ ap (λ (m : ℕ). eqb m chain_magic) (sym (eqb-true _ _ is)), own.1)
    alone false is e =
        let c = passed (eqb (field bytes 0) chain_magic) _ l e in
        let own = linked true (field bytes 12) (field bytes 4) (field bytes 8) (drop 16 bytes) l (passed (may_go_on (field bytes 12) (field bytes 4)) _ l c.1).1 in
        (own.0 ∙ sym c.0, own.1)

-- the first of so many entries
first_item : (count : ℕ) (bytes : List ℕ) → option_map (λ (item : Item). item.name) (slice_get (items_at (suc count) bytes) 0) ≡ option_map (λ (x : Item × List ℕ). x.0.name) (item_at bytes)
unfolding items_at
first_item count bytes = on (item_at bytes)
  where
    on : (read : Option (Item × List ℕ)) → option_map (λ (item : Item). item.name) (slice_get (option_map_or (λ x. x.0 ∷ items_at count x.1) read []) 0) ≡ option_map (λ (x : Item × List ℕ). x.0.name) read
    on None = refl
    on (Some x) = refl

items_none : (count : ℕ) (bytes : List ℕ) → item_at bytes ≡ None → items_at (suc count) bytes ≡ []
unfolding items_at
items_none count bytes none = rw none refl

-- ---- what its first bytes say

-- these bytes begin as a node does, as far as both go
pub record AreAlike (front bytes : List ℕ) : Type 0 where
  pub same : take (length bytes) front ≡ take (length front) bytes
  pub enough : min 90 (length bytes) ≤ length front

taken_alike : (n : ℕ) (front bytes : List ℕ) → AreAlike front bytes → n ≤ length front → n ≤ length bytes → take n front ≡ take n bytes
taken_alike n front bytes alike below within =
    sym (take-take n (length bytes) front within) ∙ ap (take n) alike.same ∙ take-take n (length front) bytes below

field_alike : (place : ℕ) (front bytes : List ℕ) → AreAlike front bytes → 16 ≤ length bytes → place + 3 < 16 → field front place ≡ field bytes place
field_alike place front bytes alike long within =
    sym (field-take front 16 place within) ∙ ap (λ (l : List ℕ). field l place) (taken_alike 16 front bytes alike (omega (arith, alike.enough)) long) ∙ field-take bytes 16 place within

-- the entry that comes first
entry_alike : (front bytes : List ℕ) (x : Item × List ℕ) → AreAlike front bytes → 16 ≤ length bytes → item_at (drop 16 bytes) ≡ Some x → (rest : List ℕ) × (item_at (drop 16 front) ≡ Some (x.0, rest))
entry_alike front bytes x alike long is =
    let found = item_alike p (drop 74 xs) (drop n ys) x enough (ap item_at (take-append-drop 74 xs) ∙ is) in
    (found.0, ap item_at (sym (take-append-drop n ys) ∙ ap (λ (l : List ℕ). l ++ drop n ys) begins) ∙ found.1)
  where
    xs : List ℕ
    xs = drop 16 bytes

    ys : List ℕ
    ys = drop 16 front

    p : List ℕ
    p = take 74 xs

    n : ℕ
    n = length p

    size : n ≡ min 74 (length bytes - 16)
    size = length-take 74 xs ∙ ap (min 74) (length-drop 16 bytes)

    begins : take n ys ≡ p
    begins =
        sym (drop-take 16 n front) ∙ ap (drop 16) (taken_alike (16 + n) front bytes alike (omega (arith, size, alike.enough, long)) (omega (arith, size, long))) ∙ drop-take 16 n bytes
        ∙ sym (take-take n 74 xs (omega (arith, size))) ∙ take_all n p (omega arith)

    enough : AreEnough 74 p (drop 74 xs)
    enough = elim (cases_lt (length xs) 74) [ inl short ↦ inr (drop_all 74 xs (omega arith)) | inr all ↦ inl (omega (arith, length-take 74 xs, all)) ]

-- whether a node of a chain begins so that has entries
abbrev pub begins_entries : List ℕ → Bool
begins_entries front = nat_le 16 (length front) && (eqb (field front 0) chain_magic && ltb 0 (field front 4))

pub first_shown : (front bytes : List ℕ) (l : Link) → AreAlike front bytes → link_at bytes ≡ Some l
    → cond (begins_entries front) (option_map (λ (x : Item × List ℕ). x.0.name) (item_at (drop 16 front))) None ≡ first_of l
first_shown front bytes l alike is = on (eqb (field bytes 0) chain_magic) refl (field bytes 4) refl
  where
    says : (16 ≤ length bytes) × ((l.chained ≡ eqb (field bytes 0) chain_magic) × (length l.items ≡ field bytes 4))
    says = link_says bytes l is

    long : nat_le 16 (length front) ≡ true
    long = le-leb _ _ (omega (arith, alike.enough, says.0))

    test : begins_entries front ≡ (eqb (field bytes 0) chain_magic && ltb 0 (field bytes 4))
    test = λ i. long i && (eqb (field_alike 0 front bytes alike says.0 (omega arith) i) chain_magic && ltb 0 (field_alike 4 front bytes alike says.0 (omega arith) i))

    on : (chained : Bool) → eqb (field bytes 0) chain_magic ≡ chained → (count : ℕ) → field bytes 4 ≡ count
        → cond (begins_entries front) (option_map (λ (x : Item × List ℕ). x.0.name) (item_at (drop 16 front))) None ≡ first_of l
    on false other count counted =
        let not_begun : begins_entries front ≡ false = test ∙ rw other refl in
        let alone : l.chained ≡ false = says.1.0 ∙ other in
        rw (not_begun, alone) refl
    on true same zero counted =
        let not_begun : begins_entries front ≡ false = test ∙ rw (same, counted) refl in
        let chained : l.chained ≡ true = says.1.0 ∙ same in
        let none : l.items ≡ [] = nil_from_length l.items (says.1.1 ∙ counted) in
        rw (not_begun, chained, none) refl
    on true same (suc count) counted =
        let some : ltb 0 (field bytes 4) ≡ true = lt-ltb 0 (field bytes 4) (omega (arith, counted)) in
        let begun : begins_entries front ≡ true = test ∙ rw (same, some) refl in
        let chained : l.chained ≡ true = says.1.0 ∙ same in
        rw (begun, chained) (read (item_at (drop 16 bytes)) refl ∙ sym (first_item count (drop 16 bytes)) ∙ ap (λ (xs : List Item). option_map (λ (item : Item). item.name) (slice_get xs 0)) items)
      where
        items : items_at (suc count) (drop 16 bytes) ≡ l.items
        items = ap (λ (n : ℕ). items_at n (drop 16 bytes)) (sym counted) ∙ link_items_at bytes l is

        read : (o : Option (Item × List ℕ)) → item_at (drop 16 bytes) ≡ o → option_map (λ (x : Item × List ℕ). x.0.name) (item_at (drop 16 front)) ≡ option_map (λ (x : Item × List ℕ). x.0.name) (item_at (drop 16 bytes))
        read None none =
            let nothing : length (items_at (suc count) (drop 16 bytes)) ≡ 0 = ap length (items_none count (drop 16 bytes) none) in
            absurd (omega (arith, nothing, ap length items, says.1.1, counted))
        read (Some x) some =
            let own = entry_alike front bytes x alike says.0 some in
            rw (own.1, some) refl

module _ (front bytes : List ℕ) (l : Link) (begun : Bool) (alike : AreAlike front bytes) (is : link_at bytes ≡ Some l) (test : begun ≡ begins_entries front) where
  pub first_none : begun ≡ false → None ≡ first_of l
  first_none not_begun =
      ap (λ (t : Bool). cond t (option_map (λ (x : Item × List ℕ). x.0.name) (item_at (drop 16 front))) None) (sym not_begun ∙ test) ∙ first_shown front bytes l alike is

  pub first_some : begun ≡ true → option_map (λ (x : Item × List ℕ). x.0.name) (item_at (drop 16 front)) ≡ first_of l
  first_some is_begun =
      ap (λ (t : Bool). cond t (option_map (λ (x : Item × List ℕ). x.0.name) (item_at (drop 16 front))) None) (sym is_begun ∙ test) ∙ first_shown front bytes l alike is

-- the rest of a slice
pub after_header : (front : List ℕ) → take (length front - 16) (drop 16 front) ≡ drop 16 front
after_header front = take_all (length front - 16) (drop 16 front) (omega (arith, length-drop 16 front))
