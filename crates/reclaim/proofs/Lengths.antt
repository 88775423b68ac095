-- The files of a directory are not too long, and so the indices of their nodes are small.
use Rattle.std.proofs.Common.{◌≡◌, ◌⊎◌, inl, inr, ℕ, zero, suc, ◌-◌, ◌*◌, ◌<◌, ◌≤◌, cond, Option, Some, None, List, [], ◌∷◌, drop, refl, sym, subst, arith}
use Rattle.std.specs.Prelude.{Contains, eqb, leb}
use Rattle.std.specs.Option.{option_map_or}
use Rattle.std.proofs.Math.Nat.{div-mul-le_self}
use Rattle.std.proofs.lemmas.Bool.{leb-true}
use Rattle.std.proofs.lemmas.Nat.{mul-le}
use Rattle.node_format.specs.Headers.{field}
use Rattle.node_format.specs.Items.{Item}
use Rattle.node_format.specs.Directories.{size_of, name_at, place_at, item_at, items_at}
use Rattle.node_format.specs.Links.{Link, link_at}
use Rattle.node_format.proofs.LinkLaws.{link_items_at}
use Rattle.node_format.specs.declared.place.Place.{Place}
use Rattle.node_format.specs.declared.place.Place.TheVariants.{Dir, File}
use Rattle.fields.specs.Numbers.{byte_at, number_at}
use Rattle.fields.proofs.Found.{bind_some, passed, chosen, some_is}
use Rattle.nodes.specs.Bodies.{head_index}
use Rattle.nodes.specs.Chains.{link_items}
use Rattle.fs_types.specs.declared.limits.TheConstants.{MAX_FILE_BYTES}

-- ---- files

place_short : (kind head size : ℕ) (place : Place) → place_at kind head size ≡ Some place → size_of place ≤ MAX_FILE_BYTES
place_short kind head size place e =
    let file = cond (leb size MAX_FILE_BYTES) (Some (File head size)) None in
    let dir = cond (eqb size 0) (Some (Dir head)) None in
    elim (chosen (eqb kind 1) file (cond (eqb kind 2) dir None) (Some place) e) [
      | inl f ↦
          let own = passed (leb size MAX_FILE_BYTES) (Some (File head size)) place f.1 in
          subst (λ (p : Place). size_of p ≤ MAX_FILE_BYTES) (some_is (File head size) place own.1) (leb-true size MAX_FILE_BYTES own.0)
      | inr d ↦
          let own = passed (eqb size 0) (Some (Dir head)) place (passed (eqb kind 2) dir place d.1).1 in
          subst (λ (p : Place). size_of p ≤ MAX_FILE_BYTES) (some_is (Dir head) place own.1) (omega arith)
    ]

item_short : (bytes : List ℕ) (x : Item × List ℕ) → item_at bytes ≡ Some x → size_of x.0.place ≤ MAX_FILE_BYTES
unfolding item_at
item_short bytes x e =
    let a = bind_some (byte_at bytes) _ x e in
    let b = bind_some (byte_at a.0.1) _ x a.2 in
    let n = bind_some (name_at b.0.0 b.0.1) _ x b.2 in
    let h = bind_some (number_at 4 n.0.1) _ x n.2 in
    let s = bind_some (number_at 4 h.0.1) _ x h.2 in
    let p = bind_some (place_at a.0.0 h.0.0 s.0.0) _ x s.2 in
    let made : Item × List ℕ = (record { name = n.0.0; place = p.0 }, s.0.1) in
    subst (λ (y : Item × List ℕ). size_of y.0.place ≤ MAX_FILE_BYTES) (some_is made x p.2) (place_short a.0.0 h.0.0 s.0.0 p.0 p.1)

-- an item of a list with one more is that one or among the others
first_or : (x : Item) (xs : List Item) (item : Item) → Contains (x ∷ xs) item → (x ≡ item) ⊎ Contains xs item
first_or x xs item (zero, lt, is) = inl is
first_or x xs item (suc k, lt, is) = inr (k, omega (arith, lt), is)

items_short : (count : ℕ) (bytes : List ℕ) (item : Item) → Contains (items_at count bytes) item → size_of item.place ≤ MAX_FILE_BYTES
unfolding items_at
items_short zero bytes item h = absurd (omega (arith, h.1))
items_short (suc count) bytes item h = on (item_at bytes) refl h (λ after. items_short count after item)
  where
    on : (read : Option (Item × List ℕ)) → item_at bytes ≡ read → Contains (option_map_or (λ x. x.0 ∷ items_at count x.1) read []) item
        → ((after : List ℕ) → Contains (items_at count after) item → size_of item.place ≤ MAX_FILE_BYTES) → size_of item.place ≤ MAX_FILE_BYTES
    on None is h again = absurd (omega (arith, h.1))
    on (Some x) is h again = elim (first_or x.0 (items_at count x.1) item h) [
      | inl same ↦ subst (λ (y : Item). size_of y.place ≤ MAX_FILE_BYTES) same (item_short bytes x is)
      | inr other ↦ again x.1 other
    ]

-- no entry of a node is a file that is too long
pub entry_short : (node : Option (List ℕ)) (item : Item) → Contains (link_items node) item → size_of item.place ≤ MAX_FILE_BYTES
entry_short None item h = absurd (omega (arith, h.1))
entry_short (Some bytes) item h = on (link_at bytes) refl h
  where
    on : (o : Option Link) → link_at bytes ≡ o → Contains (option_map_or (λ l. l.items) o []) item → size_of item.place ≤ MAX_FILE_BYTES
    on None is h = absurd (omega (arith, h.1))
    on (Some l) is h = items_short (field bytes 4) (drop 16 bytes) item (subst (λ (items : List Item). Contains items item) (sym (link_items_at bytes l is)) h)

-- ---- indices

-- the head of a file has a small index, and so has each node before it
pub head_short : (capacity n : ℕ) → suc n ≤ MAX_FILE_BYTES → head_index capacity (suc n) * capacity < MAX_FILE_BYTES
head_short capacity n few = omega (arith, div-mul-le_self (suc n - 1) capacity)

pub shorter : (capacity i j : ℕ) → j ≤ i → i * capacity < MAX_FILE_BYTES → j * capacity < MAX_FILE_BYTES
shorter capacity i j le short = omega (arith, mul-le j capacity i capacity le (omega arith), short)
