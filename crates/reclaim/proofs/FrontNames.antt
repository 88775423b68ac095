-- What the first page of a body's node names is what the node names.
use Rattle.std.proofs.Common.{◌≡◌, ◌≢◌, ◌↔◌, inl, inr, ℕ, ◌+◌, ◌*◌, ◌<◌, ◌≤◌, Bool, true, false, cond, Option, Some, None, List, length, refl, sym, ap, subst, ◌∙◌, arith}
use Rattle.std.specs.Prelude.{◌==◌, nat_lt, nat_le, Contains}
use Rattle.node_format.specs.Headers.{field, body_magic, body_header, body_size, directory_magic, chain_magic, directory_size, IsNode}
use Rattle.node_format.proofs.HeaderLaws.{field-take}
use Rattle.nodes.specs.Parts.{IsFront}
use Rattle.nodes.specs.Bodies.{index_of, pointer_of}
use Rattle.nodes.specs.Reached.{Names, BodyNames}
use Rattle.reclaim.specs.Kinds.{NamesBody}
use Rattle.reclaim.proofs.Soundness.{no_entry, no_next}

-- the node of a body has its header, and the bytes that it uses
pub size_is : (block used n : ℕ) → body_size block used ≡ Some n → n ≡ 80 + used
size_is block used n is = on (nat_lt 0 used) (nat_le (body_header + used) block) is
  where
    on : (t u : Bool) → cond t (cond u (Some (body_header + used)) None) None ≡ Some n → n ≡ 80 + used
    on true true is = let e : body_header + used ≡ n = cc in omega arith
    on true false is = absurd cc
    on false u is = absurd cc

pub body_long : (block : ℕ) (bytes : List ℕ) (index : ℕ) → IsNode block bytes → index_of (Some bytes) ≡ Some index → 80 ≤ length bytes
body_long block bytes index node is = on (field bytes 0 == body_magic) is node
  where
    on : (t : Bool) → cond t (Some (field bytes 4)) None ≡ Some index
        → cond t (body_size block (field bytes 8)) (cond (field bytes 0 == directory_magic) (directory_size block (field bytes 4) (field bytes 8)) (cond (field bytes 0 == chain_magic) (directory_size block (field bytes 4) (field bytes 8)) None)) ≡ Some (length bytes)
        → 80 ≤ length bytes
    on true is size = omega (arith, size_is block (field bytes 8) (length bytes) size)
    on false is size = absurd cc

module _ (page : ℕ) (front bytes : List ℕ) (is : IsFront page front bytes) (room : 80 ≤ page) (long : 80 ≤ length bytes) where
  pub front_field : (place : ℕ) → place + 3 < 80 → field front place ≡ field bytes place
  front_field place within =
      let enough = is.enough in
      sym (field-take front (length bytes) place (omega arith)) ∙ ap (λ (l : List ℕ). field l place) is.alike ∙ field-take bytes (length front) place (omega arith)

  pub front_index : index_of (Some front) ≡ index_of (Some bytes)
  front_index = λ i. cond (front_field 0 (omega arith) i == body_magic) (Some (front_field 4 (omega arith) i)) None

  pub front_pointer : (x : ℕ) → x < 16 → pointer_of (Some front) x ≡ pointer_of (Some bytes) x
  front_pointer x less = front_field (16 + 4 * x) (omega arith)

  -- the slots of both name the same blocks
  slots_same : (o : Option ℕ) (b : ℕ) → BodyNames o (pointer_of (Some front)) b → BodyNames o (pointer_of (Some bytes)) b
  slots_same None b names = names
  slots_same (Some index) b (x, has, at) = (x, has, sym (front_pointer x has.0) ∙ at)

  slots_back : (o : Option ℕ) (b : ℕ) → BodyNames o (pointer_of (Some bytes)) b → BodyNames o (pointer_of (Some front)) b
  slots_back None b names = names
  slots_back (Some index) b (x, has, at) = (x, has, front_pointer x has.0 ∙ at)

  body_to : (b : ℕ) → BodyNames (index_of (Some front)) (pointer_of (Some front)) b → BodyNames (index_of (Some bytes)) (pointer_of (Some bytes)) b
  body_to b names = subst (λ (o : Option ℕ). BodyNames o (pointer_of (Some bytes)) b) front_index (slots_same (index_of (Some front)) b names)

  body_from : (b : ℕ) → BodyNames (index_of (Some bytes)) (pointer_of (Some bytes)) b → BodyNames (index_of (Some front)) (pointer_of (Some front)) b
  body_from b names = subst (λ (o : Option ℕ). BodyNames o (pointer_of (Some front)) b) (sym front_index) (slots_back (index_of (Some bytes)) b names)

  module _ (index : ℕ) (has : index_of (Some bytes) ≡ Some index) where
    to : (b : ℕ) → Names (Some front) b → Names (Some bytes) b
    to b (inl (item, within, names)) = absurd (no_entry (Some front) index item (front_index ∙ has) within)
    to b (inr (inl names)) = inr (inl (body_to b names))
    to b (inr (inr (some, same))) = absurd (no_next (Some front) index (front_index ∙ has) some)

    from : (b : ℕ) → Names (Some bytes) b → Names (Some front) b
    from b (inl (item, within, names)) = absurd (no_entry (Some bytes) index item has within)
    from b (inr (inl names)) = inr (inl (body_from b names))
    from b (inr (inr (some, same))) = absurd (no_next (Some bytes) index has some)

    pub front_names : (b : ℕ) → Names (Some front) b ↔ Names (Some bytes) b
    front_names b = (to b, from b)

    bodies_to : (b : ℕ) → NamesBody (Some front) b → NamesBody (Some bytes) b
    bodies_to b (inl (item, within, names)) = absurd (no_entry (Some front) index item (front_index ∙ has) within)
    bodies_to b (inr names) = inr (body_to b names)

    bodies_from : (b : ℕ) → NamesBody (Some bytes) b → NamesBody (Some front) b
    bodies_from b (inl (item, within, names)) = absurd (no_entry (Some bytes) index item has within)
    bodies_from b (inr names) = inr (body_from b names)

    pub front_bodies : (b : ℕ) → NamesBody (Some front) b ↔ NamesBody (Some bytes) b
    front_bodies b = (bodies_to b, bodies_from b)

-- what a list has that names the same
pub same_list : (list : List ℕ) (P Q : ℕ → Type 0) → ((b : ℕ) → P b ↔ Q b) → ((b : ℕ) → Contains list b ↔ P b) → (b : ℕ) → Contains list b ↔ Q b
same_list list P Q same is b = (λ h. (same b).0 ((is b).0 h), λ h. (is b).1 ((same b).1 h))

-- a node that holds a body
pub record HasFront (page block : ℕ) (front : List ℕ) (node : Option (List ℕ)) : Type 0 where
  pub names : (b : ℕ) → Names (Some front) b ↔ Names node b
  pub bodies : (b : ℕ) → NamesBody (Some front) b ↔ NamesBody node b

pub has_front : (page block index : ℕ) (front : List ℕ) (node : Option (List ℕ)) → 256 ≤ page → index_of node ≡ Some index → ((bytes : List ℕ) → node ≡ Some bytes → IsNode block bytes)
    → ((bytes : List ℕ) → node ≡ Some bytes → IsFront page front bytes) → HasFront page block front node
has_front page block index front None room has whole begins = absurd cc
has_front page block index front (Some bytes) room has whole begins =
    let long = body_long block bytes index (whole bytes refl) has in
    let is = begins bytes refl in
    let header : 80 ≤ page = omega arith in
    record {
      names = front_names page front bytes is header long index has;
      bodies = front_bodies page front bytes is header long index has;
    }

-- a node that was read whole
pub has_bytes : (node : Option (List ℕ)) (bytes : List ℕ) → node ≡ Some bytes → node ≢ None
has_bytes node bytes is none = some_bytes bytes (sym is ∙ none)
  where
    some_bytes : (bytes : List ℕ) → (let o : Option (List ℕ) = Some bytes in o ≡ None) → ⊥
    some_bytes bytes e = cc
