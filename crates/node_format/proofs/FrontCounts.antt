-- How many entries a node of a directory has, and the block of the node after it, by its first bytes.
use Rattle.std.proofs.Common.{◌≡◌, ℕ, ◌+◌, ◌<◌, ◌≤◌, Bool, true, false, cond, eqb, ltb, Option, Some, None, List, length, take, drop, refl, sym, ap, ◌∙◌, arith}
use Rattle.std.specs.Prelude.{min}
use Rattle.std.specs.Option.{option_map}
use Rattle.std.proofs.lemmas.Bool.{le-ltb, ltb-false}
use Rattle.std.proofs.lemmas.List.{take-take}
use Rattle.fields.proofs.Found.{some_is, not_refused, passed}
use Rattle.fs_types.specs.declared.limits.TheConstants.{NODE_ENTRIES}
use Rattle.node_format.specs.Headers.{field, chain_magic, directory_magic}
use Rattle.node_format.specs.Items.{Item}
use Rattle.node_format.specs.Directories.{entries_at}
use Rattle.node_format.specs.Links.{Link, link, link_at, header_says, may_go_on}
use Rattle.node_format.proofs.HeaderLaws.{field-take}
use Rattle.node_format.proofs.LinkLaws.{entries_counted}

-- a field of the first 16 bytes is the same in what begins alike
same_field : (front bytes : List ℕ) → take (length bytes) front ≡ take (length front) bytes → 16 ≤ length front → 16 ≤ length bytes → (place : ℕ) → place + 3 < 16 → field front place ≡ field bytes place
same_field front bytes same enough long place within =
    sym (field-take front 16 place within)
    ∙ ap (λ (l : List ℕ). field l place) (sym (take-take 16 (length bytes) front long) ∙ ap (take 16) same ∙ take-take 16 (length front) bytes enough)
    ∙ field-take bytes 16 place within

-- so many entries, and the block of the node after them
abbrev pair : ℕ → ℕ → Option (ℕ × ℕ)
pair count next = Some (count, next)

-- what a header with these fields says, by its magic
abbrev says_of : ℕ → ℕ → Bool → Bool → Option (ℕ × ℕ)
says_of count next alone chained = cond {A = Option (ℕ × ℕ)} (ltb NODE_ENTRIES count) None (cond {A = Option (ℕ × ℕ)} alone (pair count 0) (cond {A = Option (ℕ × ℕ)} chained (pair count next) None))

-- what a node of so many entries has
linked : (chained : Bool) (next count used : ℕ) (bytes : List ℕ) (l : Link) → option_map (link chained next) (entries_at count used bytes) ≡ Some l → (count ≤ NODE_ENTRIES) × (pair count next ≡ pair (length l.items) l.next)
linked chained next count used bytes l e = on (entries_at count used bytes) refl e
  where
    on : (o : Option (List Item)) → entries_at count used bytes ≡ o → option_map (link chained next) o ≡ Some l → (count ≤ NODE_ENTRIES) × (pair count next ≡ pair (length l.items) l.next)
    on None is e = absurd cc
    on (Some items) is e =
        let counted = entries_counted count used bytes items is in
        (counted.1, ap (λ (n : ℕ). pair n next) (sym counted.0) ∙ ap (λ (k : Link). pair (length k.items) k.next) (some_is (link chained next items) l e))

-- what the header of a node says is so
pub header_true : (bytes : List ℕ) (l : Link) → link_at bytes ≡ Some l → (16 ≤ length bytes) × (header_says bytes ≡ pair (length l.items) l.next)
unfolding link_at
header_true bytes l e =
    let a = not_refused (ltb (length bytes) 16) _ l e in
    (ltb-false _ _ a.0, rw a.0 (alone (eqb (field bytes 0) directory_magic) refl a.1))
  where
    read : Option (List Item)
    read = entries_at (field bytes 4) (field bytes 8) (drop 16 bytes)

    alone : (a : Bool) → eqb (field bytes 0) directory_magic ≡ a
        → cond a (option_map (link false 0) read) (cond (eqb (field bytes 0) chain_magic) (cond (may_go_on (field bytes 12) (field bytes 4)) (option_map (link true (field bytes 12)) read) None) None) ≡ Some l
        → says_of (field bytes 4) (field bytes 12) (eqb (field bytes 0) directory_magic) (eqb (field bytes 0) chain_magic) ≡ pair (length l.items) l.next
    alone true is e =
        let own = linked false 0 (field bytes 4) (field bytes 8) (drop 16 bytes) l e in
        rw (le-ltb NODE_ENTRIES (field bytes 4) own.0, is) own.1
    alone false is e =
        let c = passed (eqb (field bytes 0) chain_magic) _ l e in
        let own = linked true (field bytes 12) (field bytes 4) (field bytes 8) (drop 16 bytes) l (passed (may_go_on (field bytes 12) (field bytes 4)) _ l c.1).1 in
        rw (le-ltb NODE_ENTRIES (field bytes 4) own.0, is, c.0) own.1

-- and so is what the header of its beginning says
pub front_true : (front bytes : List ℕ) (l : Link) → take (length bytes) front ≡ take (length front) bytes → min 16 (length bytes) ≤ length front → link_at bytes ≡ Some l → header_says front ≡ Some (length l.items, l.next)
front_true front bytes l same enough is =
    let says = header_true bytes l is in
    let all : 16 ≤ length front = omega (arith, enough, says.0) in
    let field_is = same_field front bytes same all says.0 in
    rw (le-ltb (length front) 16 all, field_is 4 (omega arith), field_is 0 (omega arith), field_is 12 (omega arith))
    (ap (λ (b : Bool). cond {A = Option (ℕ × ℕ)} b None (says_of (field bytes 4) (field bytes 12) (eqb (field bytes 0) directory_magic) (eqb (field bytes 0) chain_magic))) (sym (le-ltb (length bytes) 16 says.0)) ∙ says.1)
