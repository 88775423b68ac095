-- Directories are read node by node: each comes after the one before it, by its first name.
use Rattle.std.proofs.Common.{◌≡◌, ◌≢◌, ◌↔◌, ◌⊎◌, inl, inr, ℕ, zero, suc, ◌<◌, Bool, true, false, cond, eqb, Option, Some, None, List, [], ◌∷◌, ◌++◌, length, refl, sym, ap, subst, ◌∙◌, arith}
use Rattle.std.specs.Prelude.{IsTrue, nat_lt}
use Rattle.std.specs.Option.{option_map, option_map_or}
use Rattle.std.specs.List.{list_all}
use Rattle.std.proofs.lemmas.Bool.{true≢false, ltb-true}
use Rattle.fs_types.specs.Names.{Name}
use Rattle.node_format.specs.Items.{Item, is_before, are_ascending}
use Rattle.node_format.specs.Order.{both_true, and_true, all_after, ascending_parts}
use Rattle.node_format.specs.Links.{Link}
use Rattle.node_format.proofs.LinkLaws.{link_ascending}
use Rattle.nodes.specs.Bodies.{Blocks}
use Rattle.nodes.specs.Chains.{link_of, is_later, entries_after, most_after}
use Rattle.nodes.proofs.Chains.{by_test, same_items, first_parts, first_law}
use Rattle.nodes.proofs.ChainCounts.{linked_filled}
use Rattle.reclaim.specs.Looks.{last_name, are_after, may_follow, edge_of}
use Rattle.reclaim.specs.Sound.{IsDirectoryAt}

-- ---- order across two lists

-- a name before the first of names that ascend is before each
before_all : (name : Name) (items : List Item) → are_after name items ≡ true → are_ascending items ≡ true → list_all (λ other. is_before name other.name) items ≡ true
before_all name [] entries_after order = refl
before_all name (item ∷ items) entries_after order =
    let parts = both_true (list_all (λ other. is_before item.name other.name) items) (are_ascending items) order in
    and_true _ _ entries_after (all_after name item.name items entries_after parts.0)

first_after : (name : Name) (front back : List Item) → are_ascending front ≡ true → list_all (λ other. is_before name other.name) front ≡ true → are_after (last_name name front) back ≡ true → are_after name (front ++ back) ≡ true
first_after name [] back order all entries_after = entries_after
first_after name (item ∷ front) back order all entries_after = (both_true (is_before name item.name) (list_all (λ other. is_before name other.name) front) all).0

joined : (before : Name) (front back : List Item) → are_ascending front ≡ true → are_ascending back ≡ true → are_after (last_name before front) back ≡ true → are_ascending (front ++ back) ≡ true
joined before [] back f b entries_after = b
joined before (item ∷ front) back f b entries_after =
    let own = both_true (list_all (λ other. is_before item.name other.name) front) (are_ascending front) f in
    let rest = joined item.name front back own.1 b entries_after in
    and_true _ _ (before_all item.name (front ++ back) (first_after item.name front back own.1 own.0 entries_after) rest) rest

parted : (before : Name) (item : Item) (front back : List Item) → are_ascending ((item ∷ front) ++ back) ≡ true → are_after (last_name before (item ∷ front)) back ≡ true
parted before item [] [] order = refl
parted before item [] (first ∷ back) order =
    let own = both_true (list_all (λ other. is_before item.name other.name) (first ∷ back)) (are_ascending (first ∷ back)) order in
    (both_true (is_before item.name first.name) (list_all (λ other. is_before item.name other.name) back) own.0).0
parted before item (next ∷ front) back order =
    let own = both_true (list_all (λ other. is_before item.name other.name) ((next ∷ front) ++ back)) (are_ascending ((next ∷ front) ++ back)) order in
    parted item.name next front back own.1

-- entries come after a name where the first of them do
after_front : (name : Name) (front back : List Item) → 0 < length front → are_after name (front ++ back) ≡ are_after name front
after_front name [] back some = absurd (omega (arith, some))
after_front name (item ∷ front) back some = refl

-- there is a last name where there are entries
last_parted : (front back : List Item) → 0 < length front → are_ascending (front ++ back) ≡ true → are_after (last_name [] front) back ≡ true
last_parted [] back some order = absurd (omega (arith, some))
last_parted (item ∷ front) back some order = parted [] item front back order

-- ---- the nodes after one

-- what a node says that comes after another with this last name; none where it may not
abbrev pub edge_after : Name → Option Link → Option (Name × ℕ)
edge_after name link = cond (may_follow name link) (option_map edge_of link) None

-- the nodes from a block on make an end, after a name
unfoldable pub goes_on : ℕ → Blocks → Name × ℕ → Bool
goes_on zero f edge = eqb edge.1 0
goes_on (suc n) f edge = cond (eqb edge.1 0) true (option_map_or (goes_on n f) (edge_after edge.0 (link_of (f edge.1))) false)

-- their entries come after a name
abbrev IsEnd : ℕ → Blocks → Name × ℕ → Type 0
IsEnd n f edge = (more : List Item) × (entries_after n f edge.1 ≡ Some more) × (are_ascending more ≡ true) × (are_after edge.0 more ≡ true)

abbrev some_items : List Item → Option (List Item)
some_items items = Some items

abbrev some_link : Link → Option Link
some_link l = Some l

link_is : (x y : Link) → some_link x ≡ some_link y → x ≡ y
link_is x y e = cc

ends : (n : ℕ) (f : Blocks) (edge : Name × ℕ) → eqb edge.1 0 ≡ true → (goes_on n f edge ≡ true) × IsEnd n f edge
unfolding goes_on
ends zero f edge none = (none, ([], rw none refl, refl, refl))
ends (suc n) f edge none = (rw none refl, ([], rw none refl, refl, refl))

may_parts : (name : Name) (l : Link) → may_follow name (Some l) ≡ true → (is_later l ≡ true) × (are_after name l.items ≡ true)
may_parts name l may = both_true (is_later l) (are_after name l.items) may

later_some : (l : Link) → is_later l ≡ true → 0 < length l.items
later_some l is = ltb-true 0 (length l.items) (both_true l.chained (nat_lt 0 (length l.items)) is).1

linked_ascending : (node : Option (List ℕ)) (l : Link) → link_of node ≡ Some l → are_ascending l.items ≡ true
linked_ascending None l e = absurd cc
linked_ascending (Some bytes) l e = link_ascending bytes l e

mapped : (front : List Item) (o : Option (List Item)) (z : List Item) → option_map (λ more. front ++ more) o ≡ Some z → (m : List Item) × (o ≡ Some m) × (z ≡ front ++ m)
mapped front None z e = absurd cc
mapped front (Some m) z e = (m, refl, sym (same_items (front ++ m) z e))

-- one node more
one_to : (n : ℕ) (f : Blocks) (edge : Name × ℕ) (l : Link) → eqb edge.1 0 ≡ false → link_of (f edge.1) ≡ Some l → may_follow edge.0 (Some l) ≡ true → IsEnd n f (edge_of l) → IsEnd (suc n) f edge
one_to n f edge l some is may (more, rest, order, comes) =
    let parts = may_parts edge.0 l may in
    let own = linked_ascending (f edge.1) l is in (
      l.items ++ more,
      rw (some, is, parts.0, rest) refl,
      joined [] l.items more own order comes,
      after_front edge.0 l.items more (later_some l parts.0) ∙ parts.1,
    )

one_from : (n : ℕ) (f : Blocks) (edge : Name × ℕ) (l : Link) → eqb edge.1 0 ≡ false → link_of (f edge.1) ≡ Some l → IsEnd (suc n) f edge → (may_follow edge.0 (Some l) ≡ true) × IsEnd n f (edge_of l)
one_from n f edge l some is (items, rest, order, comes) = by_test (is_later l) good (λ bad. absurd (let none : None ≡ some_items items = sym (whole ∙ ap (λ (t : Bool). cond t (option_map (λ more. l.items ++ more) (entries_after n f l.next)) None) bad) ∙ rest in cc))
  where
    whole : entries_after (suc n) f edge.1 ≡ cond (is_later l) (option_map (λ more. l.items ++ more) (entries_after n f l.next)) None
    whole = rw (some, is) refl

    good : is_later l ≡ true → (may_follow edge.0 (Some l) ≡ true) × IsEnd n f (edge_of l)
    good has =
        let own = mapped l.items (entries_after n f l.next) items (sym (whole ∙ ap (λ (t : Bool). cond t (option_map (λ more. l.items ++ more) (entries_after n f l.next)) None) has) ∙ rest) in
        let held = later_some l has in
        let all : are_ascending (l.items ++ own.0) ≡ true = ap are_ascending (sym own.2) ∙ order in (
          and_true (is_later l) (are_after edge.0 l.items) has (sym (after_front edge.0 l.items own.0 held) ∙ ap (are_after edge.0) (sym own.2) ∙ comes),
          (own.0, own.1, (ascending_parts l.items own.0 all).back_ascends, last_parted l.items own.0 held all),
        )

no_node : (n : ℕ) (f : Blocks) (edge : Name × ℕ) → eqb edge.1 0 ≡ false → link_of (f edge.1) ≡ None → IsEnd (suc n) f edge → ⊥
no_node n f edge some none (items, rest, order, comes) = let nothing : None ≡ some_items items = sym (rw (some, none) refl) ∙ rest in cc

ended : (t : Bool) (more : List Item) → cond t (Some []) None ≡ some_items more → t ≡ true
ended true more e = refl
ended false more e = absurd cc

pub end_exact : (n : ℕ) (f : Blocks) (edge : Name × ℕ) → IsTrue (goes_on n f edge) ↔ IsEnd n f edge
unfolding goes_on
end_exact zero f edge = (λ t. (ends zero f edge t).1, λ h. ended (eqb edge.1 0) h.0 h.1)
end_exact (suc n) f edge = by_test (eqb edge.1 0)
    (λ none. (λ t. (ends (suc n) f edge none).1, λ h. (ends (suc n) f edge none).0))
    (λ some. on some (link_of (f edge.1)) refl (end_exact n f))
  where
    on : eqb edge.1 0 ≡ false → (o : Option Link) → link_of (f edge.1) ≡ o → ((next : Name × ℕ) → IsTrue (goes_on n f next) ↔ IsEnd n f next) → IsTrue (goes_on (suc n) f edge) ↔ IsEnd (suc n) f edge
    on some None is again = (
      λ t. absurd (true≢false (sym t ∙ rw (some, is) refl)),
      λ h. absurd (no_node n f edge some is h),
    )
    on some (Some l) is again = by_test (may_follow edge.0 (Some l)) follows fails
      where
        whole : goes_on (suc n) f edge ≡ option_map_or (goes_on n f) (cond (may_follow edge.0 (Some l)) (Some (edge_of l)) None) false
        whole = rw (some, is) refl

        follows : may_follow edge.0 (Some l) ≡ true → IsTrue (goes_on (suc n) f edge) ↔ IsEnd (suc n) f edge
        follows may =
            let same : goes_on (suc n) f edge ≡ goes_on n f (edge_of l) = whole ∙ ap (λ (t : Bool). option_map_or (goes_on n f) (cond t (Some (edge_of l)) None) false) may in
            (λ t. one_to n f edge l some is may ((again (edge_of l)).0 (sym same ∙ t)), λ h. same ∙ (again (edge_of l)).1 (one_from n f edge l some is h).1)

        fails : may_follow edge.0 (Some l) ≡ false → IsTrue (goes_on (suc n) f edge) ↔ IsEnd (suc n) f edge
        fails may =
            let same : goes_on (suc n) f edge ≡ false = whole ∙ ap (λ (t : Bool). option_map_or (goes_on n f) (cond t (Some (edge_of l)) None) false) may in
            (λ t. absurd (true≢false (sym t ∙ same)), λ h. absurd (true≢false (sym (one_from n f edge l some is h).0 ∙ may)))

-- ---- the whole directory

none_after : (n : ℕ) (f : Blocks) (more : List Item) → entries_after n f 0 ≡ Some more → more ≡ []
none_after zero f more e = sym (same_items [] more e)
none_after (suc n) f more e = sym (same_items [] more e)

-- a directory begins with a node where the nodes after it go on
pub begun_exact : (f : Blocks) (block : ℕ) (l : Link) → link_of (f block) ≡ Some l → IsTrue (goes_on most_after f (edge_of l)) ↔ IsDirectoryAt f block
begun_exact f block l is = (λ t. to ((end_exact most_after f (edge_of l)).0 t), λ h. (end_exact most_after f (edge_of l)).1 (from h))
  where
    to : IsEnd most_after f (edge_of l) → IsDirectoryAt f block
    to (more, rest, order, comes) =
        (l.items ++ more, first_law f most_after block l more (omega arith) is rest (joined [] l.items more (linked_ascending (f block) l is) order comes))

    last : (front back : List Item) → (0 < length front) ⊎ (back ≡ []) → are_ascending (front ++ back) ≡ true → are_after (last_name [] front) back ≡ true
    last front back (inl some) order = last_parted front back some order
    last front back (inr none) order = ap (are_after (last_name [] front)) none

    from : IsDirectoryAt f block → IsEnd most_after f (edge_of l)
    from (items, e) =
        let p = first_parts f block items e in
        let same : p.l ≡ l = link_is p.l l (sym p.is ∙ is) in
        let rest : entries_after most_after f l.next ≡ Some p.more = subst (λ (k : Link). entries_after most_after f k.next ≡ Some p.more) same p.rest in
        let all : are_ascending (l.items ++ p.more) ≡ true = subst (λ (k : Link). are_ascending (k.items ++ p.more) ≡ true) same (ap are_ascending (sym p.parts) ∙ p.order) in
        let filled = linked_filled (f block) l is in
        let held : (0 < length l.items) ⊎ (p.more ≡ []) =
        elim filled.full [ inl none ↦ inr (none_after most_after f p.more (subst (λ (k : ℕ). entries_after most_after f k ≡ Some p.more) none rest)) | inr full ↦ inl (omega (arith, full)) ] in
        (p.more, rest, (ascending_parts l.items p.more all).back_ascends, last l.items p.more held all)

-- a look at the node after
pub one_look : (n : ℕ) (f : Blocks) (edge : Name × ℕ) → edge.1 ≢ 0 → goes_on (suc n) f edge ≡ option_map_or (goes_on n f) (edge_after edge.0 (link_of (f edge.1))) false
unfolding goes_on
one_look n f edge some = let differs : eqb edge.1 0 ≡ false = grind arith in rw differs refl
