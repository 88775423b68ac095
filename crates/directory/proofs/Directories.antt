-- What the nodes of a directory tell of the whole: its entries, and names found in them.
use Rattle.std.proofs.Common.{◌≡◌, ℕ, zero, suc, ◌+◌, inl, inr, false, eqb, Option, Some, None, unwrap_or, Result, Ok, List, [], ◌∷◌, ◌++◌, length, refl, sym, ap, subst, ◌∙◌, arith, length-append}
use Rattle.std.specs.Prelude.{Contains}
use Rattle.std.proofs.lemmas.Bool.{eqb-true, eq-eqb}
use Rattle.fs_types.specs.Names.{Name, same_name}
use Rattle.fs_types.specs.declared.fault.Fault.{Fault}
use Rattle.node_format.specs.Items.{Item, named_place}
use Rattle.node_format.specs.declared.place.Place.{Place}
use Rattle.node_format.specs.declared.place.Place.TheVariants.{Dir, File}
use Rattle.nodes.specs.Bodies.{Blocks}
use Rattle.nodes.specs.Chains.{link_of, link_items, entries_after, most_after, entries_in, blocks_after, chain}
use Rattle.nodes.specs.Trees.{child}
use Rattle.nodes.proofs.Chains.{by_test, AfterParts, none_after, after_parts, first_parts, items_are, listed_after, chain_is}
use Rattle.nodes.proofs.Chained.{among_chain}
use Rattle.nodes.proofs.ChainCounts.{linked_filled}
use Rattle.directory.specs.Seeking.{here_or, seek, entries_along, chain_items}
use Rattle.directory.specs.Lookups.{place_in, directory_at, below_in, SeekLaw, ◌>>=◌}

-- ---- the entries of the nodes are those of the directory

along_after : (f : Blocks) (n next : ℕ) (items : List Item) → entries_after n f next ≡ Some items → entries_along f (blocks_after n f next) ≡ items
along_after f zero next items e = sym (none_after f next items e).1
along_after f (suc n) next items e = on (after_parts f n next items e) (along_after f n)
  where
    on : AfterParts f n next items → ((c : ℕ) (more : List Item) → entries_after n f c ≡ Some more → entries_along f (blocks_after n f c) ≡ more) → entries_along f (blocks_after (suc n) f next) ≡ items
    on (inl none) again = rw none.0 (sym none.1)
    on (inr p) again =
        ap (entries_along f) (listed_after f n next p.some p.l p.is)
        ∙ ap (λ (front : List Item). front ++ entries_along f (blocks_after n f p.l.next)) (items_are f next p.l p.is)
        ∙ ap (λ (more : List Item). p.l.items ++ more) (again p.l.next p.more p.rest) ∙ sym p.parts

pub along_chain : (f : Blocks) (block : ℕ) (items : List Item) → entries_in f block ≡ Some items → chain_items f block ≡ items
along_chain f block items e =
    let p = first_parts f block items e in
    ap (entries_along f) (chain_is f block p.l p.is)
    ∙ ap (λ (front : List Item). front ++ entries_along f (blocks_after most_after f p.l.next)) (items_are f block p.l p.is)
    ∙ ap (λ (more : List Item). p.l.items ++ more) (along_after f most_after p.l.next p.more p.rest) ∙ sym p.parts

-- where one of the nodes is none of a directory, there is no directory
pub no_directory : (f : Blocks) (block b : ℕ) → Contains (chain f block) b → link_of (f b) ≡ None → entries_in f block ≡ None
no_directory f block b inside none = on (entries_in f block) refl
  where
    on : (o : Option (List Item)) → entries_in f block ≡ o → o ≡ None
    on None e = refl
    on (Some items) e = let a = among_chain f block items e b inside in absurd (let both : None ≡ Some a.l = sym none ∙ a.is in cc)

-- a directory is empty where its first node is
pub empty_first : (f : Blocks) (block : ℕ) (items : List Item) → entries_in f block ≡ Some items → eqb (length (link_items (f block))) 0 ≡ eqb (length items) 0
empty_first f block items e =
    let p = first_parts f block items e in
    let filled = linked_filled (f block) p.l p.is in
    let here : length (link_items (f block)) ≡ length p.l.items = ap length (items_are f block p.l p.is) in
    let size : length items ≡ length p.l.items + length p.more = ap length p.parts ∙ length-append p.l.items p.more in
    ap (λ (n : ℕ). eqb n 0) here ∙ by_test (eqb (length p.l.items) 0)
    (λ none.
    let no : length p.l.items ≡ 0 = eqb-true (length p.l.items) 0 none in
    let last : p.l.next ≡ 0 = elim filled.full [ inl last ↦ last | inr full ↦ absurd (omega (arith, no, full)) ] in
    let no_more : length p.more ≡ 0 = ap length (alone most_after p.more (subst (λ (c : ℕ). entries_after most_after f c ≡ Some p.more) last p.rest)) in
    none ∙ sym (eq-eqb (length items) 0 (omega (arith, size, no, no_more))))
    (λ some. some ∙ sym (not_zero (length items) (length p.l.items) (length p.more) some size))
  where
    alone : (n : ℕ) (more : List Item) → entries_after n f 0 ≡ Some more → more ≡ []
    alone zero more e = (none_after f 0 more e).1
    alone (suc n) more e = elim (after_parts f n 0 more e) [ inl none ↦ none.1 | inr p ↦ absurd (let s = p.some in cc) ]

    not_zero : (n k m : ℕ) → eqb k 0 ≡ false → n ≡ k + m → eqb n 0 ≡ false
    not_zero n k m some is = grind arith

-- ---- a name found node by node

named_append : (front back : List Item) (name : Name) → here_or (named_place front name) (Ok (named_place back name)) ≡ Ok (named_place (front ++ back) name)
named_append [] back name = refl
named_append (item ∷ front) back name = by_test (same_name item.name name) (λ same. rw same refl) (λ differs. rw differs (named_append front back name))

seek_after : (f : Blocks) (name : Name) (n next : ℕ) (items : List Item) → entries_after n f next ≡ Some items → seek n f name next ≡ Ok (named_place items name)
seek_after f name zero next items e =
    let none = none_after f next items e in
    rw none.0 (ap (λ (xs : List Item). Ok (named_place xs name)) (sym none.1))
seek_after f name (suc n) next items e = on (after_parts f n next items e) (seek_after f name n)
  where
    on : AfterParts f n next items → ((b : ℕ) (more : List Item) → entries_after n f b ≡ Some more → seek n f name b ≡ Ok (named_place more name)) → seek (suc n) f name next ≡ Ok (named_place items name)
    on (inl none) again = rw none.0 (ap (λ (xs : List Item). Ok (named_place xs name)) (sym none.1))
    on (inr p) again =
        rw (p.some, p.is, p.good) (ap (here_or (named_place p.l.items name)) (again p.l.next p.more p.rest) ∙ named_append p.l.items p.more name ∙ ap (λ (xs : List Item). Ok (named_place xs name)) (sym p.parts))

pub place_named : (f : Blocks) (block : ℕ) (name : Name) (items : List Item) → entries_in f block ≡ Some items → place_in f name block ≡ Ok (named_place items name)
place_named f block name items e =
    let p = first_parts f block items e in
    rw p.is (ap (here_or (named_place p.l.items name)) (seek_after f name most_after p.l.next p.more p.rest) ∙ named_append p.l.items p.more name ∙ ap (λ (xs : List Item). Ok (named_place xs name)) (sym p.parts))

pub seek_law : SeekLaw
seek_law f block name items e = (place_named f block name items e, along_chain f block items e)

-- ---- the directory that a name of a directory leads to

abbrev ok_block : ℕ → Result ℕ Fault
ok_block block = Ok block

ok_is : (x y : ℕ) → ok_block x ≡ ok_block y → x ≡ y
ok_is x y e = cc

pub child_below : (f : Blocks) (block : ℕ) (name : Name) (below : ℕ) (items : List Item) → entries_in f block ≡ Some items → below_in f name block ≡ Ok below → child f (Dir block) name ≡ Some (Dir below)
child_below f block name below items e is =
    ap (λ (o : Option (List Item)). named_place (unwrap_or o []) name) e
    ∙ on (named_place items name) (sym (ap (λ (r : Result (Option Place) Fault). r >>= directory_at) (place_named f block name items e)) ∙ is)
  where
    on : (place : Option Place) → directory_at place ≡ Ok below → place ≡ Some (Dir below)
    on None e = absurd cc
    on (Some (File head size)) e = absurd cc
    on (Some (Dir block)) e = ap (λ (b : ℕ). Some (Dir b)) (ok_is block below e)
