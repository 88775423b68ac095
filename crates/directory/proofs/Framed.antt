-- A look-up in a directory whose nodes stay, and what it reaches.
use Rattle.std.proofs.Common.{◌≡◌, ℕ, zero, suc, ◌⊎◌, inl, inr, Bool, true, false, cond, eqb, Option, Some, None, Result, Ok, Err, List, [], ◌∷◌, ◌++◌, refl, sym, ap, subst, ◌∙◌}
use Rattle.std.specs.Prelude.{Contains}
use Rattle.fs_types.specs.Names.{Name}
use Rattle.fs_types.specs.declared.fault.Fault.{Fault}
use Rattle.fs_types.specs.declared.fault.Fault.TheVariants.{Damaged}
use Rattle.node_format.specs.Items.{Item, named_place}
use Rattle.node_format.specs.EntryLaws.{named-contained}
use Rattle.node_format.specs.Links.{Link}
use Rattle.node_format.specs.declared.place.Place.{Place}
use Rattle.node_format.specs.declared.place.Place.TheVariants.{Dir, File}
use Rattle.nodes.specs.Bodies.{Blocks}
use Rattle.nodes.specs.Chains.{link_of, link_items, next_of, is_later, most_after, blocks_after, chain}
use Rattle.nodes.specs.Reached.{Reached, IsNamed, PlaceNames}
use Rattle.nodes.proofs.Chains.{by_test, head_of, tail_of, chain_frame, next_is, items_are}
use Rattle.nodes.proofs.Chained.{reached_chain}
use Rattle.directory.specs.Seeking.{here_or, seek, seek_link, seek_later, seek_first, entries_along, chain_items}
use Rattle.directory.specs.Lookups.{place_in, directory_at, below_in, ◌>>=◌}

-- ---- nodes that stay

seek_same : (f g : Blocks) (name : Name) (n next : ℕ) → ((b : ℕ) → Contains (blocks_after n f next) b → g b ≡ f b) → seek n g name next ≡ seek n f name next
seek_same f g name zero next same = refl
seek_same f g name (suc n) next same = by_test (eqb next 0) (λ none. rw none refl) (λ some. rw some (goes_on some (seek_same f g name n (next_of (f next)))))
  where
    goes_on : eqb next 0 ≡ false → (((b : ℕ) → Contains (blocks_after n f (next_of (f next))) b → g b ≡ f b) → seek n g name (next_of (f next)) ≡ seek n f name (next_of (f next)))
        → seek_later (seek n g name) name (link_of (g next)) ≡ seek_later (seek n f name) name (link_of (f next))
    goes_on some again =
        let listed : (b : ℕ) → Contains (next ∷ blocks_after n f (next_of (f next))) b → g b ≡ f b =
        λ b inside. same b (subst (λ (t : Bool). Contains (cond t [] (next ∷ blocks_after n f (next_of (f next)))) b) (sym some) inside) in
        ap (λ (node : Option (List ℕ)). seek_later (seek n g name) name (link_of node)) (listed next (head_of next (blocks_after n f (next_of (f next)))))
        ∙ on (link_of (f next)) refl (again (λ b inside. listed b (tail_of next b (blocks_after n f (next_of (f next))) inside)))
      where
        on : (o : Option Link) → link_of (f next) ≡ o → seek n g name (next_of (f next)) ≡ seek n f name (next_of (f next)) → seek_later (seek n g name) name o ≡ seek_later (seek n f name) name o
        on None is rest = refl
        on (Some l) is rest =
            let at = next_is f next l is in
            ap (λ (r : Result (Option Place) Fault). cond (is_later l) (here_or (named_place l.items name) r) (Err Damaged)) (subst (λ (b : ℕ). seek n g name b ≡ seek n f name b) at rest)

pub place_same : (f g : Blocks) (block : ℕ) (name : Name) → ((b : ℕ) → Contains (chain f block) b → g b ≡ f b) → place_in g name block ≡ place_in f name block
place_same f g block name same =
    ap (λ (node : Option (List ℕ)). seek_first (seek most_after g name) name (link_of node)) (same block (head_of block (blocks_after most_after f (next_of (f block)))))
    ∙ on (link_of (f block)) refl (seek_same f g name most_after (next_of (f block)) (λ b inside. same b (tail_of block b (blocks_after most_after f (next_of (f block))) inside)))
  where
    on : (o : Option Link) → link_of (f block) ≡ o → seek most_after g name (next_of (f block)) ≡ seek most_after f name (next_of (f block)) → seek_first (seek most_after g name) name o ≡ seek_first (seek most_after f name) name o
    on None is rest = refl
    on (Some l) is rest =
        let at = next_is f block l is in
        ap (here_or (named_place l.items name)) (subst (λ (b : ℕ). seek most_after g name b ≡ seek most_after f name b) at rest)

along_same : (f g : Blocks) (blocks : List ℕ) → ((b : ℕ) → Contains blocks b → g b ≡ f b) → entries_along g blocks ≡ entries_along f blocks
along_same f g [] same = refl
along_same f g (x ∷ blocks) same =
    ap (λ (node : Option (List ℕ)). link_items node ++ entries_along g blocks) (same x (head_of x blocks)) ∙ ap (λ (items : List Item). link_items (f x) ++ items) (along_same f g blocks (λ b inside. same b (tail_of x b blocks inside)))

pub items_same : (f g : Blocks) (block : ℕ) → ((b : ℕ) → Contains (chain f block) b → g b ≡ f b) → chain_items g block ≡ chain_items f block
items_same f g block same = ap (entries_along g) (chain_frame f g block same).1 ∙ along_same f g (chain f block) same

-- ---- what a name leads to is reached

-- a place is one of an entry of a node in these blocks
abbrev IsNamedIn : Blocks → List ℕ → Place → Type 0
IsNamedIn f blocks place = (b : ℕ) × Contains blocks b × (item : Item) × Contains (link_items (f b)) item × (item.place ≡ place)

abbrev ok_place : Option Place → Result (Option Place) Fault
ok_place place = Ok place

place_is : (x y : Option Place) → ok_place x ≡ ok_place y → x ≡ y
place_is x y e = cc

named_in : (f : Blocks) (block : ℕ) (l : Link) (name : Name) (place : Place) (rest : Result (Option Place) Fault) → link_of (f block) ≡ Some l → here_or (named_place l.items name) rest ≡ Ok (Some place) → ((item : Item) × Contains (link_items (f block)) item × (item.place ≡ place)) ⊎ (rest ≡ Ok (Some place))
named_in f block l name place rest is e = on (named_place l.items name) refl e
  where
    on : (o : Option Place) → named_place l.items name ≡ o → here_or o rest ≡ Ok (Some place) → ((item : Item) × Contains (link_items (f block)) item × (item.place ≡ place)) ⊎ (rest ≡ Ok (Some place))
    on None named_is e = inr e
    on (Some other) named_is e =
        let found = named-contained l.items name place (named_is ∙ place_is (Some other) (Some place) e) in
        inl (found.0, subst (λ (items : List Item). Contains items found.0) (sym (items_are f block l is)) found.1, found.2)

seek_named : (f : Blocks) (name : Name) (place : Place) (n next : ℕ) → seek n f name next ≡ Ok (Some place) → IsNamedIn f (blocks_after n f next) place
seek_named f name place zero next e = by_test (eqb next 0)
    (λ none. absurd (let x = place_is None (Some place) (sym (ap (λ (t : Bool). cond t (ok_place None) (Err Damaged)) none) ∙ e) in cc))
    (λ some. absurd (let x : Err Damaged ≡ Ok (Some place) = sym (ap (λ (t : Bool). cond t (ok_place None) (Err Damaged)) some) ∙ e in cc))
seek_named f name place (suc n) next e = by_test (eqb next 0)
    (λ none. absurd (let x = place_is None (Some place) (sym (ap (λ (t : Bool). cond t (ok_place None) (seek_later (seek n f name) name (link_of (f next)))) none) ∙ e) in cc))
    (λ some. rw some (on (link_of (f next)) refl (sym (ap (λ (t : Bool). cond t (ok_place None) (seek_later (seek n f name) name (link_of (f next)))) some) ∙ e) (seek_named f name place n)))
  where
    passed : (b : Bool) (r : Result (Option Place) Fault) (fault : Fault) → cond b r (Err fault) ≡ Ok (Some place) → r ≡ Ok (Some place)
    passed true r fault e = e
    passed false r fault e = absurd cc

    on : (o : Option Link) → link_of (f next) ≡ o → seek_later (seek n f name) name o ≡ Ok (Some place) → ((c : ℕ) → seek n f name c ≡ Ok (Some place) → IsNamedIn f (blocks_after n f c) place) → IsNamedIn f (next ∷ blocks_after n f (next_of (f next))) place
    on None is e again = absurd cc
    on (Some l) is e again = elim (named_in f next l name place (seek n f name l.next) is (passed (is_later l) (seek_link (seek n f name) name l) Damaged e)) [
      | inl here ↦ (next, head_of next (blocks_after n f (next_of (f next))), here.0, here.1, here.2)
      | inr later ↦
          let h = again (next_of (f next)) (ap (seek n f name) (next_is f next l is) ∙ later) in
          (h.0, tail_of next h.0 (blocks_after n f (next_of (f next))) h.1, h.2, h.3, h.4)
    ]

place_named_in : (f : Blocks) (block : ℕ) (name : Name) (place : Place) → place_in f name block ≡ Ok (Some place) → IsNamedIn f (chain f block) place
place_named_in f block name place e = on (link_of (f block)) refl e
  where
    on : (o : Option Link) → link_of (f block) ≡ o → seek_first (seek most_after f name) name o ≡ Ok (Some place) → IsNamedIn f (chain f block) place
    on None is e = absurd cc
    on (Some l) is e = elim (named_in f block l name place (seek most_after f name l.next) is e) [
      | inl here ↦ (block, head_of block (blocks_after most_after f (next_of (f block))), here.0, here.1, here.2)
      | inr later ↦
          let h = seek_named f name place most_after (next_of (f block)) (ap (seek most_after f name) (next_is f block l is) ∙ later) in
          (h.0, tail_of block h.0 (blocks_after most_after f (next_of (f block))) h.1, h.2, h.3, h.4)
    ]

pub place_reached : (f : Blocks) (block : ℕ) (name : Name) (place : Place) (root : ℕ) → place_in f name block ≡ Ok (Some place) → PlaceNames place root → Reached f (block ∷ []) root
place_reached f block name place root e names =
    let h = place_named_in f block name place e in
    IsNamed (reached_chain f block h.0 h.1) (inl (h.2, h.3, subst (λ (p : Place). PlaceNames p root) (sym h.4) names))

pub below_reached : (f : Blocks) (block : ℕ) (name : Name) (below : ℕ) → below_in f name block ≡ Ok below → Reached f (block ∷ []) below
below_reached f block name below e = on (place_in f name block) refl e
  where
    at : (place : Option Place) → directory_at place ≡ Ok below → place ≡ Some (Dir below)
    at None e = absurd cc
    at (Some (File head size)) e = absurd cc
    at (Some (Dir block)) e = ap (λ (b : ℕ). Some (Dir b)) (block_is block below e)
      where
        block_is : (x y : ℕ) → (let r : Result ℕ Fault = Ok x in r ≡ Ok y) → x ≡ y
        block_is x y e = cc

    on : (r : Result (Option Place) Fault) → place_in f name block ≡ r → (r >>= directory_at) ≡ Ok below → Reached f (block ∷ []) below
    on (Err fault) is e = absurd cc
    on (Ok place) is e = place_reached f block name (Dir below) below (is ∙ ap ok_place (at place e)) refl
