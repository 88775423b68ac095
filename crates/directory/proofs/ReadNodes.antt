-- What the bytes that a read brought tell of the node in a block.
use Rattle.std.proofs.Common.{◌≡◌, ℕ, ◌≤◌, Bool, Option, Some, List, [], ◌∷◌, ◌++◌, length, sym, ap, ◌∙◌, arith, append_assoc}
use Rattle.std.specs.Option.{option_map_or, option_and_then}
use Rattle.fs_types.specs.Names.{Name}
use Rattle.node_format.specs.Items.{Item, is_dir_place}
use Rattle.node_format.specs.Links.{Link, link_at}
use Rattle.nodes.specs.Bodies.{Blocks}
use Rattle.nodes.specs.Chains.{link_of, link_items}
use Rattle.nodes.specs.Trees.{names_of}

-- the node in the bytes that were lent
pub link_shown : (f : Blocks) (block : ℕ) (shown bytes : List ℕ) (link : Option Link) → f block ≡ Some shown → bytes ≡ shown → link ≡ link_at bytes → link_of (f block) ≡ link
link_shown f block shown bytes link is lent read = ap (option_and_then link_at) (is ∙ ap (λ (b : List ℕ). Some b) (sym lent)) ∙ sym read

pub list_shown : (f : Blocks) (block : ℕ) (link : Link) (list : List Item) → link_of (f block) ≡ Some link → list ≡ link.items → list ≡ link_items (f block)
list_shown f block link list is same = same ∙ sym (ap (λ (o : Option Link). option_map_or (λ l. l.items) o []) is)

pub items_shown : (f : Blocks) (block : ℕ) (link : Link) (count : ℕ) (list : List Item) → link_of (f block) ≡ Some link → list ≡ link.items → count ≡ length list → count ≡ length (link_items (f block))
items_shown f block link count list is same counted = counted ∙ ap length (list_shown f block link list is same)

-- one name more is listed
pub one_name_more : (names pushed : List (Name × Bool)) (rest left : List Item) (all : List (Name × Bool)) (entry : Item) (name : Name) → pushed ≡ names ++ (name, is_dir_place entry.place) ∷ [] → left ≡ entry ∷ rest → name ≡ entry.name
    → names ++ names_of left ≡ all → pushed ++ names_of rest ≡ all
one_name_more names pushed rest left all entry name pushed_is steps name_is before =
    ap (λ (p : List (Name × Bool)). p ++ names_of rest) pushed_is
    ∙ append_assoc names ((name, is_dir_place entry.place) ∷ []) (names_of rest)
    ∙ ap (λ (n : Name). names ++ (n, is_dir_place entry.place) ∷ names_of rest) name_is
    ∙ ap (λ (i : List Item). names ++ names_of i) (sym steps)
    ∙ before

-- ---- counts of writes

pub at_most : (n m : ℕ) → n ≡ m → n ≤ m
at_most n m e = omega arith
