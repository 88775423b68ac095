-- How many entries a node of a directory has, by the first page that was read of it.
use Rattle.std.proofs.Common.{◌≡◌, ℕ, ◌+◌, ◌-◌, ◌<◌, ◌≤◌, false, eqb, Option, Some, None, List, [], length, take, drop, get_or, suc, refl, sym, ap, ◌∙◌, arith}
use Rattle.std.proofs.Math.Seq.{drop-cons}
use Rattle.std.proofs.lemmas.List.{take-append-drop}
use Rattle.std.proofs.lemmas.List.Sums.{sum_by-append, sum_by-cons}
use Rattle.std.specs.Prelude.{min}
use Rattle.fs_types.specs.Names.{Name}
use Rattle.node_format.specs.declared.place.Place.{Place}
use Rattle.directory.specs.Places.{nodes_of, nodes_of_all}
use Rattle.std.specs.Option.{option_map_or}
use Rattle.node_format.specs.Items.{Item}
use Rattle.node_format.specs.Links.{Link, link_at}
use Rattle.nodes.specs.Parts.{IsFront}
use Rattle.nodes.specs.Bodies.{Blocks}
use Rattle.nodes.specs.Chains.{link_of, link_items, next_of, most_after, entries_in}
use Rattle.nodes.proofs.Chained.{among_chain}
use Rattle.directory.proofs.Walks.{IsWalk, walk_less, walk_here}

-- a node of a directory, and what its front tells
pub front_says : (page : ℕ) (node : Option (List ℕ)) (front : List ℕ) (l : Link) (result : Option (ℕ × ℕ)) → 256 ≤ page → link_of node ≡ Some l → ((bytes : List ℕ) → node ≡ Some bytes → IsFront page front bytes)
    → ((bytes : List ℕ) (l : Link) → take (length bytes) front ≡ take (length front) bytes → min 16 (length bytes) ≤ length front → link_at bytes ≡ Some l → result ≡ Some (length l.items, l.next))
    → result ≡ Some (length (link_items node), next_of node)
front_says page None front l result large is begins told = absurd cc
front_says page (Some bytes) front l result large is begins told =
    let begun = begins bytes refl in
    let enough = begun.enough in
    told bytes l begun.alike (omega (arith, enough, large)) is
    ∙ ap (λ (o : Option Link). Some (length (option_map_or (λ link. link.items) o []), option_map_or (λ link. link.next) o 0)) (sym is)

-- the first node of a directory, and one that comes later
pub first_link : (f : Blocks) (block : ℕ) (items : List Item) → entries_in f block ≡ Some items → (l : Link) × (link_of (f block) ≡ Some l)
first_link f block items e = let a = among_chain f block items e block (0, omega arith, refl) in (a.l, a.is)

pub later_link : (f f2 : Blocks) (block : ℕ) (items : List Item) → entries_in f block ≡ Some items → f2 ≡ f → (counter next : ℕ) (front : List ℕ) → counter < most_after → IsWalk f block (most_after - counter) next (counter + 1) front → eqb next 0 ≡ false
    → (l : Link) × (link_of (f2 next) ≡ Some l)
later_link f f2 block items e same counter next front less walk some =
    let a = among_chain f block items e next (walk_here f block (most_after - (counter + 1)) next (counter + 1) front (walk_less f block counter next (counter + 1) front less walk) some) in
    (a.l, ap (λ (g : Blocks). link_of (g next)) same ∙ a.is)

-- what was asked for the first places and for one more is no more than for all
pub asks_within : (f f2 : Blocks) (places : List (Name × Place)) (i : ℕ) (e : Name × Place) (before middle after : ℕ) → f2 ≡ f → i < length places → e ≡ get_or places i e
    → middle ≤ before + nodes_of_all f (take i places) → after ≤ middle + nodes_of f2 e.1 → after ≤ before + nodes_of_all f places
asks_within f f2 places i e before middle after same less is so_far asks =
    let all : nodes_of_all f places ≡ nodes_of_all f (take i places) + nodes_of_all f (drop i places) =
    ap (nodes_of_all f) (sym (take-append-drop i places)) ∙ sum_by-append (λ (entry : Name × Place). nodes_of f entry.1) (take i places) (drop i places) in
    let rest : nodes_of_all f (drop i places) ≡ nodes_of f (get_or places i e).1 + nodes_of_all f (drop (suc i) places) =
    ap (nodes_of_all f) (drop-cons places i e less) ∙ sum_by-cons (λ (entry : Name × Place). nodes_of f entry.1) (get_or places i e) (drop (suc i) places) in
    let here : nodes_of f2 e.1 ≡ nodes_of f (get_or places i e).1 = ap (λ (g : Blocks). nodes_of g e.1) same ∙ ap (λ (x : Name × Place). nodes_of f x.1) is in
    omega (arith, so_far, asks, all, rest, here)
