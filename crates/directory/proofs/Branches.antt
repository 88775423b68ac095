-- Two paths rewritten from where they part, and the directories before.
use Rattle.std.proofs.Common.{◌≡◌, ℕ, suc, ◌+◌, ◌-◌, ◌<◌, ◌≤◌, ◌⊎◌, inl, inr, Bool, true, false, cond, Option, Some, None, List, [], ◌∷◌, length, take, drop, get_or, refl, sym, ap, subst, ◌∙◌, arith, length-drop}
use Rattle.std.specs.Prelude.{slice_index, nat_lt, IsSome}
use Rattle.std.specs.Option.{is_some}
use Rattle.std.specs.List.{sum_by}
use Rattle.std.proofs.lemmas.Bool.{true≢false, lt-ltb, le-ltb}
use Rattle.std.proofs.Math.Seq.{drop-cons}
use Rattle.fs_types.specs.Names.{Name, Path, same_name}
use Rattle.plain_trees.specs.Trees.{nodes_for}
use Rattle.node_format.specs.Items.{Item, named_place}
use Rattle.node_format.specs.declared.place.Place.{Place}
use Rattle.node_format.specs.declared.place.Place.TheVariants.{Dir}
use Rattle.nodes.specs.Bodies.{Blocks}
use Rattle.nodes.specs.Trees.{entries_in, items_in}
use Rattle.nodes.specs.Reached.{Keeps}
use Rattle.nodes.specs.Rewritten.{IsDirectoryEdit, IsFreshChain, IsRewritten, IsBranch, IsMoved}
use Rattle.directory.specs.Trails.{IsTrail, IsHeldTrail, takes}
use Rattle.directory.specs.Counts.{nodes_in, edit_nodes, read_nodes}
use Rattle.directory.specs.Moves.{IsFork}
use Rattle.directory.proofs.MovedPaths.{moved_later}
use Rattle.directory.proofs.NewDirectories.{fresh_before}
use Rattle.directory.proofs.TrailEdits.{drop_all, level_held, level_items, level_child, takes_named, edit_nodes-there, read_nodes-most, nodes_along}

first_name : (i : ℕ) (path : Path) → i < length path → drop i path ≡ get_or path i [] ∷ drop (i + 1) path
first_name i path less = let e : suc i ≡ i + 1 = omega arith in drop-cons path i [] less ∙ ap (λ (k : ℕ). get_or path i [] ∷ drop k path) e

-- the directories below a name written anew
pub branch_of : (f0 f1 : Blocks) (k0 k1 : ℕ → Bool) (root : ℕ) (path : Path) (trail : List ℕ) (fork next : ℕ) (at : Option Place) → IsTrail f0 root path trail → fork + 1 < length path
    → IsRewritten f0 f1 k0 k1 (slice_index trail (fork + 1)) next (drop (fork + 1) path) at → IsBranch f0 f1 k0 k1 (slice_index trail fork) (get_or path fork []) (drop (fork + 1) path) at (Some (Dir next))
branch_of f0 f1 k0 k1 root path trail fork next at way more rewritten =
    let m = get_or path (fork + 1) [] in
    let p = drop ((fork + 1) + 1) path in
    let e = first_name (fork + 1) path more in
    subst (λ (q : Path). IsBranch f0 f1 k0 k1 (slice_index trail fork) (get_or path fork []) q at (Some (Dir next))) (sym e) (
      slice_index trail (fork + 1),
      next,
      level_child f0 root path trail fork way more,
      refl,
      subst (λ (q : Path). IsRewritten f0 f1 k0 k1 (slice_index trail (fork + 1)) next q at) e rewritten,
    )

-- ---- where the paths part

last_or_more : (i n : ℕ) → i < n → (i + 1 ≡ n) ⊎ (i + 1 < n)
last_or_more i n less = grind arith

gone_on : (f0 f1 : Blocks) (k0 k1 : ℕ → Bool) (block : ℕ) (n : Name) (p : Path) (former : Option Place) → IsBranch f0 f1 k0 k1 block n p None former → IsSome former → 0 < length p
gone_on f0 f1 k0 k1 block n [] former branch some = absurd (true≢false (sym some ∙ ap is_some branch))
gone_on f0 f1 k0 k1 block n (m ∷ p) former branch some = omega arith

-- the old name still leads somewhere where names come after it
pub gone_there : (f0 f1 : Blocks) (k0 k1 : ℕ → Bool) (block fork : ℕ) (n : Name) (old : Path) (gone : Option Place) → IsBranch f0 f1 k0 k1 block n (drop (fork + 1) old) None gone → is_some gone ≡ nat_lt (fork + 1) (length old)
gone_there f0 f1 k0 k1 block fork n old gone branch = on (drop (fork + 1) old) (length-drop (fork + 1) old) branch
  where
    on : (p : Path) → length p ≡ length old - (fork + 1) → IsBranch f0 f1 k0 k1 block n p None gone → is_some gone ≡ nat_lt (fork + 1) (length old)
    on [] none is = ap is_some is ∙ sym (le-ltb (fork + 1) (length old) (omega (arith, none)))
    on (m ∷ p) some (below, next, leads, is, rest) = ap is_some is ∙ sym (lt-ltb (fork + 1) (length old) (omega (arith, some)))

-- a new name is put there only where it has room: it is there, or a look up of the new path found room
pub fork_room : (f0 f1 f2 : Blocks) (k0 k1 k2 : ℕ → Bool) (old new : Path) (old_trail new_trail : List ℕ) (place : Place) (fork : ℕ) (gone here : Option Place) → IsFork f0 k0 old old_trail new new_trail place fork
    → IsBranch f0 f1 k0 k1 (slice_index old_trail fork) (get_or old fork []) (drop (fork + 1) old) None gone → IsBranch f1 f2 k1 k2 (slice_index new_trail fork) (get_or new fork []) (drop (fork + 1) new) (Some place) here
    → IsSome gone → takes (entries_in f0 (slice_index old_trail fork)) (get_or new fork []) here ≡ true
fork_room f0 f1 f2 k0 k1 k2 old new old_trail new_trail place fork gone here is branch branch' some =
    subst (λ (b : ℕ). takes (entries_in f0 b) (get_or new fork []) here ≡ true) is.same (elim (last_or_more fork (length new) is.in_new) [ inl last ↦ put last | inr more ↦ relinked more ])
  where
    goes_on : fork + 1 < length old
    goes_on = let some_left = gone_on f0 f1 k0 k1 (slice_index old_trail fork) (get_or old fork []) (drop (fork + 1) old) gone branch some in omega (arith, length-drop (fork + 1) old)

    put : fork + 1 ≡ length new → takes (entries_in f0 (slice_index new_trail fork)) (get_or new fork []) here ≡ true
    put last =
        let none : drop (fork + 1) new ≡ [] = drop_all (fork + 1) new (omega arith) in
        let here_is : here ≡ Some place = subst (λ (q : Path). IsBranch f1 f2 k1 k2 (slice_index new_trail fork) (get_or new fork []) q (Some place) here) none branch' in
        let taken = is.here (omega (arith, goes_on)) in
        let at : length new - 1 ≡ fork = omega arith in
        ap (λ (o : Option Place). takes (entries_in f0 (slice_index new_trail fork)) (get_or new fork []) o) here_is
        ∙ subst (λ (k : ℕ). takes (entries_in f0 (slice_index new_trail k)) (get_or new k []) (Some place) ≡ true) at taken

    relinked : fork + 1 < length new → takes (entries_in f0 (slice_index new_trail fork)) (get_or new fork []) here ≡ true
    relinked more =
        let e = first_name (fork + 1) new more in
        let down = subst (λ (q : Path). IsBranch f1 f2 k1 k2 (slice_index new_trail fork) (get_or new fork []) q (Some place) here) e branch' in
        ap (λ (o : Option Place). takes (entries_in f0 (slice_index new_trail fork)) (get_or new fork []) o) down.3
        ∙ takes_named (entries_in f0 (slice_index new_trail fork)) (get_or new fork []) (Dir (slice_index new_trail (fork + 1))) (Dir down.1) (level_child f0 is.new_way.root new new_trail fork is.new_way.trail_of more)

-- ---- a directory that both paths go through: at first (0), with those below written (1), and with this one too (2)

pub moved_up : (f0 f1 f2 : Blocks) (k0 k1 k2 : ℕ → Bool) (old new : Path) (trail : List ℕ) (i to next : ℕ) (place : Place) → IsHeldTrail f0 k0 old trail → i + 1 < length old → i < length new → same_name (get_or old i []) (get_or new i []) ≡ true
    → Keeps k0 f0 k1 f1 → Keeps k1 f1 k2 f2 → ((b : ℕ) → k1 b ≡ false → k0 b ≡ false) → IsMoved f0 f1 k0 k1 (slice_index trail (i + 1)) next (drop (i + 1) old) (drop (i + 1) new) place
    → IsDirectoryEdit f1 f2 (slice_index trail i) to (get_or old i []) (Some (Dir next)) → IsFreshChain f1 f2 k1 k2 (slice_index trail i) to → IsMoved f0 f2 k0 k2 (slice_index trail i) to (drop i old) (drop i new) place
moved_up f0 f1 f2 k0 k1 k2 old new trail i to next place way more more' same before keeps was lower (items, spelled, led) fresh =
    subst (λ (p : Path). IsMoved f0 f2 k0 k2 (slice_index trail i) to p (drop i new) place) (sym (first_name i old (omega arith)))
    (subst (λ (q : Path). IsMoved f0 f2 k0 k2 (slice_index trail i) to (get_or old i [] ∷ drop (i + 1) old) q place) (sym (first_name i new more')) (
      fresh_before f0 f1 f2 k0 k1 k2 before was (slice_index trail i) to (level_held f0 k0 old trail i way (omega arith)) fresh,
      inl (
        same,
        slice_index trail (i + 1),
        next,
        level_child f0 way.root old trail i way.trail_of more,
        (items, spelled, λ k. led k ∙ ap (λ (xs : List Item). cond (same_name (get_or old i []) k) (Some (Dir next)) (named_place xs k)) (level_items f0 f1 k0 k1 old trail i way (omega arith) before)),
        moved_later f0 f1 f2 k0 k1 k2 keeps (drop (i + 1) old) (drop (i + 1) new) (slice_index trail (i + 1)) next place lower,
      ),
    ))

-- it is written and read once, with as many nodes as it has
pub level_along : (f0 f1 : Blocks) (k0 k1 : ℕ → Bool) (path : Path) (trail : List ℕ) (i : ℕ) → IsHeldTrail f0 k0 path trail → i + 1 < length path → Keeps k0 f0 k1 f1
    → (edit_nodes (items_in f1 (slice_index trail i)) (get_or path i []) true + sum_by (nodes_in f0) (take i trail) ≡ sum_by (nodes_in f0) (take (i + 1) trail))
    × (read_nodes (items_in f1 (slice_index trail i)) (get_or path i []) true + sum_by (nodes_in f0) (take i trail) ≤ sum_by (nodes_in f0) (take (i + 1) trail))
level_along f0 f1 k0 k1 path trail i way more before =
    let items = items_in f1 (slice_index trail i) in
    let name = get_or path i [] in
    let same : items ≡ items_in f0 (slice_index trail i) = level_items f0 f1 k0 k1 path trail i way (omega arith) before in
    let there : IsSome (named_place items name) = ap is_some (ap (λ (xs : List Item). named_place xs name) same ∙ level_child f0 way.root path trail i way.trail_of more) in
    let whole : nodes_for (length items) ≡ nodes_in f0 (slice_index trail i) = ap (λ (xs : List Item). nodes_for (length xs)) same in
    let one = nodes_along f0 trail i (omega (arith, way.trail_of.counted, more)) in
    let puts = edit_nodes-there items name true there in
    let takes = edit_nodes-there items name false there in
    let most = read_nodes-most items name true in
    (omega (arith, one, puts, whole), omega (arith, one, takes, whole, most))
