-- Two paths that part, and the directory where they do.
use Rattle.std.proofs.Common.{◌≡◌, ℕ, zero, suc, ◌+◌, ◌-◌, ◌<◌, ◌≤◌, ◌⊎◌, inl, inr, Bool, true, false, cond, ◌&&◌, Option, Some, None, List, [], ◌∷◌, length, take, drop, get_or, refl, sym, ap, ◌∙◌, arith}
use Rattle.std.specs.Prelude.{not, ◌||◌, nat_le, slice_index, IsSome}
use Rattle.std.specs.Option.{is_none, is_some}
use Rattle.std.proofs.lemmas.Bool.{true≢false, lt-leb}
use Rattle.std.proofs.Math.Seq.{drop-cons}
use Rattle.fs_types.specs.declared.limits.TheConstants.{MAX_ENTRIES}
use Rattle.fs_types.specs.Names.{Name, Path, same_name, same_path}
use Rattle.plain_trees.specs.Contents.{Apart, parent_of}
use Rattle.fs_types.proofs.Orders.{same_name-is}
use Rattle.node_format.specs.Items.{Item, named_place}
use Rattle.node_format.specs.Edits.{edited_count, IsEdited}
use Rattle.node_format.specs.declared.place.Place.{Place}
use Rattle.node_format.specs.declared.place.Place.TheVariants.{Dir}
use Rattle.nodes.specs.Bodies.{Blocks}
use Rattle.nodes.specs.Trees.{child, leads}
use Rattle.nodes.specs.Reached.{IsHeld}
use Rattle.directory.specs.Lookups.{look_up}
use Rattle.directory.specs.Trails.{IsTrail, has_room, takes}
use Rattle.directory.specs.Moves.{common, IsFork}
use Rattle.directory.proofs.MovedPaths.{apart_down}
use Rattle.directory.proofs.TrailEdits.{level_child, leads_last, room_taken, stands_taken}

-- ---- a directory edited twice

-- a name taken out makes room
pub takes_made : (items without : List Item) (name other : Name) (here : Option Place) → length items ≤ MAX_ENTRIES → IsSome (named_place items name) → IsEdited items name None without → takes (Some without) other here ≡ true
takes_made items without name other here most some edited = on here
  where
    fewer : (was : Option Place) → named_place items name ≡ was → length without < MAX_ENTRIES
    fewer None is = absurd (true≢false (sym some ∙ ap is_some is))
    fewer (Some was) is = omega (arith, some_there items name some, most, edited.counted ∙ ap (λ (o : Option Place). edited_count o None (length items)) is)
      where
        some_there : (items : List Item) (name : Name) → IsSome (named_place items name) → 0 < length items
        some_there [] name some = absurd cc
        some_there (item ∷ items) name some = omega arith

    few : nat_le MAX_ENTRIES (length without) ≡ false
    few = lt-leb MAX_ENTRIES (length without) (fewer (named_place items name) refl)

    either : (there : Bool) → (there || not (nat_le MAX_ENTRIES (length without))) ≡ true
    either true = refl
    either false = ap not few

    on : (here : Option Place) → takes (Some without) other here ≡ true
    on None = refl
    on (Some place) = either (is_some (named_place without other))

pub none_is : (o : Option Place) → is_none o ≡ true → o ≡ None
none_is None none = refl
none_is (Some place) none = absurd cc

pub some_is : (o : Option Place) → is_none o ≡ false → IsSome o
some_is None some = absurd cc
some_is (Some place) some = refl

-- ---- where two paths part

pub first_name : (i : ℕ) (path : Path) → i < length path → drop i path ≡ get_or path i [] ∷ drop (i + 1) path
first_name i path less = let e : suc i ≡ i + 1 = omega arith in drop-cons path i [] less ∙ ap (λ (k : ℕ). get_or path i [] ∷ drop k path) e

-- the names before the fork are the same, those at it are not, and the parents are the same only where both paths end there
pub record Parted (p q : Path) (fork : ℕ) : Type 0 where
  pub in_first : fork < length p
  pub in_second : fork < length q
  pub alike : (i : ℕ) → i < fork → same_name (get_or p i []) (get_or q i []) ≡ true
  pub front : take fork p ≡ take fork q
  pub differs : same_name (get_or p fork []) (get_or q fork []) ≡ false
  pub parents : 0 < (length p - (fork + 1)) + (length q - (fork + 1)) → same_path (parent_of p) (parent_of q) ≡ false

parent_cons : (n m : Name) (p : Path) → parent_of (n ∷ m ∷ p) ≡ n ∷ parent_of (m ∷ p)
parent_cons n m p = let e : length (n ∷ m ∷ p) - 1 ≡ suc (length (m ∷ p) - 1) = omega arith in ap (λ k. take k (n ∷ m ∷ p)) e

parents_here : (n m : Name) (p q : Path) → same_name n m ≡ false → 0 < length p + length q → same_path (parent_of (n ∷ p)) (parent_of (m ∷ q)) ≡ false
parents_here n m [] [] differs more = absurd (omega arith)
parents_here n m [] (b ∷ q) differs more = ap (λ (parent : Path). same_path [] parent) (parent_cons m b q)
parents_here n m (a ∷ p) [] differs more = ap (λ (parent : Path). same_path parent []) (parent_cons n a p)
parents_here n m (a ∷ p) (b ∷ q) differs more =
    (λ i. same_path (parent_cons n a p i) (parent_cons m b q i)) ∙ ap (λ (t : Bool). t && same_path (parent_of (a ∷ p)) (parent_of (b ∷ q))) differs

parents_down : (n m : Name) (p q : Path) → 0 < length p → 0 < length q → same_path (parent_of p) (parent_of q) ≡ false → same_path (parent_of (n ∷ p)) (parent_of (m ∷ q)) ≡ false
parents_down n m [] q some some' differs = absurd (omega arith)
parents_down n m (a ∷ p) [] some some' differs = absurd (omega arith)
parents_down n m (a ∷ p) (b ∷ q) some some' differs =
    (λ i. same_path (parent_cons n a p i) (parent_cons m b q i)) ∙ ap (λ (t : Bool). same_name n m && t) differs ∙ none (same_name n m)
  where
    none : (b : Bool) → (b && false) ≡ false
    none true = refl
    none false = refl

parted_down : (n m : Name) (p q : Path) (fork : ℕ) → same_name n m ≡ true → Parted p q fork → Parted (n ∷ p) (m ∷ q) (suc fork)
parted_down n m p q fork same is = record {
  in_first = let less = is.in_first in omega arith;
  in_second = let less = is.in_second in omega arith;
  alike = alike_now;
  front = (λ i. same_name-is n m same i ∷ is.front i);
  differs = is.differs;
  parents = λ more. let less = is.in_first in let less' = is.in_second in parents_down n m p q (omega arith) (omega arith) (is.parents (omega arith));
}
  where
    alike_now : (i : ℕ) → i < suc fork → same_name (get_or (n ∷ p) i []) (get_or (m ∷ q) i []) ≡ true
    alike_now zero less = same
    alike_now (suc i) less = is.alike i (omega arith)

parted_here : (n m : Name) (p q : Path) → same_name n m ≡ false → Parted (n ∷ p) (m ∷ q) 0
parted_here n m p q differs = record {
  in_first = omega arith;
  in_second = omega arith;
  alike = λ i less. absurd (omega arith);
  front = refl;
  differs = differs;
  parents = λ more. parents_here n m p q differs (omega arith);
}

pub parted : (p q : Path) → Apart p q → Parted p q (common p q)
parted [] q apart = absurd (true≢false apart.0)
parted (n ∷ p) [] apart = absurd (true≢false apart.1)
parted (n ∷ p) (m ∷ q) apart = on (same_name n m) refl (parted p q)
  where
    on : (b : Bool) → same_name n m ≡ b → (Apart p q → Parted p q (common p q)) → Parted (n ∷ p) (m ∷ q) (cond b (suc (common p q)) 0)
    on true same again = parted_down n m p q (common p q) same (again (apart_down n m p q same apart))
    on false differs again = parted_here n m p q differs

dir_is : (x y : ℕ) → (let d : Option Place = Some (Dir x) in d ≡ Some (Dir y)) → x ≡ y
dir_is x y e = cc

-- what look ups of both paths decided, where they part
pub fork_of : (f : Blocks) (kept : ℕ → Bool) (root : ℕ) (old new : Path) (old_trail new_trail : List ℕ) (place : Place) → Apart old new → IsHeld f kept (Dir root) → IsTrail f root old old_trail → IsTrail f root new new_trail
    → leads f (Dir root) old ≡ Some place → (same_path (parent_of old) (parent_of new) ≡ false → has_room (look_up f root new) ≡ true) → IsFork f kept old old_trail new new_trail place (common old new)
fork_of f kept root old new old_trail new_trail place apart held old_way new_way led room = record {
  old_way = record { root = root; trail_of = old_way; held = held };
  new_way = record { root = root; trail_of = new_way; held = held };
  in_old = is.in_first;
  in_new = is.in_second;
  same = dir_is (slice_index new_trail fork) (slice_index old_trail fork) (sym (new_way.through fork is.in_second) ∙ ap (leads f (Dir root)) (sym is.front) ∙ old_way.through fork is.in_first);
  differs = is.differs;
  stands = stands_now;
  gone = λ more. stands_taken f root old old_trail old_way (let less = is.in_first in omega arith) (ap is_some led);
  here = λ more. room_taken f root new new_trail (Some place) new_way (let less = is.in_second in omega arith) (room (is.parents more));
}
  where
    fork : ℕ
    fork = common old new

    is : Parted old new (common old new)
    is = parted old new apart

    last_or_more : (i n : ℕ) → i < n → (i + 1 ≡ n) ⊎ (i + 1 < n)
    last_or_more i n less = grind arith

    stands_now : IsSome (child f (Dir (slice_index old_trail (common old new))) (get_or old (common old new) []))
    stands_now = elim (last_or_more (common old new) (length old) is.in_first) [
      | inl last ↦ ap is_some (sym (leads_last f root old old_trail (common old new) old_way last) ∙ led)
      | inr more ↦ ap is_some (level_child f root old old_trail (common old new) old_way more)
    ]
