-- All paths of a tree are listed.
use Rattle.std.proofs.Common.{◌≡◌, ◌≢◌, ◌≤◌, ℕ, zero, suc, Bool, true, Option, Some, None, IsSome, List, [], ◌∷◌, ◌++◌, length, append_assoc, refl, sym, ap, subst, arith}
use Rattle.std.proofs.lemmas.Bool.{true≢false, leb-true, and_parts}
use Rattle.std.proofs.lemmas.List.Elements.{Contains-append_left, Contains-append_right}
use Rattle.std.specs.Prelude.{Contains, nat_le, if◌then◌else◌}
use Rattle.std.specs.List.{flat_map, list_all}
use Rattle.std.specs.Option.{option_map}
use Rattle.std.specs.FinMap.{get}
use Rattle.fs_types.specs.Names.{Name, Path, is_path, is_name}
use Rattle.fs_types.specs.declared.limits.TheConstants.{MAX_NAMES}
use Rattle.plain_trees.specs.Contents.{Entry, is_dir}
use Rattle.plain_trees.specs.Trees.{Tree, children, IsFileTree}
use Rattle.plain_trees.proofs.Listings.{listing_law}
use Rattle.plain_trees.proofs.Lookups.{above}
use Rattle.tree_differences.specs.Updates.{paths_below, paths_of}

-- a list has each path but the root at which something stands in a tree
abbrev pub IsListing : Tree → List Path → Type 0
IsListing t paths = (path : Path) → path ≢ [] → IsSome (get t path) → Contains paths path

pub contains_first : {X : Type 0} (x : X) (xs : List X) → Contains (x ∷ xs) x
contains_first x xs = (0, omega arith, refl)

pub contains_later : {X : Type 0} (x y : X) (xs : List X) → Contains xs x → Contains (y ∷ xs) x
contains_later x y xs (k, below, at) = (suc k, omega arith, at)

contains_joined : {X A : Type 0} (f : X → List A) (xs : List X) (x : X) (a : A) → Contains xs x → Contains (f x) a → Contains (flat_map f xs) a
contains_joined f [] x a (k, below, at) has = absurd (omega arith)
contains_joined f (y ∷ xs) x a (zero, below, at) has = Contains-append_left (f y) (flat_map f xs) a (subst (λ z. Contains (f z) a) (sym at) has)
contains_joined f (y ∷ xs) x a (suc k, below, at) has = Contains-append_right (f y) (flat_map f xs) a (contains_joined f xs x a (k, omega arith, at) has)

module _ (t : Tree) (lawful : IsFileTree t) where
  -- an entry of a directory, and what stands below it
  row : ℕ → Path → Name × Bool → List Path
  row levels directory entry = (directory ++ entry.0 ∷ []) ∷ (if entry.1 then paths_below t levels (directory ++ entry.0 ∷ []) else [])

  child_listed : (directory : Path) (n : Name) (x : Entry) → get t (directory ++ n ∷ []) ≡ Some x → Contains (children t directory) (n, is_dir x)
  child_listed directory n x there = (listing_law.exact t directory n (is_dir x)).1 (ap (option_map is_dir) there)

  pub below_listed : (levels : ℕ) (directory : Path) (n : Name) (rest : Path) → length (n ∷ rest) ≤ levels → IsSome (get t (directory ++ n ∷ rest)) → Contains (paths_below t levels directory) (directory ++ n ∷ rest)
  unfolding paths_below row
  below_listed zero directory n rest short there = absurd (omega arith)
  below_listed (suc levels) directory n [] short there = go (get t (directory ++ n ∷ [])) refl there
    where
      go : (o : Option Entry) → get t (directory ++ n ∷ []) ≡ o → IsSome o → Contains (paths_below t (suc levels) directory) (directory ++ n ∷ [])
      go None is some = absurd (true≢false (sym some))
      go (Some x) is some =
          contains_joined (row levels directory) (children t directory) (n, is_dir x) (directory ++ n ∷ []) (child_listed directory n x is)
          (contains_first (directory ++ n ∷ []) (if is_dir x then paths_below t levels (directory ++ n ∷ []) else []))
  below_listed (suc levels) directory n (m ∷ rest) short there =
      let joined : (directory ++ n ∷ []) ++ (m ∷ rest) ≡ directory ++ n ∷ m ∷ rest = append_assoc directory (n ∷ []) (m ∷ rest) in
      let deeper : IsSome (get t ((directory ++ n ∷ []) ++ m ∷ rest)) = subst (λ (p : Path). IsSome (get t p)) (sym joined) there in
      let is : get t (directory ++ n ∷ []) ≡ Some Entry.Dir = above (get t) lawful.shape (directory ++ n ∷ []) rest m deeper in
      let has = below_listed levels (directory ++ n ∷ []) m rest (omega arith) deeper in
      subst (Contains (paths_below t (suc levels) directory)) joined
      (contains_joined (row levels directory) (children t directory) (n, true) ((directory ++ n ∷ []) ++ m ∷ rest) (child_listed directory n Entry.Dir is)
      (contains_later ((directory ++ n ∷ []) ++ m ∷ rest) (directory ++ n ∷ []) (paths_below t levels (directory ++ n ∷ [])) has))

  pub listed : IsListing t (paths_of t)
  listed [] root there = absurd (root refl)
  listed (n ∷ rest) root there = below_listed MAX_NAMES [] n rest (short (n ∷ rest) (lawful.paths (n ∷ rest) there)) there
    where
      short : (p : Path) → is_path p ≡ true → length p ≤ MAX_NAMES
      short p is = leb-true (length p) 16 (and_parts (list_all is_name p) (nat_le (length p) 16) is).1
