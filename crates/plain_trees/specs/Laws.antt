-- The laws of trees and of files' bytes.
use Rattle.std.specs.Prelude.{◌≡◌, ◌≢◌, ◌↔◌, ℕ, ◌+◌, ◌-◌, ◌<◌, max, Bool, false, nat_lt, nat_le, ◌&&◌, if◌then◌else◌, Some, None, IsSome, List, [], ◌∷◌, ◌++◌, length, map, slice_index, Contains}
use Rattle.std.specs.Option.{option_map}
use Rattle.std.specs.List.Sorted.{IsStrictlySortedBy}
use Rattle.std.specs.FinMap.{get}
use Rattle.fs_types.specs.Names.{Name, Path, name_cmp}
use Rattle.plain_trees.specs.Contents as plain
use Rattle.plain_trees.specs.Contents.{Entry, Contents, is_dir, under, nothing, leaf, graft, IsLast, parent_of, Apart, begins, IsTree, lookup_refusal, overwritten, resized}
use Rattle.plain_trees.specs.Trees.{Tree, put, remove, move, children}
use Rattle.fs_types.specs.declared.fault.Fault.TheVariants.{NoEntry, NotDirectory}

-- put, remove: one path is changed and no other
pub record PutLaw : Type 0 where
  pub here : (t : Tree) (p : Path) (x : Entry) → get (put t p x) p ≡ Some x
  pub others : (t : Tree) (p q : Path) (x : Entry) → q ≢ p → get (put t p x) q ≡ get t q

pub record RemoveLaw : Type 0 where
  pub here : (t : Tree) (p : Path) → get (remove t p) p ≡ None
  pub others : (t : Tree) (p q : Path) → q ≢ p → get (remove t p) q ≡ get t q

-- move, of paths of which neither begins the other: what stood below `old` stands below `new`, nothing else
-- stands there, nothing is left below `old`, and every other path stays
pub record MoveLaw : Type 0 where
  pub moved : (t : Tree) (old new rest : Path) → Apart old new → get (move t old new) (new ++ rest) ≡ get t (old ++ rest)
  pub gone : (t : Tree) (old new rest : Path) → Apart old new → get (move t old new) (old ++ rest) ≡ None
  pub others : (t : Tree) (old new q : Path) → begins old q ≡ false → begins new q ≡ false → get (move t old new) q ≡ get t q

-- an edit of a tree as a finite map is that of what stands at each path
pub record ContentsLaw : Type 0 where
  pub put : (t : Tree) (p : Path) (x : Entry) → get (put t p x) ≡ plain.put (get t) p x
  pub removed : (t : Tree) (p : Path) → get (remove t p) ≡ plain.remove (get t) p
  pub moved : (t : Tree) (old new : Path) → get (move t old new) ≡ plain.move (get t) old new

-- each edit is a graft: of one entry, of nothing, and of what stood at `old`
pub record GraftLaw : Type 0 where
  pub put : (t : Contents) (p : Path) (x : Entry) → IsLast t p → plain.put t p x ≡ graft t p (leaf x)
  pub removed : (t : Contents) (p : Path) → IsLast t p → plain.remove t p ≡ graft t p nothing
  pub moved : (t : Contents) (old new : Path) → plain.move t old new ≡ graft (graft t old nothing) new (under t old)
  pub deeper : (t s : Contents) (p q : Path) → graft t (p ++ q) s ≡ graft t p (graft (under t p) q s)
  pub inside : (t s : Contents) (p : Path) → under (graft t p s) p ≡ s

-- two trees that have the same at each path are one
abbrev pub SameTreeLaw : Type 0
SameTreeLaw = (t s : Tree) → ((q : Path) → get t q ≡ get s q) → t ≡ s

-- a tree stays one: put in a directory, with a file only where nothing stands below; remove of what has
-- nothing below; move into a directory, of paths of which neither begins the other
pub record ShapeLaw : Type 0 where
  pub put : (t : Contents) (p : Path) (x : Entry) → IsTree t → 0 < length p → t (parent_of p) ≡ Some Entry.Dir → ((n : Name) → IsSome (t (p ++ n ∷ [])) → x ≡ Entry.Dir) → IsTree (plain.put t p x)
  pub removed : (t : Contents) (p : Path) → IsTree t → 0 < length p → ((n : Name) → t (p ++ n ∷ []) ≡ None) → IsTree (plain.remove t p)
  pub moved : (t : Contents) (old new : Path) → IsTree t → Apart old new → t (parent_of new) ≡ Some Entry.Dir → IsTree (plain.move t old new)

-- a listing has the names in byte order, and exactly those that stand in the directory
pub record ListingLaw : Type 0 where
  pub in_order : (t : Tree) (p : Path) → IsStrictlySortedBy name_cmp (map (λ e. e.0) (children t p))
  pub exact : (t : Tree) (p : Path) (n : Name) (b : Bool) → Contains (children t p) (n, b) ↔ (option_map is_dir (get t (p ++ n ∷ [])) ≡ Some b)

-- path resolution succeeds exactly where a directory stands above, and fails at the first name that is
-- missing or is a file's
pub record LookupLaw : Type 0 where
  pub found : (t : Tree) (p : Path) (n : Name) → IsTree (get t) → (lookup_refusal (get t) (p ++ n ∷ []) ≡ None) ↔ (get t p ≡ Some Entry.Dir)
  pub missing : (t : Tree) (p : Path) (n m : Name) (rest : Path) → get t p ≡ Some Entry.Dir → IsTree (get t) → get t (p ++ n ∷ []) ≡ None → lookup_refusal (get t) (p ++ n ∷ m ∷ rest) ≡ Some NoEntry
  pub file : (t : Tree) (p : Path) (n m : Name) (rest : Path) (bytes : List ℕ) → get t p ≡ Some Entry.Dir → IsTree (get t) → get t (p ++ n ∷ []) ≡ Some (Entry.File bytes) → lookup_refusal (get t) (p ++ n ∷ m ∷ rest) ≡ Some NotDirectory

-- pwrite, byte by byte: the new bytes at their place, elsewhere the old ones, and zeros in a gap
pub record OverwrittenLaw : Type 0 where
  pub long : (old bytes : List ℕ) (offset : ℕ) → length (overwritten old offset bytes) ≡ max (length old) (offset + length bytes)
  pub each : (old bytes : List ℕ) (offset i : ℕ) → slice_index (overwritten old offset bytes) i ≡ (if nat_le offset i && nat_lt i (offset + length bytes) then slice_index bytes (i - offset) else slice_index old i)

-- ftruncate, byte by byte: the old bytes, and zeros past the old end
pub record ResizedLaw : Type 0 where
  pub long : (old : List ℕ) (n : ℕ) → length (resized old n) ≡ n
  pub each : (old : List ℕ) (n i : ℕ) → i < n → slice_index (resized old n) i ≡ slice_index old i
