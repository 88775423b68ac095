-- What stands at each path of a tree, as a function, and the plain edits of it.
use Rattle.std.specs.Prelude.{◌≡◌, ℕ, ◌+◌, ◌-◌, ◌/◌, min, max, nat_lt, nat_eq, Bool, true, false, Option, Some, None, is_some, IsSome, List, [], ◌∷◌, ◌++◌, length, take, replicate, drop, if◌then◌else◌}
use Rattle.std.specs.Option.{option_or}
use Rattle.fs_types.specs.Names.{Name, Path, same_name, same_path}
use Rattle.fs_types.specs.declared.fault.Fault.{Fault}
use Rattle.fs_types.specs.declared.fault.Fault.TheVariants.{NoEntry, NotDirectory}
use lib.Pointwise.{pointwise}

-- a directory, or a file with its bytes (POSIX.1-2017)
pub data Entry : Type 0 where
  Dir : Entry
  File : (bytes : List ℕ) → Entry

-- what stands at each path
abbrev pub Contents : Type 0
Contents = Path → Option Entry

abbrev pub is_dir : Entry → Bool
is_dir Dir = true
is_dir (File bytes) = false

-- what is left of a path after a beginning of it
abbrev pub beneath : Path → Path → Option Path
beneath [] q = Some q
beneath (n ∷ p) [] = None
beneath (n ∷ p) (m ∷ q) = if same_name n m then beneath p q else None

-- the first path begins the second, or is it
abbrev pub begins : Path → Path → Bool
begins p q = is_some (beneath p q)

-- neither path begins the other
abbrev pub Apart : Path → Path → Type 0
Apart p q = (begins p q ≡ false) × (begins q p ≡ false)

-- the directory that a path stands in
abbrev pub parent_of : Path → Path
parent_of p = take (length p - 1) p

-- the tree below a path, with the path as its root
abbrev pub under : Contents → Path → Contents
under t p q = t (p ++ q)

abbrev pub nothing : Contents
nothing p = None

-- one entry, at the root
abbrev pub leaf : Entry → Contents
leaf x [] = Some x
leaf x (n ∷ p) = None

-- all that stands at a path and below is replaced
abbrev pub grafted_at : Contents → Contents → Option Path → Path → Option Entry
grafted_at t s (Some rest) q = s rest
grafted_at t s None q = t q

abbrev pub graft : Contents → Path → Contents → Contents
graft t p s q = grafted_at t s (beneath p q) q

-- this entry stands at the path, and all else stays
abbrev pub put : Contents → Path → Entry → Contents
put t p x q = if same_path q p then Some x else t q

-- nothing stands at the path, and all else stays
abbrev pub remove : Contents → Path → Contents
remove t p q = if same_path q p then None else t q

-- what stood at `old` and below stands at `new` and below, nothing else does, and all else stays (POSIX.1-2017 rename)
abbrev pub moved_at : Contents → Path → Option Path → Option Path → Path → Option Entry
moved_at t old (Some rest) _ q = t (old ++ rest)
moved_at t old None (Some rest) q = None
moved_at t old None None q = t q

abbrev pub move : Contents → Path → Path → Contents
move t old new q = moved_at t old (beneath new q) (beneath old q) q

-- nothing stands below the path
abbrev pub IsLast : Contents → Path → Type 0
IsLast t p = (n : Name) (q : Path) → t (p ++ n ∷ q) ≡ None

-- a directory stands at the root, and one above each other path
pub record IsTree (t : Contents) : Type 0 where
  pub root : t [] ≡ Some Dir
  pub parents : (p : Path) (n : Name) → IsSome (t (p ++ n ∷ [])) → t p ≡ Some Dir

-- why what stands here leads to nothing below it
abbrev pub way_refusal : Option Entry → Option Fault
way_refusal None = Some NoEntry
way_refusal (Some (File bytes)) = Some NotDirectory
way_refusal (Some Dir) = None

-- path resolution (POSIX.1-2017 4.13): from the root down, each name but the last has to be a directory's
abbrev pub lookup_refusal : Contents → Path → Option Fault
lookup_refusal t [] = None
lookup_refusal t (n ∷ []) = None
lookup_refusal t (n ∷ m ∷ p) = option_or (way_refusal (t (n ∷ []))) (lookup_refusal (under t (n ∷ [])) (m ∷ p))

-- a file's bytes after ftruncate (POSIX.1-2017): cut, or with zeros up to the length
abbrev pub resized : List ℕ → ℕ → List ℕ
resized old n = take n old ++ replicate (n - length old) 0

-- a file's bytes after pwrite of `bytes` at `offset` (POSIX.1-2017): a gap past the end is zeros
abbrev pub overwritten : List ℕ → ℕ → List ℕ → List ℕ
overwritten old offset bytes = resized old offset ++ bytes ++ drop (offset + length bytes) old

-- two files have the same bytes
abbrev pub same_bytes : List ℕ → List ℕ → Bool
same_bytes = pointwise nat_eq

-- at most `count` bytes from `offset` on; fewer near the end
abbrev pub read_from : List ℕ → ℕ → ℕ → List ℕ
read_from bytes offset count = take count (drop offset bytes)

-- how many nodes a change of a file's bytes writes, where a node has room for so many

-- the body nodes of a file from the one that has the place `from` up to its last
abbrev pub nodes_from : ℕ → ℕ → ℕ → ℕ
nodes_from capacity from n = (n - 1) / capacity - from / capacity + 1

abbrev pub pwrite_need : ℕ → ℕ → ℕ → ℕ → ℕ
pwrite_need capacity n offset count = nodes_from capacity (min offset n) (max n (offset + count))

-- the body nodes of a file of so many bytes, which has none where it has no bytes
abbrev pub body_need : ℕ → ℕ → ℕ
body_need capacity count = if nat_lt 0 count then nodes_from capacity 0 count else 0

abbrev pub ftruncate_need : ℕ → ℕ → ℕ → ℕ
ftruncate_need capacity n m = if nat_lt n m then nodes_from capacity n m else 0
