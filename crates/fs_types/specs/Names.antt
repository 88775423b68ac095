-- Names, paths and names of checkpoints, by the bytes that spell them.
use Rattle.std.specs.Prelude.{ℕ, Bool, true, not, ◌==◌, ◌&&◌, ◌||◌, nat_lt, nat_le, nat_eq, Option, Some, None, List, [], ◌∷◌, length, drop, if◌then◌else◌}
use Rattle.std.specs.List.{list_all, slice_split}
use Rattle.std.specs.Cmp.Lexicographic.{slice_cmp}
use Rattle.std.specs.Ordering.{nat_cmp, is_lt}
use Rattle.std.specs.declared.cmp.Ordering.{Ordering}
use Rattle.fs_types.specs.declared.limits.TheConstants.{MAX_NAME_BYTES, MAX_NAMES, MAX_CHECKPOINT_BYTES}
use Rattle.fs_types.specs.declared.fault.Fault.{Fault}
use Rattle.fs_types.specs.declared.fault.Fault.TheVariants.{NoEntry, Invalid, NameTooLong}
use lib.Pointwise.{pointwise}

-- a name of a directory entry, by its bytes
abbrev pub Name : Type 0
Name = List ℕ

-- the names from the root down; the root is the empty list
abbrev pub Path : Type 0
Path = List Name

-- two names are the same bytes
abbrev pub same_name : Name → Name → Bool
same_name = pointwise nat_eq

-- two paths are the same names
abbrev pub same_path : Path → Path → Bool
same_path = pointwise same_name

-- byte order of names, and of paths by their names
abbrev pub name_cmp : Name → Name → Ordering
name_cmp = slice_cmp nat_cmp

abbrev pub path_cmp : Path → Path → Ordering
path_cmp = slice_cmp name_cmp

-- a name comes after another one in byte order; where none is given, each does
abbrev pub is_after : Option Name → Name → Bool
is_after None name = true
is_after (Some from) name = is_lt (name_cmp from name)

-- `.` and `..`
abbrev pub is_dots : Name → Bool
is_dots name = same_name name (46 ∷ []) || same_name name (46 ∷ 46 ∷ [])

-- not empty, without `/` and NUL, neither `.` nor `..`
abbrev pub is_lawful : Name → Bool
is_lawful name = nat_lt 0 (length name) && not (is_dots name) && list_all (λ b. not (b == 0) && not (b == 47)) name

-- a name is lawful and not too long
abbrev pub is_name : Name → Bool
is_name name = is_lawful name && nat_le (length name) MAX_NAME_BYTES

-- lawful names, and not too many
abbrev pub is_path : Path → Bool
is_path path = list_all is_name path && nat_le (length path) MAX_NAMES

-- why bytes are no name: an unlawful one comes before one that is too long
abbrev pub name_refusal : List ℕ → Option Fault
name_refusal bytes = if not (is_lawful bytes) then Some Invalid else if not (is_name bytes) then Some NameTooLong else None

-- what stands between the slashes after the first byte; none in `/`
abbrev pub components_of : List ℕ → Path
components_of bytes = if nat_le (length bytes) 1 then [] else slice_split (λ b. b == 47) (drop 1 bytes)

-- why components are no path: an unlawful one comes before one that is too long, and before too many
abbrev pub components_refusal : Path → Option Fault
components_refusal names = if not (list_all is_lawful names) then Some Invalid else if not (is_path names) then Some NameTooLong else None

-- why bytes spell no path (POSIX.1-2017 ENOENT for the empty one)
abbrev pub path_refusal : List ℕ → Option Fault
path_refusal [] = Some NoEntry
path_refusal (first ∷ rest) = if first == 47 then components_refusal (components_of (first ∷ rest)) else Some Invalid

-- at least one byte, not too many, each from 0x21 to 0x7E
abbrev pub is_checkpoint_name : List ℕ → Bool
is_checkpoint_name bytes = nat_lt 0 (length bytes) && nat_le (length bytes) MAX_CHECKPOINT_BYTES && list_all (λ b. nat_le 33 b && nat_le b 126) bytes
