-- What a look up told of where a file may be put, and of what can be taken out.
use Rattle.std.proofs.Common.{◌≡◌, ◌≢◌, ℕ, ◌<◌, ◌≤◌, true, Some, Ok, [], ◌∷◌, length, sym, refl, ap, subst, ◌∙◌, arith}
use Rattle.std.proofs.lemmas.Bool.{and_parts, leb-true}
use Rattle.std.specs.Prelude.{nat_le, not, IsSome}
use Rattle.std.specs.List.{list_all}
use Rattle.fs_types.specs.Names.{Path, is_name, is_path}
use Rattle.plain_trees.specs.Contents.{Entry}
use Rattle.node_format.specs.declared.place.Place.TheVariants.{Dir}
use Rattle.nodes.specs.Bodies.{Blocks}
use Rattle.nodes.specs.Trees.{leads, tree}
use Rattle.directory.specs.declared.lookups.Found.{Found}
use Rattle.directory.specs.declared.lookups.Found.TheVariants as found
use Rattle.directory.specs.Lookups.{look_up, LeadsToDirectories}
use Rattle.directory.specs.Trails.{has_room}
use Rattle.directory.proofs.LookupLaws.{found_is, found_leads, found_leads_file}
use Rattle.tree_edits.specs.Edits.{TakesFile, IsRemovable}

pub path_within : (path : Path) → is_path path ≡ true → length path ≤ 16
path_within path is = leb-true (length path) 16 (and_parts (list_all is_name path) (nat_le (length path) 16) is).1

-- where a file may be put, the path is below the root

pub file_below : (f : Blocks) (root : ℕ) (path : Path) (x : Found) → look_up f root path ≡ Ok x → TakesFile x → 0 < length path
file_below f root [] (found.Missing full) led takes = absurd cc
file_below f root [] (found.File head size) led takes = absurd cc
file_below f root [] (found.Dir block) led takes = absurd takes
file_below f root (n ∷ path) x led takes = omega arith

-- and where a file was found
pub file_named : (f : Blocks) (root : ℕ) (path : Path) (head size : ℕ) → look_up f root path ≡ Ok (found.File head size) → 0 < length path
file_named f root path head size led = file_below f root path (found.File head size) led tt

-- it has room
pub file_room : (f : Blocks) (root : ℕ) (path : Path) (x : Found) → look_up f root path ≡ Ok x → TakesFile x → has_room (look_up f root path) ≡ true
file_room f root path (found.Missing full) led takes = ap has_room led ∙ ap not takes
file_room f root path (found.File head size) led takes = ap has_room led
file_room f root path (found.Dir block) led takes = absurd takes

-- and no directory stands there
pub no_directory : (capacity : ℕ) (f : Blocks) (root : ℕ) (path : Path) (x : Found) → LeadsToDirectories f root → look_up f root path ≡ Ok x → TakesFile x → tree capacity f root path ≢ Some Entry.Dir
no_directory capacity f root path (found.Missing full) whole led takes is = let there = sym (found_is capacity f root path (found.Missing full) whole led).1 ∙ is in cc
no_directory capacity f root path (found.File head size) whole led takes is = let there = sym (found_is capacity f root path (found.File head size) whole led).1 ∙ is in cc
no_directory capacity f root path (found.Dir block) whole led takes is = absurd takes

-- what can be taken out stands there
pub removable_stands : (f : Blocks) (root : ℕ) (path : Path) (x : Found) → LeadsToDirectories f root → look_up f root path ≡ Ok x → IsRemovable f x → IsSome (leads f (Dir root) path)
removable_stands f root path (found.Missing full) whole led removable = absurd removable
removable_stands f root path (found.File head size) whole led removable = subst (λ o. IsSome o) (sym (found_leads_file f root path head size whole led)) refl
removable_stands f root path (found.Dir block) whole led removable = subst (λ o. IsSome o) (sym (found_leads f root path block whole led)) refl
