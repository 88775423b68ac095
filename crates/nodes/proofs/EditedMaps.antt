-- Edits of a tree as edits of its finite map.
use Rattle.std.proofs.Common.{◌≡◌, ◌≢◌, ℕ, ◌-◌, Option, Some, None, [], ◌∷◌, ◌++◌, length, refl, sym, ap, subst, ◌∙◌, arith}
use Rattle.std.specs.Option.{option_map, option_and_then}
use Rattle.std.specs.FinMap.{get}
use Rattle.fs_types.specs.Names.{Name, Path}
use Rattle.plain_trees.specs.Contents as plain
use Rattle.plain_trees.specs.Contents.{Contents, Entry, nothing, leaf, graft, IsLast}
use Rattle.plain_trees.specs.Trees.{put, remove}
use Rattle.plain_trees.proofs.Edits.{same_tree}
use Rattle.plain_trees.proofs.Grafts.{graft_law, contents_law}
use Rattle.node_format.specs.declared.place.Place.{Place}
use Rattle.node_format.specs.declared.place.Place.TheVariants.{Dir, File}
use Rattle.nodes.specs.Bodies.{Blocks, body, IsBody}
use Rattle.nodes.specs.Trees.{child, leads, entry_at, tree_at, tree, IsWholePlace, HasTree, IsRoot, root_tree}
use Rattle.nodes.specs.TreeLaws.{BlockRemoveLaw, PutFileLaw}
use Rattle.nodes.proofs.Entries.{place_is}
use Rattle.nodes.proofs.EditedTrees.{edit_law}
use Rattle.nodes.proofs.RootMaps.{map_law}

-- ---- where nothing stands below

-- nothing stands below a path that leads to what has no names
pub last_at : (capacity : ℕ) (f : Blocks) (path : Path) (at place : Place) → leads f at path ≡ Some place → ((n : Name) → child f place n ≡ None) → IsLast (tree_at capacity f at) path
last_at capacity f [] at place is none n q =
    ap (λ (o : Option Place). option_map (entry_at capacity f) (option_and_then (λ next. leads f next q) o)) (ap (λ (p : Place). child f p n) (place_is at place is) ∙ none n)
last_at capacity f (k ∷ path) at place is none n q = on (child f at k) is (λ next. last_at capacity f path next place)
  where
    on : (o : Option Place) → option_and_then (λ next. leads f next path) o ≡ Some place
        → ((next : Place) → leads f next path ≡ Some place → ((n : Name) → child f place n ≡ None) → IsLast (tree_at capacity f next) path)
        → option_map (entry_at capacity f) (option_and_then (λ next. leads f next (path ++ n ∷ q)) o) ≡ None
    on None e again = refl
    on (Some next) e again = again next e none n q

-- nothing stands below a path where no directory stands
pub last_without_directory : (capacity : ℕ) (f : Blocks) (path : Path) (at : Place) → tree_at capacity f at path ≢ Some Entry.Dir → IsLast (tree_at capacity f at) path
last_without_directory capacity f [] (Dir block) differs n q = absurd (differs refl)
last_without_directory capacity f [] (File head size) differs n q = refl
last_without_directory capacity f (k ∷ path) at differs n q = on (child f at k) differs (last_without_directory capacity f path)
  where
    on : (o : Option Place) → option_map (entry_at capacity f) (option_and_then (λ next. leads f next path) o) ≢ Some Entry.Dir
        → ((next : Place) → tree_at capacity f next path ≢ Some Entry.Dir → IsLast (tree_at capacity f next) path)
        → option_map (entry_at capacity f) (option_and_then (λ next. leads f next (path ++ n ∷ q)) o) ≡ None
    on None e again = refl
    on (Some next) e again = again next e n q

-- ---- files

file_tree : (capacity : ℕ) (f : Blocks) (head size : ℕ) (q : Path) → tree_at capacity f (File head size) q ≡ leaf (Entry.File (body capacity f head size)) q
file_tree capacity f head size [] = refl
file_tree capacity f head size (n ∷ q) = refl

file_shape : (capacity : ℕ) (f : Blocks) (head size depth : ℕ) → IsBody capacity f head size → HasTree capacity f (File head size) depth
file_shape capacity f head size depth is [] there e = (subst (IsWholePlace capacity f) (place_is (File head size) there e) is, omega arith)
file_shape capacity f head size depth is (n ∷ q) there e = absurd cc

-- ---- the edits

pub remove_law : BlockRemoveLaw
remove_law capacity old new kept kept' from to path keeps held root last deep rewritten =
    let law = edit_law old new kept kept' from to path None keeps held rewritten in
    let whole : IsRoot capacity new to = law.shape capacity 16 root deep tt in
    let grafted : tree capacity new to ≡ graft (tree capacity old from) path nothing = law.grafted capacity 16 root in
    let taken : plain.remove (tree capacity old from) path ≡ graft (tree capacity old from) path nothing = graft_law.removed (tree capacity old from) path last in
    let all : get (root_tree capacity new to) ≡ get (remove (root_tree capacity old from) path) =
    (map_law capacity new to whole).same ∙ grafted ∙ sym taken ∙ ap (λ (t : Contents). plain.remove t path) (sym (map_law capacity old from root).same) ∙ sym (contents_law.removed (root_tree capacity old from) path) in
    (whole, same_tree (root_tree capacity new to) (remove (root_tree capacity old from) path) (λ q i. all i q))

pub put_file_law : PutFileLaw
put_file_law capacity old new kept kept' from to head size path keeps held root differs deep is rewritten =
    let law = edit_law old new kept kept' from to path (Some (File head size)) keeps held rewritten in
    let whole : IsRoot capacity new to = law.shape capacity 16 root deep (file_shape capacity new head size (16 - length path) is) in
    let x = Entry.File (body capacity new head size) in
    let grafted : tree capacity new to ≡ graft (tree capacity old from) path (leaf x) =
    law.grafted capacity 16 root ∙ ap (graft (tree capacity old from) path) (λ i q. file_tree capacity new head size q i) in
    let placed : plain.put (tree capacity old from) path x ≡ graft (tree capacity old from) path (leaf x) = graft_law.put (tree capacity old from) path x (last_without_directory capacity old path (Dir from) differs) in
    let all : get (root_tree capacity new to) ≡ get (put (root_tree capacity old from) path x) =
    (map_law capacity new to whole).same ∙ grafted ∙ sym placed ∙ ap (λ (t : Contents). plain.put t path x) (sym (map_law capacity old from root).same) ∙ sym (contents_law.put (root_tree capacity old from) path x) in
    (whole, same_tree (root_tree capacity new to) (put (root_tree capacity old from) path x) (λ q i. all i q))
