-- Whole files put in trees, one and many of a directory.
use Rattle.std.specs.Prelude.{ℕ, List, [], ◌∷◌, length, sum_by}
use Rattle.fs_types.specs.Names.{Path}
use Rattle.fs_types.specs.NamedFiles.{path_in}
use Rattle.fs_types.specs.declared.named_file.NamedFile.{NamedFile}
use Rattle.plain_trees.specs.Contents.{Entry, body_need}
use Rattle.plain_trees.specs.Trees.{Tree, put}

-- the new bytes of a file, put in its place
abbrev pub file_put : Tree → Path → List ℕ → Tree
file_put t path bytes = put t path (Entry.File bytes)

-- files of a directory, put in their places one after the other
abbrev pub files_put : Tree → Path → List NamedFile → Tree
files_put t directory [] = t
files_put t directory (file ∷ files) = files_put (file_put t (path_in directory file) file.bytes) directory files

-- how many nodes the bodies of files have, where a node has room for so many bytes
abbrev pub bodies_need : ℕ → List NamedFile → ℕ
bodies_need capacity files = sum_by (λ file. body_need capacity (length file.bytes)) files
