-- How trees are stored as lists and pairs.
use Rattle.std.specs.Prelude.{ℕ, Option, List}
use Rattle.std.specs.Coded.{Coded, code_by, coded_ℕ, coded_list, coded_option}
use Rattle.std.specs.FinMap as finmap
use Rattle.plain_trees.specs.Contents.{Entry}
use Rattle.plain_trees.specs.Trees.{Tree}
use Rattle.memory_trees.specs.Nodes.{entry_of, bytes_in, entry_of-bytes_in}

-- a directory is no list of bytes
abbrev pub entry_code : Coded Entry
entry_code = code_by (Option (List ℕ)) (coded_option (coded_list coded_ℕ)) bytes_in entry_of entry_of-bytes_in

-- a path is a list of names, a name a list of bytes
abbrev pub tree_code : Coded Tree
tree_code = finmap.code (coded_list (coded_list coded_ℕ)) entry_code
