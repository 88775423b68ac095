-- A look up in a tree finds what stands at the path, or is refused as the path is.
use Rattle.std.specs.Prelude.{◌≡◌, ℕ, Result, Ok, Err}
use Rattle.fs_types.specs.Names.{Path}
use Rattle.fs_types.specs.declared.fault.Fault.{Fault}
use Rattle.nodes.specs.Bodies.{Blocks}
use Rattle.nodes.specs.Trees.{tree, IsRoot}
use Rattle.directory.specs.Lookups.{look_up, TellsLookup}
use Rattle.directory.specs.declared.lookups.Found.{Found}
use Rattle.directory.proofs.LookupLaws.{found_is, refused_is, rooted_leads}
use Rattle.directory.proofs.Directories.{seek_law}
use Rattle.directory.proofs.WayNodes.{most_nodes, tree_nodes}
use Rattle.directory.proofs.lookups.lookup_laws.Goals as goal

told : (capacity : ℕ) (f : Blocks) (root : ℕ) (path : Path) → IsRoot capacity f root → (answer : Result Found Fault) → look_up f root path ≡ answer → TellsLookup capacity f (tree capacity f root) path answer
told capacity f root path is_root (Ok found) e = found_is capacity f root path found (rooted_leads capacity f root is_root) e
told capacity f root path is_root (Err fault) e = refused_is capacity f root path fault is_root e

pub returns-clause-told : goal.returns-clause-told
returns-clause-told c capacity f root path is_root = told capacity f root path is_root (look_up f root path) (λ i. look_up f root path)

pub returns-clause-sought : goal.returns-clause-sought
returns-clause-sought c = seek_law

pub returns-clause-most : goal.returns-clause-most
returns-clause-most c = most_nodes

pub returns-clause-nodes : goal.returns-clause-nodes
returns-clause-nodes c = tree_nodes
