-- No node of a directory is a body node.
use Rattle.std.proofs.Common.{◌≡◌, ℕ, cond, Option, Some, None, List, ap}
use Rattle.node_format.specs.Headers.{field}
use Rattle.node_format.specs.Links.{Link}
use Rattle.node_format.specs.declared.place.Place.{Place}
use Rattle.node_format.proofs.LinkLaws.{link_no_body}
use Rattle.nodes.specs.Bodies.{index_of}
use Rattle.nodes.specs.Chains.{link_of}

abbrev pub some_place : Place → Option Place
some_place place = Some place

pub place_is : (x y : Place) → some_place x ≡ some_place y → x ≡ y
place_is x y e = cc

-- a node of a directory has no index
pub directory_no_index : (node : Option (List ℕ)) (l : Link) → link_of node ≡ Some l → index_of node ≡ None
directory_no_index None l e = cc
directory_no_index (Some bytes) l e = ap (λ test. cond test (Some (field bytes 4)) None) (link_no_body bytes l e)
