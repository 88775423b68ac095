use Rattle.std.proofs.Common.{[], inl, refl, arith}
use Rattle.node_format.proofs.LinkLaws.{link_again, link_is_node}
use Rattle.node_format.proofs.entries.empty_directory.Goals as goal

pub returns-clause-written : goal.returns-clause-written
returns-clause-written c = refl

pub returns-clause-read : goal.returns-clause-read
returns-clause-read c = link_again 0 [] refl (omega arith) (omega arith) (inl refl)

pub returns-clause-node : goal.returns-clause-node
returns-clause-node c = λ block capacity. link_is_node block 0 [] capacity refl (omega arith) (omega arith)
