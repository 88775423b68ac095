use Rattle.nodes.proofs.Chains.{chain_frame, step_law, first_law, tail_law}
use Rattle.nodes.proofs.ChainCounts.{count_law}
use Rattle.nodes.proofs.laws_of_block_trees.chain_laws.Goals as goal

pub returns-clause-frame : goal.returns-clause-frame
returns-clause-frame c = chain_frame

pub returns-clause-step : goal.returns-clause-step
returns-clause-step c = step_law

pub returns-clause-first : goal.returns-clause-first
returns-clause-first c = first_law

pub returns-clause-tail : goal.returns-clause-tail
returns-clause-tail c = tail_law

pub returns-clause-count : goal.returns-clause-count
returns-clause-count c = count_law
