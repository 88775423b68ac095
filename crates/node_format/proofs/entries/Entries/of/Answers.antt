use Rattle.std.proofs.Common.{◌∙◌, arith}
use Rattle.node_format.proofs.LinkLaws.{is_found, link_only}
use Rattle.node_format.proofs.entries.Entries.of.Goals as goal

pub returns-clause-found : goal.returns-clause-found
returns-clause-found c = is_found c.args.bytes.now c.read.result (λ i. omega (arith, c.type_inv.bytes i)) c.read.ensures

pub returns-clause-only : goal.returns-clause-only
returns-clause-only c = λ l is. c.read.ensures ∙ link_only c.args.bytes.now l is
