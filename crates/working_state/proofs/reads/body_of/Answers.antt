use Rattle.std.proofs.Common.{refl}
use Rattle.working_state.proofs.reads.body_of.Goals as goal

pub returns-in-Some-clause-looks : goal.returns-in-Some-clause-looks
returns-in-Some-clause-looks g c = record { same_nodes = refl; same_kept = refl; same_writes = refl; came = g.met.N.Nodes.follows_itself c.args.nodes.now; sound = c.requires.sound; same_limit = refl; same_blocks = refl }

pub returns-in-Some-clause-found : goal.returns-in-Some-clause-found
returns-in-Some-clause-found g c = c.requires.known c.in-Some.known c.in-Some.is
