use Rattle.std.proofs.Common.{◌≡◌, List, sym, subst}
use Rattle.fs_types.specs.declared.call.Call.{Call}
use Rattle.salvages.specs.Remade.{Makes}
use Rattle.known_nodes.specs.Rests.{rest_in}
use Rattle.known_nodes.specs.Tables.{blocks_in}
use Rattle.salvages.proofs.RestMaking.{begun_made}
use Rattle.salvages.proofs.rests.rest_at.Goals as goal

pub returns-clause-makes : goal.returns-clause-makes
returns-clause-makes c =
    let capacity = c.args.known.now.capacity in
    let f = blocks_in c.args.known.now.nodes in
    subst (λ (calls : List Call). Makes (rest_in capacity f c.args.root) calls) (sym c.in_ok-calls.ensures.calls) (begun_made capacity f c.args.root c.requires)
