use Rattle.std.proofs.Common.{◌≡◌, length, sym, ap, ◌∙◌, arith}
use Rattle.std.proofs.lemmas.Result.{IfOk-weaker, IfErr-weaker}
use Rattle.directory.specs.Moves.{common}
use Rattle.directory.specs.Beside.{parting}
use Rattle.nodes.specs.WordLaws.{looks_wider}
use Rattle.directory.proofs.BesidePaths.{beside, goes_beside}
use Rattle.directory.proofs.trail.find_beside.Goals as goal

pub front-requires : goal.front-requires
front-requires g c =
    let common_is : c.common_names-common.result ≡ common c.args.other.now c.args.path.now = c.common_names-common.ensures ∙ (λ i. common (c.names.ensures.names i) (c.names-2.ensures.names i)) in
    let size : length c.blocks-blocks.result.now ≡ length c.args.other.now = ap length c.blocks-blocks.ensures ∙ c.requires.way.counted in
    let k_is : c.min-known.result ≡ parting c.args.other.now c.args.path.now = omega (arith, common_is, size) in
    (beside (g.N.Nodes.node c.args.nodes.now) c.args.root c.args.other.now c.args.path.now c.args.other_trail.now c.min-known.result k_is c.requires.way).known

pub find_from-requires-clause-within : goal.find_from-requires-clause-within
find_from-requires-clause-within g c =
    let common_is : c.common_names-common.result ≡ common c.args.other.now c.args.path.now = c.common_names-common.ensures ∙ (λ i. common (c.names.ensures.names i) (c.names-2.ensures.names i)) in
    let size : length c.blocks-blocks.result.now ≡ length c.args.other.now = ap length c.blocks-blocks.ensures ∙ c.requires.way.counted in
    let k_is : c.min-known.result ≡ parting c.args.other.now c.args.path.now = omega (arith, common_is, size) in
    let on = goes_beside (g.N.Nodes.node c.args.nodes.now) c.args.root c.args.other.now c.args.path.now c.args.other_trail.now c.front.result c.min-known.result c.block_or-block.result k_is c.requires.way c.front.ensures c.block_or-block.ensures in
    on.within

pub returns-clause-found : goal.returns-clause-found
returns-clause-found g c =
    let common_is : c.common_names-common.result ≡ common c.args.other.now c.args.path.now = c.common_names-common.ensures ∙ (λ i. common (c.names.ensures.names i) (c.names-2.ensures.names i)) in
    let size : length c.blocks-blocks.result.now ≡ length c.args.other.now = ap length c.blocks-blocks.ensures ∙ c.requires.way.counted in
    let k_is : c.min-known.result ≡ parting c.args.other.now c.args.path.now = omega (arith, common_is, size) in
    let on = goes_beside (g.N.Nodes.node c.args.nodes.now) c.args.root c.args.other.now c.args.path.now c.args.other_trail.now c.front.result c.min-known.result c.block_or-block.result k_is c.requires.way c.front.ensures c.block_or-block.ensures in
    IfOk-weaker c.find_from.result _ _ (λ r found. sym on.looked ∙ found) c.find_from.ensures.found

pub returns-clause-trail : goal.returns-clause-trail
returns-clause-trail g c leads_to =
    let common_is : c.common_names-common.result ≡ common c.args.other.now c.args.path.now = c.common_names-common.ensures ∙ (λ i. common (c.names.ensures.names i) (c.names-2.ensures.names i)) in
    let size : length c.blocks-blocks.result.now ≡ length c.args.other.now = ap length c.blocks-blocks.ensures ∙ c.requires.way.counted in
    let k_is : c.min-known.result ≡ parting c.args.other.now c.args.path.now = omega (arith, common_is, size) in
    let on = goes_beside (g.N.Nodes.node c.args.nodes.now) c.args.root c.args.other.now c.args.path.now c.args.other_trail.now c.front.result c.min-known.result c.block_or-block.result k_is c.requires.way c.front.ensures c.block_or-block.ensures in
    c.find_from.ensures.trail c.args.root leads_to on.way

pub returns-clause-refused : goal.returns-clause-refused
returns-clause-refused g c =
    let common_is : c.common_names-common.result ≡ common c.args.other.now c.args.path.now = c.common_names-common.ensures ∙ (λ i. common (c.names.ensures.names i) (c.names-2.ensures.names i)) in
    let size : length c.blocks-blocks.result.now ≡ length c.args.other.now = ap length c.blocks-blocks.ensures ∙ c.requires.way.counted in
    let k_is : c.min-known.result ≡ parting c.args.other.now c.args.path.now = omega (arith, common_is, size) in
    let on = goes_beside (g.N.Nodes.node c.args.nodes.now) c.args.root c.args.other.now c.args.path.now c.args.other_trail.now c.front.result c.min-known.result c.block_or-block.result k_is c.requires.way c.front.ensures c.block_or-block.ensures in
    IfErr-weaker c.find_from.result _ _ (λ fault refused path_fault. sym on.looked ∙ refused path_fault) c.find_from.ensures.refused

pub returns-clause-calls : goal.returns-clause-calls
returns-clause-calls g c =
    let common_is : c.common_names-common.result ≡ common c.args.other.now c.args.path.now = c.common_names-common.ensures ∙ (λ i. common (c.names.ensures.names i) (c.names-2.ensures.names i)) in
    let size : length c.blocks-blocks.result.now ≡ length c.args.other.now = ap length c.blocks-blocks.ensures ∙ c.requires.way.counted in
    let k_is : c.min-known.result ≡ parting c.args.other.now c.args.path.now = omega (arith, common_is, size) in
    let on = goes_beside (g.N.Nodes.node c.args.nodes.now) c.args.root c.args.other.now c.args.path.now c.args.other_trail.now c.front.result c.min-known.result c.block_or-block.result k_is c.requires.way c.front.ensures c.block_or-block.ensures in
    looks_wider c.find_from.ensures.calls (omega (arith, on.nodes))
