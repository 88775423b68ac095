use Rattle.std.proofs.Common.{◌∙◌, ◌-◌, ap}
use Rattle.node_format.specs.Headers.{body_header}
use Rattle.directory.specs.Lookups.{place_of}
use Rattle.directory.proofs.LookupLaws.{found_place, rooted_leads}
use Rattle.block_usage.proofs.usage_list.find_place.Goals as goal

pub returns-in-File-clause-found : goal.returns-in-File-clause-found
returns-in-File-clause-found g c =
    let f = g.N.Nodes.node c.args.nodes.now in
    found_place f c.args.root c.args.path.now c.in_ok-lookup.field-0 (rooted_leads (g.N.Nodes.limit c.args.nodes.now - body_header) f c.args.root c.requires.tree) c.in_ok-lookup.ensures.found ∙ ap place_of c.in-File.is

pub returns-in-Dir-clause-found : goal.returns-in-Dir-clause-found
returns-in-Dir-clause-found g c =
    let f = g.N.Nodes.node c.args.nodes.now in
    found_place f c.args.root c.args.path.now c.in_ok-lookup.field-0 (rooted_leads (g.N.Nodes.limit c.args.nodes.now - body_header) f c.args.root c.requires.tree) c.in_ok-lookup.ensures.found ∙ ap place_of c.in-Dir.is
