use Rattle.std.proofs.Common.{◌++◌, ◌∙◌}
use Rattle.nodes.specs.Trees.{names_of}
use Rattle.directory.proofs.ReadNodes.{one_name_more}
use Rattle.directory.proofs.listings.push_names.Goals as goal

pub loop-entry-preserved : goal.loop-entry-preserved
loop-entry-preserved c =
    one_name_more c.loop-entry.names c.push.new.self c.next.new.self c.loop-entry.entry-iterator (c.args.names.now ++ names_of c.args.list) c.in-Some.entry c.in_ok-name.name (cc c.in_ok-push.ensures.ok) c.in-Some.ensures.steps (c.in_ok-name.ensures ∙ c.name.ensures.name)
    c.loop-entry.invariant
