use Rattle.std.proofs.Common.{List, subst}
use Rattle.std.specs.Prelude.{reverse}
use Rattle.std.specs.List.{flat_map}
use Rattle.host_interface.specs.Files.{ReadsClaimed}
use Rattle.put_lots.specs.Things.{thing_events}
use Rattle.put_lots.specs.declared.thing.Thing.{Thing}
use Rattle.put_jobs.specs.Groups.{EventsEnd}
use Rattle.put_jobs.proofs.GivesLemmas.{known_ends}
use Rattle.put_jobs.proofs.put_of_lots.put_lots.Goals as goal

pub returns-clause-ends : goal.returns-clause-ends
returns-clause-ends g c =
    let held = g.F.ImageFiles.held c.args.files.now in
    let saved = g.F.ImageFiles.held c.put_into.new.files in
    subst (λ (lots : List Thing). EventsEnd c.args.name.now (ReadsClaimed g.F.ImageFiles.claims g.F.ImageFiles.reads c.args.name.now) (flat_map thing_events lots) held saved c.put_into.result) c.of-lots.ensures
    (known_ends g.F.ImageFiles.claims g.F.ImageFiles.held g.F.ImageFiles.reads c.args.name.now (flat_map thing_events (reverse c.of-lots.result.left.items)) held saved c.put_into.result c.put_into.ensures.ends)
