use Rattle.archives.proofs.JoinedNames.{joined_names}
use Rattle.archives.proofs.things.join.Goals as goal

pub from_names-requires : goal.from_names-requires
from_names-requires c =
    joined_names c.args.first.now c.args.second.now c.new-names.result.items c.append_names.new.names.items c.append_names-2.new.names.items c.names.result.now c.names-2.result.now
    c.new-names.ensures.items (c.in_ok-append_names.ensures {u = tt}) c.names.ensures.names (c.in_ok-append_names-2.ensures {u = tt}) c.names-2.ensures.names
    c.names.ensures.lawful c.names-2.ensures.lawful c.requires
