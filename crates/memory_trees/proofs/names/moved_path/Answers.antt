use Rattle.std.proofs.Common.{◌∙◌, sym, ap}
use Rattle.plain_trees.specs.Contents.{beneath}
use Rattle.memory_trees.proofs.Beneath.{joined_path}
use Rattle.memory_trees.proofs.names.moved_path.Goals as goal

pub join_names-requires : goal.join_names-requires
join_names-requires c =
    joined_path c.args.old.now c.args.new.now c.args.path.now c.in-Some.rest.now
    (ap (beneath c.args.old.now) (sym c.names.ensures.names) ∙ sym c.in-Some.ensures) c.requires.lawful c.names.ensures.lawful c.requires.shallow
