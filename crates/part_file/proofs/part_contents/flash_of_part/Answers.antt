use Rattle.std.proofs.Common.{◌∙◌, Err, ap}
use Rattle.part_file.proofs.Faults.{head_fault, flash_had, flash_unread}
use Rattle.part_file.proofs.part_contents.flash_of_part.Goals as goal

pub returns-in-Err-clause-err : goal.returns-in-Err-clause-err
returns-in-Err-clause-err g c =
    head_fault (g.B.Backing.held c.args.backing.now) c.in-Err.fault c.in-Err.ensures.fault (λ e. c.read_head.ensures.other_magic (c.in-Err.is ∙ ap Err e)) (λ e. c.read_head.ensures.other_sizes (c.in-Err.is ∙ ap Err e))

pub returns-clause-ok : goal.returns-clause-ok
returns-clause-ok g c =
    flash_had (g.B.Backing.held c.args.backing.now) (g.B.Backing.held c.read_head.new.backing) c.in-Ok.sizes c.read_part.result c.read_head.ensures.same c.in-Ok.ensures.head
    c.read_part.ensures.pages c.read_part.ensures.fresh c.read_part.ensures.unworn c.read_part.ensures.sizes

pub returns-clause-err : goal.returns-clause-err
returns-clause-err g c = flash_unread (g.B.Backing.held c.args.backing.now) c.in-Ok.sizes c.read_part.result c.in-Ok.ensures.head c.read_part.ensures.unread
