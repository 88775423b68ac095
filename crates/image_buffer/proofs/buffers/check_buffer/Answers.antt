use Rattle.std.proofs.Common.{sym, subst}
use Rattle.image_buffer.specs.Buffers.{CheckRefusal}
use Rattle.image_buffer.proofs.Refusing.{mount_refused}
use Rattle.image_buffer.proofs.buffers.check_buffer.Goals as goal

pub returns : goal.returns
returns c =
    subst (CheckRefusal c.args.image.now) (sym c.of_system.ensures)
    (mount_refused c.args.image.now c.in_ok-flash.flash c.mount_as_planned.new.flash c.in-Err.fault c.in_ok-flash.ensures.ok (record { cause = c.in-Err.ensures.why; reads = c.mount_as_planned.ensures.only_reads }, c.mount_as_planned.ensures.plan))
