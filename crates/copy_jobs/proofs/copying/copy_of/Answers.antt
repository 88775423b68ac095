use Rattle.std.proofs.Common.{◌∙◌, inl}
use Rattle.flash_simulation.specs.Simulation.{device_of}
use Rattle.copy_jobs.proofs.CopyLemmas.{limit_by, copied_by, stopped_by}
use Rattle.copy_jobs.proofs.copying.copy_of.Goals as goal

pub returns-in-Err-clause-err : goal.returns-in-Err-clause-err
returns-in-Err-clause-err g c = inl (c.mount_as_planned.new.flash, c.in-Err.fault, (record { cause = c.in-Err.ensures.why; reads = c.mount_as_planned.ensures.only_reads }, c.mount_as_planned.ensures.plan), c.of_system-failure.ensures)

pub returns-in-Ok-copy_to-clause-ok : goal.returns-in-Ok-copy_to-clause-ok
returns-in-Ok-copy_to-clause-ok g c =
    let first = c.args.first.now in
    let read = c.mount_as_planned.new.flash in
    let mounted = c.in-Ok.ensures.ok in
    let limit = limit_by c.args.asked (device_of first) (device_of read) c.in-Ok.system c.limit_of-limit.result c.limit.result mounted c.limit_of-limit.ensures c.limit.ensures in
    copied_by c.args.asked first read c.in-Ok-new_flash.flash c.in-Ok-copy_to.copy c.in-Ok.system c.sizes_of.result c.geometry.result c.limit_of-limit.result mounted
    c.mount_as_planned.ensures.only_reads c.sizes_of.ensures (c.geometry.ensures ∙ c.mount_as_planned.ensures.only_reads.geometry) limit c.in-Ok-new_flash.ensures.ok c.in-Ok-copy_to.ensures.ok c.in-Ok-copy_to.ensures.sizes

pub returns-clause-err : goal.returns-clause-err
returns-clause-err g c =
    let first = c.args.first.now in
    let read = c.mount_as_planned.new.flash in
    let mounted = c.in-Ok.ensures.ok in
    let limit = limit_by c.args.asked (device_of first) (device_of read) c.in-Ok.system c.limit_of-limit.result c.limit.result mounted c.limit_of-limit.ensures c.limit.ensures in
    stopped_by c.args.asked first read c.in-Ok-new_flash.flash c.in-Ok.system c.sizes_of.result c.geometry.result c.limit_of-limit.result c.in-Err-copy_to.failure mounted
    c.mount_as_planned.ensures.only_reads c.sizes_of.ensures (c.geometry.ensures ∙ c.mount_as_planned.ensures.only_reads.geometry) limit c.in-Ok-new_flash.ensures.ok c.in-Err-copy_to.ensures.err
