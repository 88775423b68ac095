use Rattle.std.proofs.Common.{rules, arith}
use Rattle.std.proofs.lemmas.Result.{err_from_is_err_and}
use Rattle.flash_model.specs.Reading.{OnlyReads_itself}
use Rattle.anchors.proofs.ReadParts.{reads_none, reads_on}
use Rattle.anchors.proofs.ScanLaws.{best_past_erased}
use Rattle.anchors.proofs.scan.scan_left.Goals as goal

pub returns-then-not-contains-clause-best : goal.returns-then-not-contains-clause-best
returns-then-not-contains-clause-best g c =
    best_past_erased (g.F.Flash.device c.args.flash.now) c.args.geometry c.args.bad.now c.args.anchor c.args.best c.requires.may.same c.requires.may.lawful.some_pages c.requires.anchor (search rules) c.requires.erased c.requires.best

pub returns-then-not-contains-clause-reads : goal.returns-then-not-contains-clause-reads
returns-then-not-contains-clause-reads g c = reads_none (g.F.Flash.device c.args.flash.now) c.args.geometry.pages c.args.best

pub returns-in_err-next-clause-reads : goal.returns-in_err-next-clause-reads
returns-in_err-next-clause-reads g c =
    let p = err_from_is_err_and c.from_residual.result c.from_residual.ensures.1 in
    let d = g.F.Flash.device c.args.flash.now in
    rw (p.1, p.2) (reads_on d d (g.F.Flash.device c.scan_anchor.new.flash) 0 c.args.geometry.pages c.args.geometry.pages c.in_err-next.field-0.0 (OnlyReads_itself d) (omega arith) c.in_err-next.ensures.reads (omega arith))

pub returns-clause-reads : goal.returns-clause-reads
returns-clause-reads g c =
    let reads = c.in_ok-next.ensures.reads in
    record { only_reads = reads.only_reads; operations = reads.operations; why = tt }
