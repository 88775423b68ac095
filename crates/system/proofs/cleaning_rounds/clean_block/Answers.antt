use Rattle.std.proofs.Common.{◌+◌, sym, subst}
use Rattle.node_store.specs.NodeCache.{NodeCache}
use Rattle.system.specs.CleaningRounds.{LooksAt}
use Rattle.system.proofs.LooksAtBlanks.{looks_erased, looks_read}
use Rattle.system.proofs.cleaning_rounds.clean_block.Goals as goal

pub returns-in_err-is_blank-clause-looks : goal.returns-in_err-is_blank-clause-looks
returns-in_err-is_blank-clause-looks g c =
    looks_read (g.F.Flash.device c.args.flash.now) c.args.storage.now (g.F.Flash.device c.is_blank.new.flash) c.is_blank.new.page c.args.block c.requires.cleanable.lawful c.requires.free
    c.is_blank.ensures.page c.is_blank.ensures.only_reads c.is_blank.ensures.operations

pub returns-then-branch-clause-looks : goal.returns-then-branch-clause-looks
returns-then-branch-clause-looks g c =
    looks_read (g.F.Flash.device c.args.flash.now) c.args.storage.now (g.F.Flash.device c.is_blank.new.flash) c.is_blank.new.page c.args.block c.requires.cleanable.lawful c.requires.free
    c.is_blank.ensures.page c.is_blank.ensures.only_reads c.is_blank.ensures.operations

pub returns-clause-looks : goal.returns-clause-looks
returns-clause-looks g c =
    subst
    (λ (cache : NodeCache). LooksAt (g.F.Flash.device c.args.flash.now) c.args.storage.now c.args.block (c.args.block + 1) (g.F.Flash.device c.erase_block.new.flash)
    (record c.args.storage.now { bad = c.erase_block.new.bad; page = c.is_blank.new.page; cache = cache }))
    (sym c.forget.ensures.taken)
    (looks_erased (g.F.Flash.device c.args.flash.now) c.args.storage.now (g.F.Flash.device c.is_blank.new.flash) c.is_blank.new.page c.args.block c.requires.cleanable.lawful c.requires.free
    c.is_blank.ensures.page c.is_blank.ensures.only_reads c.is_blank.ensures.operations (g.F.Flash.device c.erase_block.new.flash) c.erase_block.new.bad c.forget.ensures.bounded
    (c.in_ok-is_blank.ensures.stale c.if-branch.false) c.erase_block.ensures.erases)
