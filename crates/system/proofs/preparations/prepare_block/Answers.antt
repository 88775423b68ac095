use Rattle.system.proofs.PreparingLemmas.{next_cleanable, next_erased}
use Rattle.system.proofs.preparations.prepare_block.Goals as goal

pub returns-in_err-erase_block-clause-cleanable : goal.returns-in_err-erase_block-clause-cleanable
returns-in_err-erase_block-clause-cleanable g c =
    next_cleanable (g.F.Flash.device c.args.flash.now) c.args.storage.now c.args.block (g.F.Flash.device c.erase_block.new.flash) c.erase_block.new.bad c.forget.new.self c.requires.cleanable c.requires.free
    c.forget.ensures.bounded c.forget.ensures.taken c.erase_block.ensures.erases

pub returns-in_err-erase_block-clause-erases : goal.returns-in_err-erase_block-clause-erases
returns-in_err-erase_block-clause-erases g c =
    next_erased (g.F.Flash.device c.args.flash.now) c.args.storage.now c.args.block (g.F.Flash.device c.erase_block.new.flash) c.erase_block.new.bad c.forget.new.self c.requires.cleanable c.requires.free
    c.forget.ensures.bounded c.forget.ensures.taken c.erase_block.ensures.erases

pub returns-clause-cleanable : goal.returns-clause-cleanable
returns-clause-cleanable g c =
    next_cleanable (g.F.Flash.device c.args.flash.now) c.args.storage.now c.args.block (g.F.Flash.device c.erase_block.new.flash) c.erase_block.new.bad c.forget.new.self c.requires.cleanable c.requires.free
    c.forget.ensures.bounded c.forget.ensures.taken c.erase_block.ensures.erases

pub returns-clause-erases : goal.returns-clause-erases
returns-clause-erases g c =
    next_erased (g.F.Flash.device c.args.flash.now) c.args.storage.now c.args.block (g.F.Flash.device c.erase_block.new.flash) c.erase_block.new.bad c.forget.new.self c.requires.cleanable c.requires.free
    c.forget.ensures.bounded c.forget.ensures.taken c.erase_block.ensures.erases
