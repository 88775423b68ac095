-- Each way in which an erase may end.
use Rattle.std.proofs.Common.{sym, subst, Option}
use Rattle.nor_part.specs.declared.memory_nor.Trouble.{Trouble}
use Rattle.nor_part.specs.Part.{ErasesSector}
use Rattle.nor_part.specs.Memory.{memory_page_at, trouble_answer}
use Rattle.nor_part.specs.MemoryParts.{page_at-whole}
use Rattle.nor_part.proofs.Sectors.{sector_erased, page_erased}
use Rattle.nor_part.proofs.memory_nor.erase_sector.Goals as goal

pub returns-in-Some-clause-erases : goal.returns-in-Some-clause-erases
returns-in-Some-clause-erases c =
    subst (λ (due : Option Trouble). ErasesSector (memory_page_at c.args.pages.now.items) c.args.sector (memory_page_at c.set_page.new.pages.items) (trouble_answer due)) (sym c.in-Some.is)
    (page_erased (memory_page_at c.args.pages.now.items) (memory_page_at c.set_page.new.pages.items) c.args.sector c.in-Some.field-0 c.set_page.ensures.others
    c.set_page.ensures.own (page_at-whole c.args.pages.now.items c.requires.whole) (page_at-whole c.set_page.new.pages.items c.set_page.ensures.whole))

pub returns-in-None-clause-erases : goal.returns-in-None-clause-erases
returns-in-None-clause-erases c =
    sector_erased (memory_page_at c.args.pages.now.items) (memory_page_at c.set_sector.new.pages.items) c.args.sector c.args.due c.set_sector.ensures.others
    c.set_sector.ensures.own (page_at-whole c.args.pages.now.items c.requires.whole) (page_at-whole c.set_sector.new.pages.items c.set_sector.ensures.whole)
