-- Each page is as it was, or blank.
use Rattle.nor_part.specs.MemoryParts.{held_of, whole_of}
use Rattle.dense_nor.proofs.MemoryMarks.{erased_unmarked}
use Rattle.dense_nor.proofs.memory_part.MemoryNorDenseNor.erase_dense.Goals as goal

pub returns-clause-unmarked : goal.returns-clause-unmarked
returns-clause-unmarked c = λ page i here low none d.
    erased_unmarked (held_of c.args.self.now page) (held_of c.erase.new.self page) (held_of c.erase.new.self d) i (whole_of c.erase.new.self page) low (c.erase.ensures.whole page) none
