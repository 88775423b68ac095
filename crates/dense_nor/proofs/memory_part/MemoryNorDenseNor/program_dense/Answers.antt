-- What is given as 0 is neither blank nor of a mark, but where power went before.
use Rattle.nor_part.specs.MemoryParts.{held_of, whole_of}
use Rattle.dense_nor.proofs.MemoryMarks.{failed_trace, programmed_unmarked}
use Rattle.dense_nor.proofs.memory_part.MemoryNorDenseNor.program_dense.Goals as goal

pub returns-clause-unmarked : goal.returns-clause-unmarked
returns-clause-unmarked c = λ i gives none d.
    programmed_unmarked (held_of c.args.self.now c.args.page) c.args.bytes.now (held_of c.program.new.self c.args.page) (held_of c.program.new.self d) i c.program.result c.program.ensures.zeroes gives none

pub returns-clause-trace : goal.returns-clause-trace
returns-clause-trace c = λ failed i gives.
    let left = failed_trace (held_of c.args.self.now c.args.page) c.args.bytes.now (held_of c.program.new.self c.args.page) i c.program.result failed c.program.ensures.zeroes gives c.requires.short (whole_of c.program.new.self c.args.page) in
    (left.0, λ d. left.1 (held_of c.program.new.self d))
