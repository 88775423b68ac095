-- Where 0 was programmed over the place it is neither blank nor a mark.
use Rattle.std.proofs.Common.{ℕ, List}
use Rattle.dense_nor.specs.Marks as spec
use Rattle.dense_nor.proofs.EntryBytes.{entry-length, zeros_trace}
use Rattle.dense_nor.proofs.paging.spoil.Goals as goal

pub returns-in-Ok-clause-failed : goal.returns-in-Ok-clause-failed
returns-in-Ok-clause-failed g c = λ same.
    let new : ℕ → List ℕ = g.P.Nor.held c.program_entry.new.part in
    let left = zeros_trace (spec.entry_of (g.P.Nor.held c.args.part.now c.args.page) c.args.place) (spec.entry_of (new c.args.page) c.args.place)
    (entry-length (new c.args.page) c.args.place (g.met.P.Nor.whole c.program_entry.new.part c.args.page) c.requires.in_page) c.in-Ok.ensures.done in
    (left.0, λ d. left.1 (new d))
