-- The bytes at other places are given as 255, so they stay.
use Rattle.std.proofs.Common.{◌≡◌, ◌<◌, ℕ, List, Result, Ok, Err, OnOk, length, arith}
use Rattle.flash_model.specs.declared.flash.DevFault.{DevFault}
use Rattle.nor_part.specs.Part.{AfterPageProgram, HasCleared}
use Rattle.dense_nor.specs.Marks.{entry_of}
use Rattle.dense_nor.proofs.EntryBytes.{IsPadded, entry_beside, entry_cleared, gives_zeros}
use Rattle.dense_nor.proofs.entries.program_entry.Goals as goal

cleared : (p : ℕ) (entry given old new : List ℕ) (result : Result (Unit {0}) DevFault) → p < 32 → IsPadded p entry given → AfterPageProgram old given new result → length entry ≡ 8
    → OnOk result (HasCleared (entry_of old p) entry (entry_of new p))
cleared p entry given old new (Ok done) low padded after eight = entry_cleared p entry given old new low padded after eight
cleared p entry given old new (Err fault) low padded after eight = tt

pub returns-clause-beside : goal.returns-clause-beside
returns-clause-beside g c = λ i apart.
    let padded : IsPadded c.args.place c.args.entry c.padded-bytes.result = record { own = c.padded-bytes.ensures.own; others = c.padded-bytes.ensures.others; len = c.padded-bytes.ensures.len } in
    entry_beside c.args.place i c.args.entry c.padded-bytes.result (g.P.Nor.held c.args.part.now c.args.page) (g.P.Nor.held c.program_dense.new.self c.args.page) padded c.program_dense.ensures.keeps
    (g.met.P.Nor.whole c.args.part.now c.args.page) (g.met.P.Nor.whole c.program_dense.new.self c.args.page) apart

pub returns-clause-done : goal.returns-clause-done
returns-clause-done g c =
    let padded : IsPadded c.args.place c.args.entry c.padded-bytes.result = record { own = c.padded-bytes.ensures.own; others = c.padded-bytes.ensures.others; len = c.padded-bytes.ensures.len } in
    cleared c.args.place c.args.entry c.padded-bytes.result (g.P.Nor.held c.args.part.now c.args.page) (g.P.Nor.held c.program_dense.new.self c.args.page) c.program_dense.result c.requires.in_page padded
    c.program_dense.ensures.programs.own (omega arith)

pub returns-clause-unmarked : goal.returns-clause-unmarked
returns-clause-unmarked g c = λ zeros.
    let padded : IsPadded c.args.place c.args.entry c.padded-bytes.result = record { own = c.padded-bytes.ensures.own; others = c.padded-bytes.ensures.others; len = c.padded-bytes.ensures.len } in
    c.program_dense.ensures.unmarked c.args.place (gives_zeros 4 c.args.place c.args.entry c.padded-bytes.result (omega arith) c.requires.in_page padded zeros)

pub returns-clause-trace : goal.returns-clause-trace
returns-clause-trace g c = λ zeros failed.
    let padded : IsPadded c.args.place c.args.entry c.padded-bytes.result = record { own = c.padded-bytes.ensures.own; others = c.padded-bytes.ensures.others; len = c.padded-bytes.ensures.len } in
    c.program_dense.ensures.trace failed c.args.place (gives_zeros 8 c.args.place c.args.entry c.padded-bytes.result (omega arith) c.requires.in_page padded zeros)
