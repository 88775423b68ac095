-- The pages of marks are made 0 one after the other.
use Rattle.std.proofs.Common.{◌∙◌, refl, arith}
use Rattle.dense_nor.specs.Blocks.{IsOfMarks}
use Rattle.dense_nor.proofs.Erasing.{Spoils, spoiling_begun, spoiling_more, spoiling_ended, spoiling_done, other_kept}
use Rattle.dense_nor.proofs.Places.{marks_from, of_marks}
use Rattle.dense_nor.proofs.blocks.spoil_marks.Goals as goal

pub loop-page-init : goal.loop-page-init
loop-page-init g c = record {
  count = refl;
  spoiling = spoiling_begun c.args.layout.sectors c.args.block _ (g.P.Nor.held c.args.part.now)
      (λ x of. let from = marks_from c.args.layout.sectors c.args.block x c.args.layout.dense of in omega (arith, from));
}

pub loop-page-preserved : goal.loop-page-preserved
loop-page-preserved g c =
    let of : IsOfMarks c.args.layout.sectors c.args.block c.loop-page.page = of_marks c.args.layout.sectors c.args.block c.loop-page.page c.args.layout.dense (omega arith) (omega arith) in
    let spoils : Spoils c.spoilt_marks-bytes.result = record { zeros = c.spoilt_marks-bytes.ensures.zeros; sums = c.spoilt_marks-bytes.ensures.sums; whole = c.spoilt_marks-bytes.ensures.len } in
    record {
      count = c.program_dense.ensures.count ∙ c.loop-page.invariant.count;
      spoiling = spoiling_more c.args.layout.sectors c.args.block c.loop-page.page (g.P.Nor.held c.args.part.now) (g.P.Nor.held c.loop-page.part) (g.P.Nor.held c.program_dense.new.self)
          c.spoilt_marks-bytes.result c.loop-page.invariant.spoiling of spoils c.in_default.ensures.programs;
    }

pub returns-in-Err-clause-unmarked : goal.returns-in-Err-clause-unmarked
returns-in-Err-clause-unmarked g c =
    let of : IsOfMarks c.args.layout.sectors c.args.block c.loop-page.page = of_marks c.args.layout.sectors c.args.block c.loop-page.page c.args.layout.dense (omega arith) (omega arith) in
    let spoils : Spoils c.spoilt_marks-bytes.result = record { zeros = c.spoilt_marks-bytes.ensures.zeros; sums = c.spoilt_marks-bytes.ensures.sums; whole = c.spoilt_marks-bytes.ensures.len } in
    spoiling_ended c.args.layout.sectors c.args.block c.loop-page.page (g.P.Nor.held c.args.part.now) (g.P.Nor.held c.loop-page.part) (g.P.Nor.held c.program_dense.new.self)
    c.spoilt_marks-bytes.result c.program_dense.result c.loop-page.invariant.spoiling of spoils c.program_dense.ensures.programs c.program_dense.ensures.keeps c.program_dense.ensures.unmarked
    (g.met.P.Nor.whole c.loop-page.part) (g.met.P.Nor.whole c.program_dense.new.self)

pub returns-in-Err-clause-others : goal.returns-in-Err-clause-others
returns-in-Err-clause-others g c = λ x out.
    let of : IsOfMarks c.args.layout.sectors c.args.block c.loop-page.page = of_marks c.args.layout.sectors c.args.block c.loop-page.page c.args.layout.dense (omega arith) (omega arith) in
    other_kept c.args.layout.sectors c.args.block c.loop-page.page x (g.P.Nor.held c.loop-page.part) (g.P.Nor.held c.program_dense.new.self) c.spoilt_marks-bytes.result c.program_dense.result of c.program_dense.ensures.programs out
    ∙ c.loop-page.invariant.spoiling.others x out

pub returns-clause-others : goal.returns-clause-others
returns-clause-others g c = c.loop-page.invariant.spoiling.others

pub returns-clause-unmarked : goal.returns-clause-unmarked
returns-clause-unmarked g c =
    spoiling_done c.args.layout.sectors c.args.block c.loop-page.page (g.P.Nor.held c.args.part.now) (g.P.Nor.held c.loop-page.part) c.loop-page.invariant.spoiling (λ x of. omega (arith, of.1))

pub returns-clause-spoilt : goal.returns-clause-spoilt
returns-clause-spoilt g c = λ x of. c.loop-page.invariant.spoiling.spoilt x of (omega (arith, of.1))
