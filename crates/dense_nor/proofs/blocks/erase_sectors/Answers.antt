-- The sectors are erased one after the other.
use Rattle.std.proofs.Common.{◌∙◌, refl, arith}
use Rattle.dense_nor.proofs.Erasing.{block_kept, erasing_begun, erasing_more, erasing_ended}
use Rattle.dense_nor.proofs.blocks.erase_sectors.Goals as goal

pub loop-sector-init : goal.loop-sector-init
loop-sector-init g c = record {
  count = refl;
  erasing = erasing_begun c.args.layout.sectors c.args.block _ (g.P.Nor.held c.args.part.now) refl;
}

pub loop-sector-preserved : goal.loop-sector-preserved
loop-sector-preserved g c = record {
  count = c.erase_dense.ensures.count ∙ c.loop-sector.invariant.count;
  erasing = erasing_more c.args.layout.sectors c.args.block c.loop-sector.sector (g.P.Nor.held c.args.part.now) (g.P.Nor.held c.loop-sector.part) (g.P.Nor.held c.erase_dense.new.self)
      c.loop-sector.invariant.erasing (omega arith) (omega arith) c.in_default.ensures.erases;
}

pub returns-in-Err-clause-others : goal.returns-in-Err-clause-others
returns-in-Err-clause-others g c = λ x out.
    block_kept c.args.layout.sectors c.args.block c.loop-sector.sector x (g.P.Nor.held c.loop-sector.part) (g.P.Nor.held c.erase_dense.new.self) c.erase_dense.result (omega arith) (omega arith) c.erase_dense.ensures.erases out
    ∙ c.loop-sector.invariant.erasing.others x out

pub returns-in-Err-clause-unmarked : goal.returns-in-Err-clause-unmarked
returns-in-Err-clause-unmarked g c =
    erasing_ended c.args.layout.sectors c.args.block c.loop-sector.sector (g.P.Nor.held c.args.part.now) (g.P.Nor.held c.loop-sector.part) (g.P.Nor.held c.erase_dense.new.self) c.in-Err.fault
    c.loop-sector.invariant.erasing c.requires.spoilt c.in-Err.ensures.erases c.erase_dense.ensures.unmarked (g.met.P.Nor.whole c.erase_dense.new.self)

pub returns-clause-others : goal.returns-clause-others
returns-clause-others g c = c.loop-sector.invariant.erasing.others

pub returns-clause-blank : goal.returns-clause-blank
returns-clause-blank g c = λ x of. c.loop-sector.invariant.erasing.blank x of (omega (arith, of.1))
