use Rattle.std.proofs.Common.{[], refl, ap}
use Rattle.std.specs.FinSet as set
use Rattle.std.proofs.lemmas.Result.{err_from_is_err_and}
use Rattle.flash_model.specs.declared.geometry.Geometry.{Geometry}
use Rattle.flash_model.specs.Geometry.{block_bytes}
use Rattle.block_ring.specs.Ring.{Ring}
use Rattle.node_store.specs.FrontLaws.{front_begins, front_damaged, front_refused}
use Rattle.node_store.specs.ReadingLaws.{OnlyReads_nodes}
use Rattle.node_store.specs.StoreLaws.{Follows_look, Sound_on, brings_causes, brings_fault}
use Rattle.node_store.proofs.store.StoreNodes.front.Goals as goal

pub returns-clause-begins : goal.returns-clause-begins
returns-clause-begins g c =
    front_begins _ _ _ _ _ _ c.requires.lawful (g.met.F.Flash.whole_pages c.args.self.now.flash.now) c.requires.fits.truthful _
    c.in_ok-self.ensures.brings

pub returns-clause-looks : goal.returns-clause-looks
returns-clause-looks g c =
    let looked = c.bring_front.ensures in
    let came = Follows_look g.F.Flash.device c.args.self.now _ c.requires.lawful refl refl looked.fits (record { device = looked.only_reads; bad = looked.bad; ring = looked.ring }) c.more-self.ensures refl looked.operations in
    record {
      same_nodes = OnlyReads_nodes _ _ c.requires.lawful looked.only_reads;
      same_kept = ap (λ (r : Ring). set.contains r.used) looked.ring;
      same_writes = refl;
      came = came;
      sound = Sound_on g.F.Flash.device _ _ came c.requires;
      same_limit = ap block_bytes looked.only_reads.geometry;
      same_blocks = ap (λ (h : Geometry). h.blocks) looked.only_reads.geometry;
    }

pub returns-in_err-self-clause-looks : goal.returns-in_err-self-clause-looks
returns-in_err-self-clause-looks g c =
    let looked = c.bring_front.ensures in
    let came = Follows_look g.F.Flash.device c.args.self.now _ c.requires.lawful refl refl looked.fits (record { device = looked.only_reads; bad = looked.bad; ring = looked.ring }) c.more-self.ensures refl looked.operations in
    record {
      same_nodes = OnlyReads_nodes _ _ c.requires.lawful looked.only_reads;
      same_kept = ap (λ (r : Ring). set.contains r.used) looked.ring;
      same_writes = refl;
      came = came;
      sound = Sound_on g.F.Flash.device _ _ came c.requires;
      same_limit = ap block_bytes looked.only_reads.geometry;
      same_blocks = ap (λ (h : Geometry). h.blocks) looked.only_reads.geometry;
    }

pub returns-in_err-self-clause-damaged : goal.returns-in_err-self-clause-damaged
returns-in_err-self-clause-damaged g c =
    let p = err_from_is_err_and c.from_residual.result c.from_residual.ensures.1 in
    rw (p.1, p.2) (front_damaged _ _ _ _ _ [] _ (c.in_err-self.ensures.refuses []))

pub returns-in_err-self-clause-why : goal.returns-in_err-self-clause-why
returns-in_err-self-clause-why g c =
    let p = err_from_is_err_and c.from_residual.result c.from_residual.ensures.1 in
    rw (p.1, p.2) (brings_causes _ _ _ _ [] _ (front_refused _ _ _ _ _ [] _ (c.in_err-self.ensures.refuses [])))

pub returns-in_err-self-clause-faults : goal.returns-in_err-self-clause-faults
returns-in_err-self-clause-faults g c =
    let p = err_from_is_err_and c.from_residual.result c.from_residual.ensures.1 in
    rw (p.1, p.2) (brings_fault (g.F.Flash.device c.args.self.now.flash.now) (g.F.Flash.device c.bring_front.new.flash) _ [] _ (front_refused _ _ _ _ _ [] _ (c.in_err-self.ensures.refuses [])))
