use Rattle.std.proofs.Common.{ℕ, List, [], Result, Err, refl, ap, subst}
use Rattle.std.specs.FinSet as set
use Rattle.flash_model.specs.declared.geometry.Geometry.{Geometry}
use Rattle.flash_model.specs.Geometry.{block_bytes}
use Rattle.block_ring.specs.Ring.{Ring}
use Rattle.std.specs.Prelude.{IfErr, Bool}
use Rattle.std.proofs.lemmas.Result.{IfErr-weaker}
use Rattle.fs_types.specs.declared.fault.Fault.{Fault}
use Rattle.node_store.specs.Caching.{BringsOrWants}
use Rattle.node_store.specs.NodePages.{node_of}
use Rattle.node_store.specs.ReadingLaws.{OnlyReads_nodes}
use Rattle.node_store.specs.StoreLaws.{Sound_on}
use Rattle.node_store.proofs.Examined.{wants_fault, wants_causes, follows_read}
use Rattle.node_store.proofs.store_examination.StoreExamines.examine.Goals as goal

pub returns-clause-looks : goal.returns-clause-looks
returns-clause-looks g c =
    let looked = c.examine_node.ensures in
    let came = follows_read g.F.Flash.device c.args.self.now _ refl refl looked.fits (record { device = looked.only_reads; bad = looked.bad; ring = looked.ring }) c.more-self.ensures refl looked.most in
    record {
      same_nodes = OnlyReads_nodes _ _ c.requires.sound.lawful looked.only_reads;
      same_kept = ap (λ (r : Ring). set.contains r.used) looked.ring;
      same_writes = refl;
      came = came;
      sound = Sound_on g.F.Flash.device _ _ came c.requires.sound;
      same_limit = ap block_bytes looked.only_reads.geometry;
      same_blocks = ap (λ (h : Geometry). h.blocks) looked.only_reads.geometry;
    }

pub returns-clause-damaged : goal.returns-clause-damaged
returns-clause-damaged g c is =
    let old = g.F.Flash.device c.args.self.now.flash.now in
    let new = g.F.Flash.device c.examine_node.new.flash in
    subst (λ (r : Result Bool Fault). IfErr r (λ fault. (shown : List ℕ) → BringsOrWants old new (node_of old c.args.block) shown (Err fault))) is c.examine_node.ensures.refuses []

pub returns-clause-why : goal.returns-clause-why
returns-clause-why g c =
    IfErr-weaker c.examine_node.result _ _ (λ fault wants other. wants_causes g.F.Flash.device c.args.self.now _ _ [] fault (wants []) other) c.examine_node.ensures.refuses

pub returns-clause-faults : goal.returns-clause-faults
returns-clause-faults g c =
    IfErr-weaker c.examine_node.result _ _
    (λ fault wants. wants_fault (g.F.Flash.device c.args.self.now.flash.now) (g.F.Flash.device c.examine_node.new.flash) _ [] fault (wants [])) c.examine_node.ensures.refuses
