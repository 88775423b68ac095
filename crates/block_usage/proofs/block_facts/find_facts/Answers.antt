use Rattle.std.proofs.Common.{List, ℕ, sym, subst}
use Rattle.flash_model.specs.Geometry.{block_bytes}
use Rattle.flash_model.specs.Reading.{OnlyReads_on}
use Rattle.node_store.specs.NodePages.{node_of}
use Rattle.reclaim.specs.Verified.{AreRoots}
use Rattle.block_usage.specs.Maps.{AreMarked}
use Rattle.block_usage.proofs.MapLemmas.{marked_before, roots_later}
use Rattle.block_usage.proofs.block_facts.find_facts.Goals as goal

pub mark-requires-clause-trees : goal.mark-requires-clause-trees
mark-requires-clause-trees g c =
    let d = g.F.Flash.device c.args.flash.now in
    subst (AreRoots (block_bytes d.geometry) (node_of d)) (sym c.deref.ensures.value) c.requires.present

pub mark-requires-2-clause-trees : goal.mark-requires-2-clause-trees
mark-requires-2-clause-trees g c =
    let d = g.F.Flash.device c.args.flash.now in
    let e = g.F.Flash.device c.mark.new.flash in
    subst (AreRoots (block_bytes e.geometry) (node_of e)) (sym c.deref-2.ensures.value)
    (roots_later d e c.args.roots.now.others.items c.requires.ready.lawful c.in_ok-present.ensures.only_reads c.requires.others)

pub mark-requires-3-clause-trees : goal.mark-requires-3-clause-trees
mark-requires-3-clause-trees g c =
    let d = g.F.Flash.device c.args.flash.now in
    let e = g.F.Flash.device c.mark.new.flash in
    let f = g.F.Flash.device c.mark-2.new.flash in
    subst (AreRoots (block_bytes f.geometry) (node_of f)) (sym c.deref-3.ensures.value)
    (roots_later d f c.args.roots.now.checkpoints.items c.requires.ready.lawful (OnlyReads_on d e f c.in_ok-present.ensures.only_reads c.in_ok-others.ensures.only_reads) c.requires.checkpoints)

pub returns-clause-others : goal.returns-clause-others
returns-clause-others g c =
    let d = g.F.Flash.device c.args.flash.now in
    let e = g.F.Flash.device c.mark.new.flash in
    marked_before d e c.args.roots.now.others.items c.in_ok-others.others.members c.requires.ready.lawful c.in_ok-present.ensures.only_reads
    (subst (λ (l : List ℕ). AreMarked e l c.in_ok-others.others.members) c.deref-2.ensures.value c.in_ok-others.ensures.marked)

pub returns-clause-checkpoints : goal.returns-clause-checkpoints
returns-clause-checkpoints g c =
    let d = g.F.Flash.device c.args.flash.now in
    let e = g.F.Flash.device c.mark.new.flash in
    let f = g.F.Flash.device c.mark-2.new.flash in
    marked_before d f c.args.roots.now.checkpoints.items c.in_ok-checkpoints.checkpoints.members c.requires.ready.lawful
    (OnlyReads_on d e f c.in_ok-present.ensures.only_reads c.in_ok-others.ensures.only_reads)
    (subst (λ (l : List ℕ). AreMarked f l c.in_ok-checkpoints.checkpoints.members) c.deref-3.ensures.value c.in_ok-checkpoints.ensures.marked)
