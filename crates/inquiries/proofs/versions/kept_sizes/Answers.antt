use Rattle.std.proofs.Common.{◌≡◌, ◌∙◌, ℕ, List, map, sym, subst}
use Rattle.std.proofs.lemmas.Result.{IfErr-weaker}
use Rattle.std.specs.Prelude.{IfOk}
use Rattle.flash_model.specs.Geometry.{block_bytes}
use Rattle.node_store.specs.NodePages.{node_of}
use Rattle.reclaim.specs.Verified.{AreRoots}
use Rattle.tree_counts.specs.Sizes.{size_of}
use Rattle.working_state.specs.Seen.{tree_on}
use Rattle.inquiries.proofs.Counted.{reads_meet}
use Rattle.inquiries.proofs.KeptTrees.{all_rooted}
use Rattle.inquiries.proofs.versions.kept_sizes.Goals as goal

pub sizes_of_roots_on-requires-clause-trees : goal.sizes_of_roots_on-requires-clause-trees
sizes_of_roots_on-requires-clause-trees g c =
    let d = g.F.Flash.device c.args.flash.now in
    subst (AreRoots (block_bytes d.geometry) (node_of d)) (sym (c.deref.ensures.value ∙ c.in_ok-roots.ensures)) (all_rooted d c.args.state.now c.requires)

pub returns-clause-pages : goal.returns-clause-pages
returns-clause-pages g c = c.sizes_of_roots_on.ensures.looked.untouched.device.pages

pub returns-clause-sizes : goal.returns-clause-sizes
returns-clause-sizes g c =
    let d = g.F.Flash.device c.args.flash.now in
    subst (λ (roots : List ℕ). IfOk c.sizes_of_roots_on.result (λ sizes. sizes.items ≡ map (λ root. size_of (tree_on d root)) roots)) (c.deref.ensures.value ∙ c.in_ok-roots.ensures) c.sizes_of_roots_on.ensures.sizes

pub returns-clause-err : goal.returns-clause-err
returns-clause-err g c =
    IfErr-weaker c.sizes_of_roots_on.result _ _ (λ fault cause. reads_meet (g.F.Flash.device c.args.flash.now) (g.F.Flash.device c.sizes_of_roots_on.new.flash) c.args.state.now.storage c.sizes_of_roots_on.new.storage fault cause) c.sizes_of_roots_on.ensures.why
