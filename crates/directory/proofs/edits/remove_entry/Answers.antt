use Rattle.std.proofs.Common.{ℕ, List, None, sym, subst, rules}
use Rattle.fs_types.specs.Names.{Path}
use Rattle.nodes.specs.Words.{Keeps}
use Rattle.directory.specs.Trails.{TakesName, IsHeldTrail}
use Rattle.directory.proofs.EditedPaths.{only_reaches}
use Rattle.directory.proofs.TrailEdits.{stands_taken}
use Rattle.directory.proofs.edits.remove_entry.Goals as goal
use Rattle.nodes.specs.WordLaws.{keeps_nodes}

pub rewrite_from-requires-clause-taken : goal.rewrite_from-requires-clause-taken
rewrite_from-requires-clause-taken g c =
    let f = g.N.Nodes.node c.args.nodes.now in
    let taken = stands_taken f c.args.root c.args.path.now c.args.trail.now c.requires.sought.way c.requires.sought.below c.requires.stands in
    subst (λ (t : List ℕ). TakesName f t c.names.result.now None) (sym c.blocks-blocks.ensures)
    (subst (λ (p : Path). TakesName f c.args.trail.now p None) (sym c.names.ensures.names) taken)

pub rewrite_from-requires-clause-way : goal.rewrite_from-requires-clause-way
rewrite_from-requires-clause-way g c =
    let f = g.N.Nodes.node c.args.nodes.now in
    let k = g.N.Nodes.kept c.args.nodes.now in
    let held : IsHeldTrail f k c.args.path.now c.args.trail.now = record { root = c.args.root; trail_of = c.requires.sought.way; held = c.requires.sought.held } in
    subst (λ (t : List ℕ). IsHeldTrail f k c.names.result.now t) (sym c.blocks-blocks.ensures)
    (subst (λ (p : Path). IsHeldTrail f k p c.args.trail.now) (sym c.names.ensures.names) held)

pub returns-clause-reaches : goal.returns-clause-reaches
returns-clause-reaches g c =
    let old = c.args.nodes.now in
    let new = c.rewrite_from.new.nodes in
    let f = g.N.Nodes.node old in
    let h = g.N.Nodes.node new in
    let k = g.N.Nodes.kept old in
    let l = g.N.Nodes.kept new in
    let keeps : Keeps g.N.Nodes old new = keeps_nodes g.N.Nodes g.met.N.Nodes.same_node g.met.N.Nodes.stays_kept old new c.requires.sound c.rewrite_from.ensures.calls.works.came in
    only_reaches f h k l c.args.root c.args.path.now None c.rewrite_from.result keeps c.requires.sought.held (search rules)
