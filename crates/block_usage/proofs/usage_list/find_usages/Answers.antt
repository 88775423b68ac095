use Rattle.std.proofs.Common.{◌∙◌, ◌-◌, inr, refl, sym, ap, subst}
use Rattle.std.proofs.lemmas.Result.{err_from_is_err_and}
use Rattle.std.specs.Prelude.{All}
use Rattle.fs_types.specs.Names.{Path}
use Rattle.fs_types.specs.declared.limits.TheConstants.{MAX_NAMES}
use Rattle.node_format.specs.Headers.{body_header}
use Rattle.node_format.specs.declared.place.Place.{Place}
use Rattle.node_format.specs.declared.place.Place.TheVariants.{Dir}
use Rattle.nodes.specs.Bodies.{Blocks}
use Rattle.nodes.specs.Trees.{HasTree}
use Rattle.block_usage.specs.Usages.{places_at}
use Rattle.block_usage.proofs.UsageCauses.{list_cause}
use Rattle.block_usage.proofs.Places.{place_tree, places_trees, tree_later}
use Rattle.block_usage.proofs.usage_list.find_usages.Goals as goal

pub places_at-requires-clause-tree : goal.places_at-requires-clause-tree
places_at-requires-clause-tree g c =
    let old = c.args.nodes.now in
    let new = c.find_place.new.nodes in
    let looks = c.find_place.ensures.looks in
    tree_later (g.N.Nodes.limit old) (g.N.Nodes.limit new) (g.N.Nodes.node old) (g.N.Nodes.node new) (Dir c.args.root) looks.same_limit looks.same_nodes c.requires.tree

pub usages_of-requires-clause-trees : goal.usages_of-requires-clause-trees
usages_of-requires-clause-trees g c =
    let old = c.args.nodes.now in
    let new = c.places_at.new.nodes in
    let f = g.N.Nodes.node old in
    let at = c.in_ok-place.place in
    let looks = g.met.N.Nodes.looks_on old c.find_place.new.nodes new c.find_place.ensures.looks c.places_at.ensures.looks in
    let are = c.deref.ensures.value ∙ c.in_ok-places.ensures.places ∙ ap (λ (h : Blocks). places_at h c.args.path.now at) c.find_place.ensures.looks.same_nodes in
    let trees = subst (All (λ (one : Path × Place). HasTree (g.N.Nodes.limit old - body_header) f one.1 MAX_NAMES)) (sym are) (places_trees (g.N.Nodes.limit old - body_header) f c.args.root c.args.path.now at c.requires.tree c.in_ok-place.ensures.found) in
    λ k d within. tree_later (g.N.Nodes.limit old) (g.N.Nodes.limit new) f (g.N.Nodes.node new) _ looks.same_limit looks.same_nodes (trees k d within)

pub returns-in_err-found-clause-err : goal.returns-in_err-found-clause-err
returns-in_err-found-clause-err g c =
    let p = err_from_is_err_and c.from_residual-in_err-found.result c.from_residual-in_err-found.ensures.1 in
    let old = c.args.nodes.now in
    let mid = c.places_at.new.nodes in
    let at = c.in_ok-place.place in
    let looks = g.met.N.Nodes.looks_on old c.find_place.new.nodes mid c.find_place.ensures.looks c.places_at.ensures.looks in
    let are = c.deref.ensures.value ∙ c.in_ok-places.ensures.places ∙ ap (λ (h : Blocks). places_at h c.args.path.now at) c.find_place.ensures.looks.same_nodes in
    rw (p.1, p.2)
    (list_cause g.N.Nodes g.met.N.Nodes.causes_on old mid c.usages_of.new.nodes c.args.root c.args.path.now at c.args.apart.now.members c.deref.result.now c.in_err-found.field-0.0 looks c.in_ok-place.ensures.found are c.in_err-found.ensures.err)

pub usage_of-requires-clause-tree : goal.usage_of-requires-clause-tree
usage_of-requires-clause-tree g c =
    let old = c.args.nodes.now in
    let new = c.usages_of.new.nodes in
    let f = g.N.Nodes.node old in
    let at = c.in_ok-place.place in
    let both = g.met.N.Nodes.looks_on old c.find_place.new.nodes c.places_at.new.nodes c.find_place.ensures.looks c.places_at.ensures.looks in
    let looks = g.met.N.Nodes.looks_on old c.places_at.new.nodes new both c.usages_of.ensures.looks in
    tree_later (g.N.Nodes.limit old) (g.N.Nodes.limit new) f (g.N.Nodes.node new) at looks.same_limit looks.same_nodes (place_tree (g.N.Nodes.limit old - body_header) f c.args.root c.args.path.now at c.requires.tree c.in_ok-place.ensures.found)

pub returns-in_err-total-clause-err : goal.returns-in_err-total-clause-err
returns-in_err-total-clause-err g c =
    let p = err_from_is_err_and c.from_residual-in_err-total.result c.from_residual-in_err-total.ensures.1 in
    let old = c.args.nodes.now in
    let new = c.usages_of.new.nodes in
    let both = g.met.N.Nodes.looks_on old c.find_place.new.nodes c.places_at.new.nodes c.find_place.ensures.looks c.places_at.ensures.looks in
    let looks = g.met.N.Nodes.looks_on old c.places_at.new.nodes new both c.usages_of.ensures.looks in
    rw (p.1, p.2) (inr (c.in_err-total.ensures.refused.0, g.met.N.Nodes.causes_on old new c.usage_of.new.nodes c.in_err-total.field-0.0 looks.came c.in_err-total.ensures.refused.1))

pub returns-in_err-most_first-clause-err : goal.returns-in_err-most_first-clause-err
returns-in_err-most_first-clause-err g c =
    let p = err_from_is_err_and c.from_residual-in_err-most_first.result c.from_residual-in_err-most_first.ensures.1 in
    rw (p.1, p.2) (inr (refl, g.met.N.Nodes.memory_may_want c.args.nodes.now c.usage_of.new.nodes))

pub returns-clause-looks : goal.returns-clause-looks
returns-clause-looks g c =
    let old = c.args.nodes.now in
    let new = c.usages_of.new.nodes in
    let both = g.met.N.Nodes.looks_on old c.find_place.new.nodes c.places_at.new.nodes c.find_place.ensures.looks c.places_at.ensures.looks in
    g.met.N.Nodes.looks_on old new c.usage_of.new.nodes (g.met.N.Nodes.looks_on old c.places_at.new.nodes new both c.usages_of.ensures.looks) c.usage_of.ensures.looks
