use Rattle.std.proofs.Common.{◌∙◌, ◌-◌, Err, map, sym, ap, subst}
use Rattle.std.proofs.lemmas.Result.{err_from_is_err_and}
use Rattle.node_format.specs.Headers.{body_header}
use Rattle.block_usage.specs.Usages.{HasRoom, with_path}
use Rattle.block_usage.proofs.Marks.{look_of_read}
use Rattle.block_usage.proofs.Places.{begins, no_items, entries_room, entries_told, with_paths}
use Rattle.block_usage.proofs.usage_list.entry_places.Goals as goal

pub returns-in_err-entries-clause-refused : goal.returns-in_err-entries-clause-refused
returns-in_err-entries-clause-refused g c =
    let p = err_from_is_err_and c.from_residual.result c.from_residual.ensures.1 in
    let f = g.N.Nodes.node c.args.nodes.now in
    let whole = begins (g.N.Nodes.limit c.args.nodes.now - body_header) f c.args.root c.args.path.now c.args.block c.requires.tree c.requires.leads in
    let look = look_of_read c.in_err-entries.field-0.0 c.in_err-entries.ensures.calls.faults (λ is. no_items whole.0 (sym (c.in_err-entries.ensures.damaged (ap Err is)) ∙ whole.1)) in
    rw (p.1, p.2) (look, c.in_err-entries.ensures.calls.why look)

pub with_paths-requires : goal.with_paths-requires
with_paths-requires g c =
    let f = g.N.Nodes.node c.args.nodes.now in
    let capacity = g.N.Nodes.limit c.args.nodes.now - body_header in
    let whole = begins capacity f c.args.root c.args.path.now c.args.block c.requires.tree c.requires.leads in
    subst (HasRoom c.args.path.now) (sym (c.as_slice.ensures ∙ entries_told f c.args.block c.in_ok-entries.entries whole c.in_ok-entries.ensures.places)) (entries_room capacity f c.args.root c.args.path.now c.args.block c.requires.tree c.requires.leads)

pub returns-clause-places : goal.returns-clause-places
returns-clause-places g c =
    let f = g.N.Nodes.node c.args.nodes.now in
    let whole = begins (g.N.Nodes.limit c.args.nodes.now - body_header) f c.args.root c.args.path.now c.args.block c.requires.tree c.requires.leads in
    c.in_ok-with_paths.ensures ∙ ap (map (with_path c.args.path.now)) (c.as_slice.ensures ∙ entries_told f c.args.block c.in_ok-entries.entries whole c.in_ok-entries.ensures.places) ∙ with_paths f c.args.path.now c.args.block
