use Rattle.std.proofs.Common.{◌≡◌, ℕ, ◌+◌, ◌-◌, ◌<◌, ◌≤◌, true, false, Some, [], length, drop, get_or, sym, ap, subst, ◌∙◌, arith, rules}
use Rattle.std.specs.Prelude.{slice_index}
use Rattle.std.specs.Option.{is_some}
use Rattle.std.proofs.lemmas.List.{get_or_default}
use Rattle.std.proofs.lemmas.Result.{err_from_is_err_and}
use Rattle.fs_types.specs.Names.{Name}
use Rattle.node_format.specs.declared.place.Place.TheVariants.{Dir}
use Rattle.nodes.specs.Words.{Keeps}
use Rattle.nodes.specs.Trees.{entries_in, items_in}
use Rattle.nodes.specs.Rewritten.{IsDirectoryEdit, IsRewritten}
use Rattle.directory.specs.Counts.{edit_nodes, read_nodes, path_nodes}
use Rattle.directory.specs.Trails.{takes}
use Rattle.directory.proofs.TrailEdits.{level_held, level_items, level_held_later, level_takes, rewritten_up, rewritten_last, path_nodes-last, path_nodes-linked, path_nodes-below, read_nodes-most}
use Rattle.directory.proofs.edits.rewrite_from.Goals as goal
use Rattle.nodes.specs.WordLaws.{keeps_nodes, works_after, works_wider}

pub edit_directory-requires-clause-held : goal.edit_directory-requires-clause-held
edit_directory-requires-clause-held g c =
    let level = c.requires.level in
    level_held (g.N.Nodes.node c.args.nodes.now) (g.N.Nodes.kept c.args.nodes.now) c.args.names.now c.args.trail.now (length c.args.names.now - 1) c.requires.way (omega arith)

pub edit_directory-requires-in-loop-i-clause-held : goal.edit_directory-requires-in-loop-i-clause-held
edit_directory-requires-in-loop-i-clause-held g c =
    let old = c.args.nodes.now in
    let mid = c.loop-i.nodes in
    let test = c.loop-i-test.true in
    let auto = c.loop-i.auto.i in
    let before : Keeps g.N.Nodes old mid = keeps_nodes g.N.Nodes g.met.N.Nodes.same_node g.met.N.Nodes.stays_kept old mid c.requires.sound c.loop-i.invariant.calls.works.came in
    level_held_later (g.N.Nodes.node old) (g.N.Nodes.node mid) (g.N.Nodes.kept old) (g.N.Nodes.kept mid) c.args.names.now c.args.trail.now (c.loop-i.i - 1) c.requires.way (omega arith) before

pub edit_directory-requires-in-loop-i-clause-takes : goal.edit_directory-requires-in-loop-i-clause-takes
edit_directory-requires-in-loop-i-clause-takes g c =
    let old = c.args.nodes.now in
    let mid = c.loop-i.nodes in
    let names = c.args.names.now in
    let i = c.loop-i.i - 1 in
    let test = c.loop-i-test.true in
    let auto = c.loop-i.auto.i in
    let more : i + 1 < length names = omega arith in
    let within : i < length names = omega arith in
    let name : c.index-names-i.result ≡ get_or names i [] = c.index-names-i.is ∙ get_or_default names i c.index-names-i.result [] within in
    let before : Keeps g.N.Nodes old mid = keeps_nodes g.N.Nodes g.met.N.Nodes.same_node g.met.N.Nodes.stays_kept old mid c.requires.sound c.loop-i.invariant.calls.works.came in
    subst (λ (n : Name). takes (entries_in (g.N.Nodes.node mid) (slice_index c.args.trail.now i)) n (Some (Dir c.loop-i.to)) ≡ true) (sym name)
    (level_takes (g.N.Nodes.node old) (g.N.Nodes.node mid) (g.N.Nodes.kept old) (g.N.Nodes.kept mid) names c.args.trail.now i c.loop-i.to c.requires.way more before)

pub loop-i-preserved : goal.loop-i-preserved
loop-i-preserved g c =
    let old = c.args.nodes.now in
    let mid = c.loop-i.nodes in
    let new = c.edit_directory-in-loop-i.new.nodes in
    let f0 = g.N.Nodes.node old in
    let f1 = g.N.Nodes.node mid in
    let f2 = g.N.Nodes.node new in
    let k0 = g.N.Nodes.kept old in
    let k1 = g.N.Nodes.kept mid in
    let k2 = g.N.Nodes.kept new in
    let names = c.args.names.now in
    let trail = c.args.trail.now in
    let i = c.loop-i.i - 1 in
    let to = c.in_ok-to-2.to in
    let test = c.loop-i-test.true in
    let auto = c.loop-i.auto.i in
    let more : i + 1 < length names = omega arith in
    let within : i < length names = omega arith in
    let next : c.loop-i.i ≡ i + 1 = omega arith in
    let name : c.index-names-i.result ≡ get_or names i [] = c.index-names-i.is ∙ get_or_default names i c.index-names-i.result [] within in
    let before : Keeps g.N.Nodes old mid = keeps_nodes g.N.Nodes g.met.N.Nodes.same_node g.met.N.Nodes.stays_kept old mid c.requires.sound c.loop-i.invariant.calls.works.came in
    let keeps : Keeps g.N.Nodes mid new = keeps_nodes g.N.Nodes g.met.N.Nodes.same_node g.met.N.Nodes.stays_kept mid new c.loop-i.invariant.calls.works.sound c.edit_directory-in-loop-i.ensures.calls.works.came in
    let edit : IsDirectoryEdit f1 f2 (slice_index trail i) to (get_or names i []) (Some (Dir c.loop-i.to)) =
    subst (λ (n : Name). IsDirectoryEdit f1 f2 (slice_index trail i) to n (Some (Dir c.loop-i.to))) name c.in_ok-to-2.ensures.edited.0 in
    let lower : IsRewritten f0 f1 k0 k1 (slice_index trail (i + 1)) c.loop-i.to (drop (i + 1) names) c.args.place =
    subst (λ (k : ℕ). IsRewritten f0 f1 k0 k1 (slice_index trail k) c.loop-i.to (drop k names) c.args.place) next c.loop-i.invariant.rewritten in
    let same : items_in f1 (slice_index trail i) ≡ items_in f0 (slice_index trail i) = level_items f0 f1 k0 k1 names trail i c.requires.way within before in
    let written : edit_nodes (items_in f1 (slice_index trail i)) c.index-names-i.result true ≡ edit_nodes (items_in f0 (slice_index trail i)) (get_or names i []) true = λ j. edit_nodes (same j) (name j) true in
    let read : read_nodes (items_in f1 (slice_index trail i)) c.index-names-i.result true ≡ read_nodes (items_in f0 (slice_index trail i)) (get_or names i []) true = λ j. read_nodes (same j) (name j) true in
    let at_writes : path_nodes f0 trail names (is_some c.args.place) c.loop-i.i ≡ path_nodes f0 trail names (is_some c.args.place) (i + 1) = ap (path_nodes f0 trail names (is_some c.args.place)) next in
    let at_reads : path_nodes f0 trail names false c.loop-i.i ≡ path_nodes f0 trail names false (i + 1) = ap (path_nodes f0 trail names false) next in
    record {
      from = omega arith;
      lawful = search rules;
      rewritten = rewritten_up f0 f1 f2 k0 k1 k2 names trail i to c.loop-i.to c.args.place c.requires.way more before keeps (λ b free. g.met.N.Nodes.was_fresh old mid b c.loop-i.invariant.calls.works.came free) lower edit c.in_ok-to-2.ensures.edited.1;
      calls = works_after g.met.N.Nodes.works_on g.met.N.Nodes.causes_on old mid new (λ fault is. is) c.loop-i.invariant.calls c.in_ok-to-2.ensures.calls
          (omega (arith, read, at_reads, path_nodes-linked f0 c.requires.way.root trail names false false i c.requires.way.trail_of more, read_nodes-most (items_in f0 (slice_index trail i)) (get_or names i []) true))
          (omega (arith, written, at_writes, path_nodes-linked f0 c.requires.way.root trail names (is_some c.args.place) true i c.requires.way.trail_of more));
    }

pub edit_directory-requires-in-loop-i-clause-sound : goal.edit_directory-requires-in-loop-i-clause-sound
edit_directory-requires-in-loop-i-clause-sound g c = c.loop-i.invariant.calls.works.sound

pub edit_directory-requires-in-loop-i-clause-place : goal.edit_directory-requires-in-loop-i-clause-place
edit_directory-requires-in-loop-i-clause-place g c = c.loop-i.invariant.lawful

pub loop-i-init : goal.loop-i-init
loop-i-init g c =
    let old = c.args.nodes.now in
    let new = c.edit_directory.new.nodes in
    let f0 = g.N.Nodes.node old in
    let f1 = g.N.Nodes.node new in
    let names = c.args.names.now in
    let trail = c.args.trail.now in
    let last = length names - 1 in
    let within = c.requires.level in
    let name : c.index-names-last.result ≡ get_or names last [] = c.index-names-last.is ∙ get_or_default names last c.index-names-last.result [] (omega arith) in
    let written = ap (λ (n : Name). edit_nodes (items_in f0 (slice_index trail last)) n (is_some c.args.place)) name in
    let reads = ap (λ (n : Name). read_nodes (items_in f0 (slice_index trail last)) n (is_some c.args.place)) name in
    record {
      from = omega arith;
      lawful = search rules;
      rewritten = rewritten_last f0 f1 (g.N.Nodes.kept old) (g.N.Nodes.kept new) names last (slice_index trail last) c.in_ok-to.to c.args.place (omega arith)
          (subst (λ (n : Name). IsDirectoryEdit f0 f1 (slice_index trail last) c.in_ok-to.to n c.args.place) name c.in_ok-to.ensures.edited.0) c.in_ok-to.ensures.edited.1;
      calls = works_wider c.in_ok-to.ensures.calls
          (omega (arith, reads, read_nodes-most (items_in f0 (slice_index trail last)) (get_or names last []) (is_some c.args.place), path_nodes-last f0 trail names false last (omega arith)))
          (omega (arith, written, path_nodes-last f0 trail names (is_some c.args.place) last (omega arith)));
    }

pub returns-clause-rewritten : goal.returns-clause-rewritten
returns-clause-rewritten g c =
    let test = c.loop-i-test.false in
    let from = c.loop-i.invariant.from in
    let at : c.loop-i.i ≡ c.args.level = omega arith in
    subst (λ (k : ℕ). IsRewritten (g.N.Nodes.node c.args.nodes.now) (g.N.Nodes.node c.loop-i.nodes) (g.N.Nodes.kept c.args.nodes.now) (g.N.Nodes.kept c.loop-i.nodes) (slice_index c.args.trail.now k) c.loop-i.to (drop k c.args.names.now) c.args.place) at c.loop-i.invariant.rewritten

pub returns-in_err-to-clause-calls : goal.returns-in_err-to-clause-calls
returns-in_err-to-clause-calls g c =
    let f0 = g.N.Nodes.node c.args.nodes.now in
    let names = c.args.names.now in
    let trail = c.args.trail.now in
    let last = length names - 1 in
    let within = c.requires.level in
    let name : c.index-names-last.result ≡ get_or names last [] = c.index-names-last.is ∙ get_or_default names last c.index-names-last.result [] (omega arith) in
    let written = ap (λ (n : Name). edit_nodes (items_in f0 (slice_index trail last)) n (is_some c.args.place)) name in
    let reads = ap (λ (n : Name). read_nodes (items_in f0 (slice_index trail last)) n (is_some c.args.place)) name in
    let p = err_from_is_err_and c.from_residual.result c.from_residual.ensures.1 in
    rw (p.1, p.2) (works_wider c.in_err-to.ensures.calls
    (omega (arith, reads, read_nodes-most (items_in f0 (slice_index trail last)) (get_or names last []) (is_some c.args.place), path_nodes-last f0 trail names false last (omega arith), path_nodes-below f0 trail names false c.args.level last (omega arith) (omega arith)))
    (omega (arith, written, path_nodes-last f0 trail names (is_some c.args.place) last (omega arith), path_nodes-below f0 trail names (is_some c.args.place) c.args.level last (omega arith) (omega arith))))

pub returns-in_err-to-2-clause-calls : goal.returns-in_err-to-2-clause-calls
returns-in_err-to-2-clause-calls g c =
    let old = c.args.nodes.now in
    let mid = c.loop-i.nodes in
    let new = c.edit_directory-in-loop-i.new.nodes in
    let f0 = g.N.Nodes.node old in
    let f1 = g.N.Nodes.node mid in
    let names = c.args.names.now in
    let trail = c.args.trail.now in
    let i = c.loop-i.i - 1 in
    let test = c.loop-i-test.true in
    let auto = c.loop-i.auto.i in
    let more : i + 1 < length names = omega arith in
    let within : i < length names = omega arith in
    let next : c.loop-i.i ≡ i + 1 = omega arith in
    let above : c.args.level ≤ i = omega arith in
    let name : c.index-names-i.result ≡ get_or names i [] = c.index-names-i.is ∙ get_or_default names i c.index-names-i.result [] within in
    let before : Keeps g.N.Nodes old mid = keeps_nodes g.N.Nodes g.met.N.Nodes.same_node g.met.N.Nodes.stays_kept old mid c.requires.sound c.loop-i.invariant.calls.works.came in
    let same : items_in f1 (slice_index trail i) ≡ items_in f0 (slice_index trail i) = level_items f0 f1 (g.N.Nodes.kept old) (g.N.Nodes.kept mid) names trail i c.requires.way within before in
    let written : edit_nodes (items_in f1 (slice_index trail i)) c.index-names-i.result true ≡ edit_nodes (items_in f0 (slice_index trail i)) (get_or names i []) true = λ j. edit_nodes (same j) (name j) true in
    let read : read_nodes (items_in f1 (slice_index trail i)) c.index-names-i.result true ≡ read_nodes (items_in f0 (slice_index trail i)) (get_or names i []) true = λ j. read_nodes (same j) (name j) true in
    let at_writes : path_nodes f0 trail names (is_some c.args.place) c.loop-i.i ≡ path_nodes f0 trail names (is_some c.args.place) (i + 1) = ap (path_nodes f0 trail names (is_some c.args.place)) next in
    let at_reads : path_nodes f0 trail names false c.loop-i.i ≡ path_nodes f0 trail names false (i + 1) = ap (path_nodes f0 trail names false) next in
    let p = err_from_is_err_and c.from_residual-in_err-to-2.result c.from_residual-in_err-to-2.ensures.1 in
    rw (p.1, p.2) (works_after g.met.N.Nodes.works_on g.met.N.Nodes.causes_on old mid new (λ fault is. is) c.loop-i.invariant.calls c.in_err-to-2.ensures.calls
    (omega (arith, read, at_reads, path_nodes-linked f0 c.requires.way.root trail names false false i c.requires.way.trail_of more, read_nodes-most (items_in f0 (slice_index trail i)) (get_or names i []) true, path_nodes-below f0 trail names false c.args.level i above (omega arith)))
    (omega (arith, written, at_writes, path_nodes-linked f0 c.requires.way.root trail names (is_some c.args.place) true i c.requires.way.trail_of more, path_nodes-below f0 trail names (is_some c.args.place) c.args.level i above (omega arith))))

pub returns-clause-calls : goal.returns-clause-calls
returns-clause-calls g c =
    let test = c.loop-i-test.false in
    let from = c.loop-i.invariant.from in
    let at : c.loop-i.i ≡ c.args.level = omega arith in
    works_wider c.loop-i.invariant.calls (omega (arith, ap (path_nodes (g.N.Nodes.node c.args.nodes.now) c.args.trail.now c.args.names.now false) at))
    (omega (arith, ap (path_nodes (g.N.Nodes.node c.args.nodes.now) c.args.trail.now c.args.names.now (is_some c.args.place)) at))
