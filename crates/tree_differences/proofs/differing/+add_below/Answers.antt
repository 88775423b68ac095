use Rattle.std.proofs.Common.{◌≡◌, ◌∙◌, ◌++◌, ◌-◌, ◌<◌, [], ◌∷◌, Some, List, length, map, append-nil, refl, sym, ap, subst, arith}
use Rattle.std.proofs.lemmas.List.{length-append}
use Rattle.std.proofs.lemmas.Result.{err_from_is_err_and}
use Rattle.fs_types.specs.Names.{Path}
use Rattle.nodes.specs.Bodies.{Blocks}
use Rattle.directory.specs.Places.{placed}
use Rattle.tree_differences.specs.Differing.{child_at, differing_below, items_at, BeginsAt, IsReadable}
use Rattle.tree_differences.proofs.Below.{readable_child, same_below}
use Rattle.tree_differences.proofs.Walks.{entry_child, none_below, none_below_file, readable_begins, readable_entry, row, row_added, rows_all, rows_more}
use Rattle.tree_differences.proofs.differing.+add_below.Goals as goal

pub returns-then-levels-eq0-clause-ok : goal.returns-then-levels-eq0-clause-ok
returns-then-levels-eq0-clause-ok g t c =
    sym (ap (λ (x : List Path). c.args.paths.now ++ x) (none_below (g.N.Nodes.node c.args.nodes.now) c.args.levels c.args.directory.now c.args.place c.args.other c.if-levels-eq0.true) ∙ append-nil c.args.paths.now)

pub returns-then-not-is_dir-clause-ok : goal.returns-then-not-is_dir-clause-ok
returns-then-not-is_dir-clause-ok g t c =
    sym (ap (λ (x : List Path). c.args.paths.now ++ x) (none_below_file (g.N.Nodes.node c.args.nodes.now) c.args.levels c.args.directory.now c.args.place c.args.other (sym c.is_dir.ensures ∙ c.if-not-is_dir.true))
    ∙ append-nil c.args.paths.now)

pub returns-then-is_same-clause-ok : goal.returns-then-is_same-clause-ok
returns-then-is_same-clause-ok g t c =
    let f = g.N.Nodes.node c.args.nodes.now in
    sym (ap (λ (x : List Path). c.args.paths.now ++ x) (ap (differing_below f c.args.levels c.args.directory.now c.args.place) (c.is_same.ensures.0 c.if-is_same.true) ∙ same_below f c.args.levels c.args.directory.now c.args.place)
    ∙ append-nil c.args.paths.now)

pub entries_at-requires-clause-begins : goal.entries_at-requires-clause-begins
entries_at-requires-clause-begins g t c = c.requires.place [] c.args.place refl

pub places_at-requires-clause-begins : goal.places_at-requires-clause-begins
places_at-requires-clause-begins g t c =
    subst (λ (h : Blocks). BeginsAt h c.args.other) (sym c.entries_at.ensures.looks.same_nodes) (readable_begins (g.N.Nodes.node c.args.nodes.now) c.args.other c.requires.other)

pub add_below-requires : goal.add_below-requires
add_below-requires g t c κs within =
    let f = g.N.Nodes.node c.args.nodes.now in
    let some : 0 < c.args.levels = omega arith in
    let entries = c.as_slice-name-items.result.now in
    let item = c.loop-name-item.result in
    let are : entries ≡ map placed (items_at f (Some c.args.place)) = c.as_slice-name-items.ensures ∙ c.in_ok-entries.ensures.entries in
    let there : c.copied-there.result ≡ child_at f c.args.other item.0 =
    c.copied-there.ensures ∙ c.get.ensures.value ∙ c.in_ok-others.ensures.places item.0 ∙ ap (λ (h : Blocks). child_at h c.args.other item.0) c.entries_at.ensures.looks.same_nodes in
    let longer = ap length c.in_ok-path.ensures ∙ length-append c.args.directory.now (item.0 ∷ []) in
    let same = c.loop-name.invariant.looks in (
      omega (arith, some),
      (
        within,
        (
          same.sound,
          (
            subst (λ (h : Blocks). IsReadable h (Some item.1)) (sym same.same_nodes)
                (readable_entry f c.args.place item (entry_child f c.args.place entries c.loop-name.name-index item are c.loop-name-test.true c.loop-name-item.is) c.requires.place),
            (
              subst (λ (h : Blocks). IsReadable h c.copied-there.result) (sym same.same_nodes) (subst (IsReadable f) (sym there) (readable_child f c.args.other item.0 c.requires.other)),
              omega (arith, c.requires.room, longer, some),
            ),
          ),
        ),
      ),
    )

pub returns-in_err-add_below-clause-refused : goal.returns-in_err-add_below-clause-refused
returns-in_err-add_below-clause-refused g t c =
    let p = err_from_is_err_and c.from_residual-in_err-add_below.result c.from_residual-in_err-add_below.ensures.1 in
    rw (p.1, p.2) (c.in_err-add_below.ensures.refused.0, g.met.N.Nodes.causes_on c.args.nodes.now c.loop-name.nodes c.add_below.new.nodes c.in_err-add_below.field-0.0 c.loop-name.invariant.looks.came c.in_err-add_below.ensures.refused.1)

pub loop-name-preserved : goal.loop-name-preserved
loop-name-preserved g t c =
    let f = g.N.Nodes.node c.args.nodes.now in
    let entries = c.as_slice-name-items.result.now in
    let item = c.loop-name-item.result in
    let same = c.loop-name.invariant.looks in
    let there : c.copied-there.result ≡ child_at f c.args.other item.0 =
    c.copied-there.ensures ∙ c.get.ensures.value ∙ c.in_ok-others.ensures.places item.0 ∙ ap (λ (h : Blocks). child_at h c.args.other item.0) c.entries_at.ensures.looks.same_nodes in
    record {
      paths = rows_more (row f (c.args.levels - 1) c.args.directory.now c.args.other) entries c.loop-name.name-index item c.args.paths.now c.loop-name.paths c.add_below.new.paths c.loop-name-test.true c.loop-name-item.is
          c.loop-name.invariant.paths
          (row_added f (c.args.levels - 1) c.args.directory.now c.in_ok-path.path c.args.other c.copied-there.result item c.loop-name.paths c.push_told.new.paths c.add_below.new.paths there c.in_ok-path.ensures
          c.in_ok-push_told.ensures (c.in_ok-add_below.ensures.ok ∙ ap (λ (h : Blocks). c.push_told.new.paths ++ differing_below h (c.args.levels - 1) c.in_ok-path.path item.1 c.copied-there.result) same.same_nodes));
      looks = g.met.N.Nodes.looks_on c.args.nodes.now c.loop-name.nodes c.add_below.new.nodes same c.add_below.ensures.looks;
    }

pub returns-clause-ok : goal.returns-clause-ok
returns-clause-ok g t c =
    let f = g.N.Nodes.node c.args.nodes.now in
    let some : 0 < c.args.levels = omega arith in
    let entries = c.as_slice-name-items.result.now in
    let past = c.loop-name-test.false in
    rows_all f c.args.levels c.args.directory.now c.args.place c.args.other entries c.loop-name.name-index c.args.paths.now c.loop-name.paths some (c.as_slice-name-items.ensures ∙ c.in_ok-entries.ensures.entries)
    (omega (arith, past)) c.loop-name.invariant.paths
