use Rattle.std.proofs.Common.{◌≡◌, ℕ, ◌+◌, ◌-◌, ◌<◌, true, Some, List, [], length, take, drop, get_or, ap, sym, subst, ◌∙◌, arith, rules}
use Rattle.std.proofs.lemmas.List.{get_or_default}
use Rattle.std.proofs.lemmas.Result.{err_from_is_err_and}
use Rattle.std.specs.Prelude.{slice_index, Ok}
use Rattle.std.specs.List.{sum_by}
use Rattle.directory.specs.Counts.{nodes_in, edit_nodes, read_nodes}
use Rattle.fs_types.specs.Names.{Name, Path, same_name}
use Rattle.node_format.specs.declared.place.Place.TheVariants.{Dir}
use Rattle.nodes.specs.Words.{Keeps}
use Rattle.nodes.specs.Trees.{entries_in, items_in}
use Rattle.nodes.specs.Rewritten.{IsDirectoryEdit, IsMoved}
use Rattle.directory.specs.Trails.{IsHeldTrail, takes}
use Rattle.directory.specs.Moves.{common, IsFork}
use Rattle.directory.proofs.MovedPaths.{only_moved}
use Rattle.directory.proofs.TrailEdits.{first_is, level_takes, level_held_later}
use Rattle.directory.proofs.Forks.{parted, fork_of}
use Rattle.directory.proofs.Branches.{moved_up, level_along}
use Rattle.directory.proofs.moves.move_entry.Goals as goal
use Rattle.nodes.specs.WordLaws.{keeps_nodes, works_after, works_both, works_wider}

pub rewrite_fork-requires-clause-fork : goal.rewrite_fork-requires-clause-fork
rewrite_fork-requires-clause-fork g c =
    let f = g.N.Nodes.node c.args.nodes.now in
    let k = g.N.Nodes.kept c.args.nodes.now in
    let old = c.args.old.now in
    let new = c.args.new.now in
    let fork = fork_of f k c.args.root old new c.args.old_trail.now c.args.new_trail.now c.args.place c.requires.sought.apart c.requires.sought.held c.requires.sought.old_way c.requires.sought.new_way c.requires.sought.stands c.requires.sought.room in
    let names = c.names-names.ensures.names in
    let names' = c.names-2.ensures.names in
    let blocks = c.blocks-blocks.ensures in
    let blocks' = c.blocks-2.ensures in
    let count : c.common_names-fork.result ≡ common old new = search rules in
    subst (λ (n : ℕ). IsFork f k c.names-names.result.now c.blocks-blocks.result.now c.names-2.result.now c.blocks-2.result.now c.args.place n) (sym count)
    (subst (λ (p : Path). IsFork f k p c.blocks-blocks.result.now c.names-2.result.now c.blocks-2.result.now c.args.place (common old new)) (sym names)
    (subst (λ (t : List ℕ). IsFork f k old t c.names-2.result.now c.blocks-2.result.now c.args.place (common old new)) (sym blocks)
    (subst (λ (p : Path). IsFork f k old c.args.old_trail.now p c.blocks-2.result.now c.args.place (common old new)) (sym names')
    (subst (λ (t : List ℕ). IsFork f k old c.args.old_trail.now new t c.args.place (common old new)) (sym blocks') fork))))

pub edit_directory-requires-clause-takes : goal.edit_directory-requires-clause-takes
edit_directory-requires-clause-takes g c =
    let old = c.args.nodes.now in
    let mid = c.loop-i.nodes in
    let f0 = g.N.Nodes.node old in
    let f1 = g.N.Nodes.node mid in
    let k0 = g.N.Nodes.kept old in
    let k1 = g.N.Nodes.kept mid in
    let names = c.names-names.result.now in
    let trail = c.blocks-blocks.result.now in
    let new_names = c.args.new.now in
    let i = c.loop-i.i - 1 in
    let test = c.loop-i-test.true in
    let auto = c.loop-i.auto.i in
    let is = parted c.args.old.now new_names c.requires.sought.apart in
    let count : c.common_names-fork.result ≡ common c.args.old.now new_names = search rules in
    let in_first = is.in_first in
    let in_second = is.in_second in
    let size : length names ≡ length c.args.old.now = ap length c.names-names.ensures.names in
    let more : i + 1 < length names = omega arith in
    let within : i < length names = omega arith in
    let before_fork : i < common c.args.old.now new_names = omega arith in
    let name : c.index-names-i.result ≡ get_or names i [] = c.index-names-i.is ∙ get_or_default names i c.index-names-i.result [] within in
    let way : IsHeldTrail f0 k0 names trail =
    subst (λ (p : Path). IsHeldTrail f0 k0 p trail) (sym c.names-names.ensures.names)
    (subst (λ (t : List ℕ). IsHeldTrail f0 k0 c.args.old.now t) (sym c.blocks-blocks.ensures) (record { root = c.args.root; trail_of = c.requires.sought.old_way; held = c.requires.sought.held })) in
    let before : Keeps g.N.Nodes old mid = keeps_nodes g.N.Nodes g.met.N.Nodes.same_node g.met.N.Nodes.stays_kept old mid c.requires.sound c.loop-i.invariant.calls.2.works.came in
    subst (λ (n : Name). takes (entries_in f1 (slice_index trail i)) n (Some (Dir c.loop-i.to)) ≡ true) (sym name) (level_takes f0 f1 k0 k1 names trail i c.loop-i.to way more before)

pub edit_directory-requires-clause-held : goal.edit_directory-requires-clause-held
edit_directory-requires-clause-held g c =
    let old = c.args.nodes.now in
    let mid = c.loop-i.nodes in
    let names = c.names-names.result.now in
    let trail = c.blocks-blocks.result.now in
    let test = c.loop-i-test.true in
    let auto = c.loop-i.auto.i in
    let is = parted c.args.old.now c.args.new.now c.requires.sought.apart in
    let count : c.common_names-fork.result ≡ common c.args.old.now c.args.new.now = search rules in
    let in_first = is.in_first in
    let size : length names ≡ length c.args.old.now = ap length c.names-names.ensures.names in
    let way : IsHeldTrail (g.N.Nodes.node old) (g.N.Nodes.kept old) names trail =
    subst (λ (p : Path). IsHeldTrail (g.N.Nodes.node old) (g.N.Nodes.kept old) p trail) (sym c.names-names.ensures.names)
    (subst (λ (t : List ℕ). IsHeldTrail (g.N.Nodes.node old) (g.N.Nodes.kept old) c.args.old.now t) (sym c.blocks-blocks.ensures) (record { root = c.args.root; trail_of = c.requires.sought.old_way; held = c.requires.sought.held })) in
    let before : Keeps g.N.Nodes old mid = keeps_nodes g.N.Nodes g.met.N.Nodes.same_node g.met.N.Nodes.stays_kept old mid c.requires.sound c.loop-i.invariant.calls.2.works.came in
    level_held_later (g.N.Nodes.node old) (g.N.Nodes.node mid) (g.N.Nodes.kept old) (g.N.Nodes.kept mid) names trail (c.loop-i.i - 1) way (omega arith) before

pub returns-in_err-to-2-clause-keeps : goal.returns-in_err-to-2-clause-keeps
returns-in_err-to-2-clause-keeps g c =
    let follows = g.met.N.Nodes.follows_on c.args.nodes.now c.loop-i.nodes c.edit_directory.new.nodes c.loop-i.invariant.calls.2.works.came c.edit_directory.ensures.calls.works.came in
    keeps_nodes g.N.Nodes g.met.N.Nodes.same_node g.met.N.Nodes.stays_kept c.args.nodes.now c.edit_directory.new.nodes c.requires.sound follows

pub loop-i-preserved : goal.loop-i-preserved
loop-i-preserved g c =
    let old = c.args.nodes.now in
    let mid = c.loop-i.nodes in
    let f0 = g.N.Nodes.node old in
    let f1 = g.N.Nodes.node mid in
    let k0 = g.N.Nodes.kept old in
    let k1 = g.N.Nodes.kept mid in
    let names = c.names-names.result.now in
    let trail = c.blocks-blocks.result.now in
    let new_names = c.args.new.now in
    let i = c.loop-i.i - 1 in
    let test = c.loop-i-test.true in
    let auto = c.loop-i.auto.i in
    let is = parted c.args.old.now new_names c.requires.sought.apart in
    let count : c.common_names-fork.result ≡ common c.args.old.now new_names = search rules in
    let in_first = is.in_first in
    let in_second = is.in_second in
    let size : length names ≡ length c.args.old.now = ap length c.names-names.ensures.names in
    let more : i + 1 < length names = omega arith in
    let within : i < length names = omega arith in
    let before_fork : i < common c.args.old.now new_names = omega arith in
    let name : c.index-names-i.result ≡ get_or names i [] = c.index-names-i.is ∙ get_or_default names i c.index-names-i.result [] within in
    let way : IsHeldTrail f0 k0 names trail =
    subst (λ (p : Path). IsHeldTrail f0 k0 p trail) (sym c.names-names.ensures.names)
    (subst (λ (t : List ℕ). IsHeldTrail f0 k0 c.args.old.now t) (sym c.blocks-blocks.ensures) (record { root = c.args.root; trail_of = c.requires.sought.old_way; held = c.requires.sought.held })) in
    let before : Keeps g.N.Nodes old mid = keeps_nodes g.N.Nodes g.met.N.Nodes.same_node g.met.N.Nodes.stays_kept old mid c.requires.sound c.loop-i.invariant.calls.2.works.came in
    let last = c.edit_directory.new.nodes in
    let f2 = g.N.Nodes.node last in
    let k2 = g.N.Nodes.kept last in
    let to = c.in_ok-to-2.to in
    let next : c.loop-i.i ≡ i + 1 = omega arith in
    let keeps : Keeps g.N.Nodes mid last = keeps_nodes g.N.Nodes g.met.N.Nodes.same_node g.met.N.Nodes.stays_kept mid last c.loop-i.invariant.calls.2.works.sound c.edit_directory.ensures.calls.works.came in
    let same : same_name (get_or names i []) (get_or new_names i []) ≡ true =
    subst (λ (p : Path). same_name (get_or p i []) (get_or new_names i []) ≡ true) (sym c.names-names.ensures.names) (is.alike i before_fork) in
    let edit : IsDirectoryEdit f1 f2 (slice_index trail i) to (get_or names i []) (Some (Dir c.loop-i.to)) =
    subst (λ (n : Name). IsDirectoryEdit f1 f2 (slice_index trail i) to n (Some (Dir c.loop-i.to))) name c.in_ok-to-2.ensures.edited.0 in
    let lower : IsMoved f0 f1 k0 k1 (slice_index trail (i + 1)) c.loop-i.to (drop (i + 1) names) (drop (i + 1) new_names) c.args.place =
    subst (λ (k : ℕ). IsMoved f0 f1 k0 k1 (slice_index trail k) c.loop-i.to (drop k names) (drop k new_names) c.args.place) next c.loop-i.invariant.moved in
    let cost = level_along f0 f1 k0 k1 names trail i way more before in
    let wrote : edit_nodes (items_in f1 (slice_index trail i)) c.index-names-i.result true ≡ edit_nodes (items_in f1 (slice_index trail i)) (get_or names i []) true = ap (λ (n : Name). edit_nodes (items_in f1 (slice_index trail i)) n true) name in
    let read : read_nodes (items_in f1 (slice_index trail i)) c.index-names-i.result true ≡ read_nodes (items_in f1 (slice_index trail i)) (get_or names i []) true = ap (λ (n : Name). read_nodes (items_in f1 (slice_index trail i)) n true) name in
    let along : sum_by (nodes_in f0) (take c.loop-i.i trail) ≡ sum_by (nodes_in f0) (take (i + 1) trail) = ap (λ (k : ℕ). sum_by (nodes_in f0) (take k trail)) next in
    record {
      lawful = search rules;
      moved = moved_up f0 f1 f2 k0 k1 k2 names new_names trail i to c.loop-i.to c.args.place way more (omega arith) same before keeps (λ b free. g.met.N.Nodes.was_fresh old mid b c.loop-i.invariant.calls.2.works.came free) lower edit c.in_ok-to-2.ensures.edited.1;
      calls = (_, _, works_both g.met.N.Nodes.works_on g.met.N.Nodes.causes_on old mid last c.loop-i.invariant.calls.2 c.in_ok-to-2.ensures.calls, omega (arith, read, cost.1, along, c.loop-i.invariant.calls.3), omega (arith, wrote, cost.0, along, c.loop-i.invariant.calls.4));
    }

pub prove-unreachable-requires : goal.prove-unreachable-requires
prove-unreachable-requires g c =
    let less = (parted c.args.old.now c.args.new.now c.requires.sought.apart).in_first in
    let first = first_is (g.N.Nodes.node c.args.nodes.now) c.args.root c.args.old.now c.args.old_trail.now c.requires.sought.old_way (omega arith) in
    c.if-prove.true (ap (λ (t : List ℕ). slice_index t 0) c.blocks-blocks.ensures ∙ first)

pub returns-clause-reaches : goal.returns-clause-reaches
returns-clause-reaches g c =
    let old = c.args.nodes.now in
    let new = c.loop-i.nodes in
    let keeps : Keeps g.N.Nodes old new = keeps_nodes g.N.Nodes g.met.N.Nodes.same_node g.met.N.Nodes.stays_kept old new c.requires.sound c.loop-i.invariant.calls.2.works.came in
    let moved : IsMoved (g.N.Nodes.node old) (g.N.Nodes.node new) (g.N.Nodes.kept old) (g.N.Nodes.kept new) c.args.root c.loop-i.to c.args.old.now c.args.new.now c.args.place = search rules in
    only_moved (g.N.Nodes.node old) (g.N.Nodes.node new) (g.N.Nodes.kept old) (g.N.Nodes.kept new) c.args.root c.args.old.now c.args.new.now c.args.place (Ok c.loop-i.to) keeps c.requires.sought.held c.requires.sought.stands moved

pub returns-in_err-to-clause-keeps : goal.returns-in_err-to-clause-keeps
returns-in_err-to-clause-keeps g c = keeps_nodes g.N.Nodes g.met.N.Nodes.same_node g.met.N.Nodes.stays_kept c.args.nodes.now c.rewrite_fork.new.nodes c.requires.sound c.rewrite_fork.ensures.calls.works.came

pub returns-clause-keeps : goal.returns-clause-keeps
returns-clause-keeps g c = keeps_nodes g.N.Nodes g.met.N.Nodes.same_node g.met.N.Nodes.stays_kept c.args.nodes.now c.loop-i.nodes c.requires.sound c.loop-i.invariant.calls.2.works.came

pub edit_directory-requires-clause-sound : goal.edit_directory-requires-clause-sound
edit_directory-requires-clause-sound g c = c.loop-i.invariant.calls.2.works.sound

pub edit_directory-requires-clause-place : goal.edit_directory-requires-clause-place
edit_directory-requires-clause-place g c = c.loop-i.invariant.lawful

pub loop-i-init : goal.loop-i-init
loop-i-init g c = record {
  lawful = search rules;
  moved = search rules;
  calls = (_, _, c.in_ok-to.ensures.calls, search rules, search rules);
}

pub returns-in_err-to-clause-calls : goal.returns-in_err-to-clause-calls
returns-in_err-to-clause-calls g c =
    let p = err_from_is_err_and c.from_residual.result c.from_residual.ensures.1 in
    rw (p.1, p.2) (works_wider c.in_err-to.ensures.calls (search rules) (search rules))

pub returns-in_err-to-2-clause-calls : goal.returns-in_err-to-2-clause-calls
returns-in_err-to-2-clause-calls g c =
    let old = c.args.nodes.now in
    let mid = c.loop-i.nodes in
    let f0 = g.N.Nodes.node old in
    let f1 = g.N.Nodes.node mid in
    let k0 = g.N.Nodes.kept old in
    let k1 = g.N.Nodes.kept mid in
    let names = c.names-names.result.now in
    let trail = c.blocks-blocks.result.now in
    let new_names = c.args.new.now in
    let i = c.loop-i.i - 1 in
    let test = c.loop-i-test.true in
    let auto = c.loop-i.auto.i in
    let is = parted c.args.old.now new_names c.requires.sought.apart in
    let count : c.common_names-fork.result ≡ common c.args.old.now new_names = search rules in
    let in_first = is.in_first in
    let size : length names ≡ length c.args.old.now = ap length c.names-names.ensures.names in
    let more : i + 1 < length names = omega arith in
    let within : i < length names = omega arith in
    let name : c.index-names-i.result ≡ get_or names i [] = c.index-names-i.is ∙ get_or_default names i c.index-names-i.result [] within in
    let way : IsHeldTrail f0 k0 names trail =
    subst (λ (p : Path). IsHeldTrail f0 k0 p trail) (sym c.names-names.ensures.names)
    (subst (λ (t : List ℕ). IsHeldTrail f0 k0 c.args.old.now t) (sym c.blocks-blocks.ensures) (record { root = c.args.root; trail_of = c.requires.sought.old_way; held = c.requires.sought.held })) in
    let before : Keeps g.N.Nodes old mid = keeps_nodes g.N.Nodes g.met.N.Nodes.same_node g.met.N.Nodes.stays_kept old mid c.requires.sound c.loop-i.invariant.calls.2.works.came in
    let last = c.edit_directory.new.nodes in
    let next : c.loop-i.i ≡ i + 1 = omega arith in
    let along : sum_by (nodes_in f0) (take c.loop-i.i trail) ≡ sum_by (nodes_in f0) (take (i + 1) trail) = ap (λ (k : ℕ). sum_by (nodes_in f0) (take k trail)) next in
    let cost = level_along f0 f1 k0 k1 names trail i way more before in
    let wrote : edit_nodes (items_in f1 (slice_index trail i)) c.index-names-i.result true ≡ edit_nodes (items_in f1 (slice_index trail i)) (get_or names i []) true = ap (λ (n : Name). edit_nodes (items_in f1 (slice_index trail i)) n true) name in
    let read : read_nodes (items_in f1 (slice_index trail i)) c.index-names-i.result true ≡ read_nodes (items_in f1 (slice_index trail i)) (get_or names i []) true = ap (λ (n : Name). read_nodes (items_in f1 (slice_index trail i)) n true) name in
    let p = err_from_is_err_and c.from_residual-in_err-to-2.result c.from_residual-in_err-to-2.ensures.1 in
    rw (p.1, p.2) (works_after g.met.N.Nodes.works_on g.met.N.Nodes.causes_on old mid last (λ fault is. is) c.loop-i.invariant.calls.2 c.in_err-to-2.ensures.calls (omega (arith, read, cost.1, along, c.loop-i.invariant.calls.3)) (omega (arith, wrote, cost.0, along, c.loop-i.invariant.calls.4)))

pub returns-clause-calls : goal.returns-clause-calls
returns-clause-calls g c = works_wider c.loop-i.invariant.calls.2 (omega (arith, c.loop-i.invariant.calls.3)) (omega (arith, c.loop-i.invariant.calls.4))
