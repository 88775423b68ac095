use Rattle.std.proofs.Common.{◌≡◌, ℕ, ◌+◌, ◌≤◌, Bool, true, false, Some, Option, List, [], ◌∷◌, length, drop, get_or, ap, sym, subst, ◌∙◌, arith}
use Rattle.std.proofs.lemmas.List.{get_or_default}
use Rattle.std.proofs.lemmas.Result.{err_from_is_err_and}
use Rattle.std.specs.Prelude.{slice_index, unwrap_or, nat_lt, IsSome, IfOk}
use Rattle.std.specs.Option.{is_some}
use Rattle.plain_trees.proofs.Needs.{nodes_for-le}
use Rattle.directory.specs.Counts.{nodes_in, edit_nodes}
use Rattle.fs_types.specs.Names.{Name, Path, same_name}
use Rattle.node_format.specs.declared.place.Place.TheVariants.{Dir}
use Rattle.node_format.specs.Items.{Item, named_place}
use Rattle.nodes.specs.Words.{Keeps}
use Rattle.nodes.specs.Trees.{entries_in, items_in}
use Rattle.nodes.specs.Reached.{IsHeld}
use Rattle.nodes.specs.Rewritten.{IsSecondEdit, IsBranch, IsFreshChain, IsMoved}
use Rattle.directory.specs.Trails.{takes}
use Rattle.directory.proofs.MovedPaths.{Parts, same_parted, path_parted}
use Rattle.directory.proofs.TrailEdits.{level_held, way_later, taken_later, path_nodes-later, path_nodes-least}
use Rattle.directory.proofs.Forks.{first_name}
use Rattle.directory.proofs.Branches.{fork_room, gone_there}
use Rattle.directory.proofs.moves.rewrite_fork.Goals as goal
use Rattle.nodes.specs.WordLaws.{keeps_nodes, works_after, works_both, works_refused, works_wider}

pub rewrite_branch-requires-2-clause-way : goal.rewrite_branch-requires-2-clause-way
rewrite_branch-requires-2-clause-way g c =
    let old = c.args.nodes.now in
    let one = c.rewrite_branch.new.nodes in
    let f0 = g.N.Nodes.node old in
    let f1 = g.N.Nodes.node one in
    let k0 = g.N.Nodes.kept old in
    let k1 = g.N.Nodes.kept one in
    let first : Keeps g.N.Nodes old one = keeps_nodes g.N.Nodes g.met.N.Nodes.same_node g.met.N.Nodes.stays_kept old one c.requires.sound c.rewrite_branch.ensures.calls.works.came in
    way_later f0 f1 k0 k1 c.args.new.now c.args.new_trail.now first c.requires.fork.new_way

pub rewrite_branch-requires-2-clause-taken : goal.rewrite_branch-requires-2-clause-taken
rewrite_branch-requires-2-clause-taken g c more =
    let old = c.args.nodes.now in
    let one = c.rewrite_branch.new.nodes in
    let f0 = g.N.Nodes.node old in
    let f1 = g.N.Nodes.node one in
    let k0 = g.N.Nodes.kept old in
    let k1 = g.N.Nodes.kept one in
    let first : Keeps g.N.Nodes old one = keeps_nodes g.N.Nodes g.met.N.Nodes.same_node g.met.N.Nodes.stays_kept old one c.requires.sound c.rewrite_branch.ensures.calls.works.came in
    let in_new = c.requires.fork.in_new in
    taken_later f0 f1 k0 k1 c.args.new.now c.args.new_trail.now (Some c.args.place) first c.requires.fork.new_way (omega arith) (c.requires.fork.here (omega (arith, more)))

pub edit_directory_twice-requires-clause-takes : goal.edit_directory_twice-requires-clause-takes
edit_directory_twice-requires-clause-takes g c =
    let old = c.args.nodes.now in
    let one = c.rewrite_branch.new.nodes in
    let two = c.rewrite_branch-2.new.nodes in
    let f0 = g.N.Nodes.node old in
    let f1 = g.N.Nodes.node one in
    let f2 = g.N.Nodes.node two in
    let k0 = g.N.Nodes.kept old in
    let k1 = g.N.Nodes.kept one in
    let k2 = g.N.Nodes.kept two in
    let first : Keeps g.N.Nodes old one = keeps_nodes g.N.Nodes g.met.N.Nodes.same_node g.met.N.Nodes.stays_kept old one c.requires.sound c.rewrite_branch.ensures.calls.works.came in
    let second : Keeps g.N.Nodes one two = keeps_nodes g.N.Nodes g.met.N.Nodes.same_node g.met.N.Nodes.stays_kept one two c.rewrite_branch.ensures.calls.works.sound c.rewrite_branch-2.ensures.calls.works.came in
    let fork = c.args.fork in
    let old_names = c.args.old.now in
    let new_names = c.args.new.now in
    let block = slice_index c.args.old_trail.now fork in
    let in_old = c.requires.fork.in_old in
    let in_new = c.requires.fork.in_new in
    let old_name : c.index-old-fork.result ≡ get_or old_names fork [] = c.index-old-fork.is ∙ get_or_default old_names fork c.index-old-fork.result [] in_old in
    let new_name : c.index-new-fork.result ≡ get_or new_names fork [] = c.index-new-fork.is ∙ get_or_default new_names fork c.index-new-fork.result [] in_new in
    let held : IsHeld f0 k0 (Dir block) = level_held f0 k0 old_names c.args.old_trail.now fork c.requires.fork.old_way in_old in
    let same = same_parted f0 f1 f2 k0 k1 k2 block first second held in
    let apart : same_name c.index-old-fork.result c.index-new-fork.result ≡ false =
    (λ i. same_name (old_name i) (new_name i)) ∙ c.requires.fork.differs in
    let named_it : IsSome (named_place (items_in f2 block) c.index-old-fork.result) =
    subst (λ (entries : Option (List Item)). IsSome (named_place (unwrap_or entries []) c.index-old-fork.result)) (sym same.0)
    (subst (λ (n : Name). IsSome (named_place (items_in f0 block) n)) (sym old_name) c.requires.fork.stands) in
    record {
      gone_place = c.in_ok-gone.ensures.lawful;
      here_place = c.in_ok-here.ensures.lawful;
      apart = apart;
      named = named_it;
      room = λ some.
          let room = fork_room f0 f1 f2 k0 k1 k2 old_names new_names c.args.old_trail.now c.args.new_trail.now c.args.place fork c.in_ok-gone.gone c.in_ok-here.here c.requires.fork c.in_ok-gone.ensures.branch c.in_ok-here.ensures.branch some in
          subst (λ (entries : Option (List Item)). takes entries c.index-new-fork.result c.in_ok-here.here ≡ true) (sym same.0)
          (subst (λ (n : Name). takes (entries_in f0 block) n c.in_ok-here.here ≡ true) (sym new_name) room);
    }

pub returns-clause-moved : goal.returns-clause-moved
returns-clause-moved g c =
    let old = c.args.nodes.now in
    let one = c.rewrite_branch.new.nodes in
    let two = c.rewrite_branch-2.new.nodes in
    let f0 = g.N.Nodes.node old in
    let f1 = g.N.Nodes.node one in
    let f2 = g.N.Nodes.node two in
    let k0 = g.N.Nodes.kept old in
    let k1 = g.N.Nodes.kept one in
    let k2 = g.N.Nodes.kept two in
    let first : Keeps g.N.Nodes old one = keeps_nodes g.N.Nodes g.met.N.Nodes.same_node g.met.N.Nodes.stays_kept old one c.requires.sound c.rewrite_branch.ensures.calls.works.came in
    let second : Keeps g.N.Nodes one two = keeps_nodes g.N.Nodes g.met.N.Nodes.same_node g.met.N.Nodes.stays_kept one two c.rewrite_branch.ensures.calls.works.sound c.rewrite_branch-2.ensures.calls.works.came in
    let fork = c.args.fork in
    let old_names = c.args.old.now in
    let new_names = c.args.new.now in
    let block = slice_index c.args.old_trail.now fork in
    let in_old = c.requires.fork.in_old in
    let in_new = c.requires.fork.in_new in
    let old_name : c.index-old-fork.result ≡ get_or old_names fork [] = c.index-old-fork.is ∙ get_or_default old_names fork c.index-old-fork.result [] in_old in
    let new_name : c.index-new-fork.result ≡ get_or new_names fork [] = c.index-new-fork.is ∙ get_or_default new_names fork c.index-new-fork.result [] in_new in
    let held : IsHeld f0 k0 (Dir block) = level_held f0 k0 old_names c.args.old_trail.now fork c.requires.fork.old_way in_old in
    let same = same_parted f0 f1 f2 k0 k1 k2 block first second held in
    let new = c.edit_directory_twice.new.nodes in
    let f3 = g.N.Nodes.node new in
    let k3 = g.N.Nodes.kept new in
    let n = get_or old_names fork [] in
    let m = get_or new_names fork [] in
    let p = drop (fork + 1) old_names in
    let q = drop (fork + 1) new_names in
    let place = c.args.place in
    let gone = c.in_ok-gone.gone in
    let here = c.in_ok-here.here in
    let r = c.edit_directory_twice.result in
    let third : Keeps g.N.Nodes two new = keeps_nodes g.N.Nodes g.met.N.Nodes.same_node g.met.N.Nodes.stays_kept two new c.rewrite_branch-2.ensures.calls.works.sound c.edit_directory_twice.ensures.calls.works.came in
    let parts : Parts f0 f1 f2 k0 k1 k2 block n m p q place gone here = record {
      differs = c.requires.fork.differs;
      held = held;
      first = first;
      second = second;
      was_fresh = λ b fresh. g.met.N.Nodes.was_fresh old one b c.rewrite_branch.ensures.calls.works.came fresh;
      was_fresh_too = λ b fresh. g.met.N.Nodes.was_fresh one two b c.rewrite_branch-2.ensures.calls.works.came fresh;
      old_branch = c.in_ok-gone.ensures.branch;
      new_branch = subst (λ (b : ℕ). IsBranch f1 f2 k1 k2 b m q (Some place) here) c.requires.fork.same c.in_ok-here.ensures.branch;
    } in
    let edited : IfOk r (λ to. IsSecondEdit f2 f3 block to n gone m here × IsFreshChain f2 f3 k2 k3 block to) =
    subst (λ (a : Name). IfOk r (λ to. IsSecondEdit f2 f3 block to a gone m here × IsFreshChain f2 f3 k2 k3 block to)) old_name
    (subst (λ (a : Name). IfOk r (λ to. IsSecondEdit f2 f3 block to c.index-old-fork.result gone a here × IsFreshChain f2 f3 k2 k3 block to)) new_name c.edit_directory_twice.ensures.edited) in
    let moved = path_parted f0 f1 f2 f3 k0 k1 k2 k3 block n m p q place gone here r parts third edited in
    subst (λ (a : Path). IfOk r (λ to. IsMoved f0 f3 k0 k3 block to a (drop fork new_names) place)) (sym (first_name fork old_names in_old))
    (subst (λ (a : Path). IfOk r (λ to. IsMoved f0 f3 k0 k3 block to (n ∷ p) a place)) (sym (first_name fork new_names in_new)) moved)

pub rewrite_branch-requires-clause-fork : goal.rewrite_branch-requires-clause-fork
rewrite_branch-requires-clause-fork g c = c.requires.fork.in_old

pub rewrite_branch-requires-clause-way : goal.rewrite_branch-requires-clause-way
rewrite_branch-requires-clause-way g c = c.requires.fork.old_way

pub rewrite_branch-requires-clause-taken : goal.rewrite_branch-requires-clause-taken
rewrite_branch-requires-clause-taken g c = c.requires.fork.gone

pub rewrite_branch-requires-2-clause-sound : goal.rewrite_branch-requires-2-clause-sound
rewrite_branch-requires-2-clause-sound g c = c.rewrite_branch.ensures.calls.works.sound

pub rewrite_branch-requires-2-clause-fork : goal.rewrite_branch-requires-2-clause-fork
rewrite_branch-requires-2-clause-fork g c = c.requires.fork.in_new

pub edit_directory_twice-requires-clause-sound : goal.edit_directory_twice-requires-clause-sound
edit_directory_twice-requires-clause-sound g c = c.rewrite_branch-2.ensures.calls.works.sound

pub returns-in_err-gone-clause-calls : goal.returns-in_err-gone-clause-calls
returns-in_err-gone-clause-calls g c =
    let p = err_from_is_err_and c.from_residual.result c.from_residual.ensures.1 in
    rw (p.1, p.2) (works_wider (works_refused c.in_err-gone.ensures.calls) (omega arith) (omega arith))

pub returns-in_err-here-clause-calls : goal.returns-in_err-here-clause-calls
returns-in_err-here-clause-calls g c =
    let old = c.args.nodes.now in
    let one = c.rewrite_branch.new.nodes in
    let f0 = g.N.Nodes.node old in
    let f1 = g.N.Nodes.node one in
    let k0 = g.N.Nodes.kept old in
    let k1 = g.N.Nodes.kept one in
    let first : Keeps g.N.Nodes old one = keeps_nodes g.N.Nodes g.met.N.Nodes.same_node g.met.N.Nodes.stays_kept old one c.requires.sound c.rewrite_branch.ensures.calls.works.came in
    let later = λ (puts : Bool). path_nodes-later f0 f1 k0 k1 c.args.new.now c.args.new_trail.now puts (c.args.fork + 1) first c.requires.fork.new_way in
    let least = path_nodes-least f0 c.args.new.now c.args.new_trail.now true (c.args.fork + 1) in
    let p = err_from_is_err_and c.from_residual-in_err-here.result c.from_residual-in_err-here.ensures.1 in
    rw (p.1, p.2) (works_wider (works_refused (works_both g.met.N.Nodes.works_on g.met.N.Nodes.causes_on old one c.rewrite_branch-2.new.nodes c.in_ok-gone.ensures.calls c.in_err-here.ensures.calls)) (omega (arith, later false, least)) (omega (arith, later true)))

pub returns-clause-calls : goal.returns-clause-calls
returns-clause-calls g c =
    let old = c.args.nodes.now in
    let one = c.rewrite_branch.new.nodes in
    let two = c.rewrite_branch-2.new.nodes in
    let f0 = g.N.Nodes.node old in
    let f1 = g.N.Nodes.node one in
    let f2 = g.N.Nodes.node two in
    let k0 = g.N.Nodes.kept old in
    let k1 = g.N.Nodes.kept one in
    let k2 = g.N.Nodes.kept two in
    let first : Keeps g.N.Nodes old one = keeps_nodes g.N.Nodes g.met.N.Nodes.same_node g.met.N.Nodes.stays_kept old one c.requires.sound c.rewrite_branch.ensures.calls.works.came in
    let second : Keeps g.N.Nodes one two = keeps_nodes g.N.Nodes g.met.N.Nodes.same_node g.met.N.Nodes.stays_kept one two c.rewrite_branch.ensures.calls.works.sound c.rewrite_branch-2.ensures.calls.works.came in
    let fork = c.args.fork in
    let new_names = c.args.new.now in
    let block = slice_index c.args.old_trail.now fork in
    let in_old = c.requires.fork.in_old in
    let in_new = c.requires.fork.in_new in
    let new_name : c.index-new-fork.result ≡ get_or new_names fork [] = c.index-new-fork.is ∙ get_or_default new_names fork c.index-new-fork.result [] in_new in
    let held : IsHeld f0 k0 (Dir block) = level_held f0 k0 c.args.old.now c.args.old_trail.now fork c.requires.fork.old_way in_old in
    let same : items_in f2 block ≡ items_in f0 block = ap (λ (o : Option (List Item)). unwrap_or o []) (same_parted f0 f1 f2 k0 k1 k2 block first second held).0 in
    let there = gone_there f0 f1 k0 k1 block fork (get_or c.args.old.now fork []) c.args.old.now c.in_ok-gone.gone c.in_ok-gone.ensures.branch in
    let at_fork : edit_nodes (items_in f2 block) c.index-new-fork.result (is_some c.in_ok-gone.gone) ≡ edit_nodes (items_in f0 block) (get_or new_names fork []) (nat_lt (fork + 1) (length c.args.old.now)) =
    λ i. edit_nodes (same i) (new_name i) (there i) in
    let later = λ (puts : Bool). path_nodes-later f0 f1 k0 k1 c.args.new.now c.args.new_trail.now puts (c.args.fork + 1) first c.requires.fork.new_way in
    let least = path_nodes-least f0 c.args.new.now c.args.new_trail.now true (c.args.fork + 1) in
    let whole : nodes_in f2 block ≤ edit_nodes (items_in f0 block) (get_or new_names fork []) (nat_lt (fork + 1) (length c.args.old.now)) =
    nodes_for-le (length (items_in f2 block)) _ (omega (arith, ap length same)) in
    let both = works_both g.met.N.Nodes.works_on g.met.N.Nodes.causes_on old one two c.in_ok-gone.ensures.calls c.in_ok-here.ensures.calls in
    works_after g.met.N.Nodes.works_on g.met.N.Nodes.causes_on old two c.edit_directory_twice.new.nodes (λ fault is. is) both c.edit_directory_twice.ensures.calls (omega (arith, later false, least, whole)) (omega (arith, later true, at_fork))
