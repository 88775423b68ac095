use Rattle.std.proofs.Common.{◌≡◌, ℕ, ◌<◌, Bool, true, false, Some, Ok, [], ◌∷◌, length, ap, ◌∙◌, arith}
use Rattle.std.proofs.lemmas.Result.{err_from_is_err_and}
use Rattle.fs_types.specs.Names.{Path}
use Rattle.nodes.specs.Bodies.{Blocks}
use Rattle.nodes.specs.Chains.{link_of}
use Rattle.node_format.specs.declared.place.Place.TheVariants.{Dir}
use Rattle.nodes.specs.Words.{Keeps, WorksWithin}
use Rattle.nodes.specs.Faults.{IsWriteFault}
use Rattle.directory.specs.declared.lookups.Found.TheVariants.{Missing}
use Rattle.directory.specs.Lookups.{look_up}
use Rattle.directory.specs.Trails.{has_room}
use Rattle.directory.proofs.EditedPaths.{made_reaches}
use Rattle.directory.proofs.Held.{held_later}
use Rattle.directory.proofs.NewDirectories.{rewritten_before}
use Rattle.directory.proofs.TrailEdits.{look_later, trail_later, path_nodes-later, write_refused}
use Rattle.directory.proofs.WrittenNodes.{empty_written, chained_is}
use Rattle.directory.proofs.edits.put_directory.Goals as goal
use Rattle.nodes.specs.WordLaws.{keeps_nodes, works_after}

missing_below : (f : Blocks) (root : ℕ) (path : Path) → look_up f root path ≡ Ok (Missing false) → 0 < length path
missing_below f root [] missing = absurd cc
missing_below f root (n ∷ path) missing = omega arith

pub put_entry-requires-clause-sought : goal.put_entry-requires-clause-sought
put_entry-requires-clause-sought g c =
    let old = c.args.nodes.now in
    let mid = c.write.new.self in
    let keeps : Keeps g.N.Nodes old mid = keeps_nodes g.N.Nodes g.met.N.Nodes.same_node g.met.N.Nodes.stays_kept old mid c.requires.sound c.write.ensures.works.came in
    record {
      below = missing_below (g.N.Nodes.node old) c.args.root c.args.path.now c.requires.missing;
      held = held_later (g.N.Nodes.node old) (g.N.Nodes.node mid) (g.N.Nodes.kept old) (g.N.Nodes.kept mid) keeps c.args.root c.requires.held;
      way = trail_later (g.N.Nodes.node old) (g.N.Nodes.node mid) (g.N.Nodes.kept old) (g.N.Nodes.kept mid) keeps c.args.path.now c.args.root c.args.trail.now c.requires.held c.requires.way;
    }

pub put_entry-requires-clause-room : goal.put_entry-requires-clause-room
put_entry-requires-clause-room g c =
    let old = c.args.nodes.now in
    let mid = c.write.new.self in
    let keeps : Keeps g.N.Nodes old mid = keeps_nodes g.N.Nodes g.met.N.Nodes.same_node g.met.N.Nodes.stays_kept old mid c.requires.sound c.write.ensures.works.came in
    ap has_room (look_later (g.N.Nodes.node old) (g.N.Nodes.node mid) (g.N.Nodes.kept old) (g.N.Nodes.kept mid) keeps c.args.path.now c.args.root c.requires.held ∙ c.requires.missing)

pub returns-clause-made : goal.returns-clause-made
returns-clause-made g c =
    let old = c.args.nodes.now in
    let mid = c.write.new.self in
    let new = c.put_entry.new.nodes in
    let keeps : Keeps g.N.Nodes old mid = keeps_nodes g.N.Nodes g.met.N.Nodes.same_node g.met.N.Nodes.stays_kept old mid c.requires.sound c.write.ensures.works.came in
    let block = c.in_ok-block.block in
    let same = g.met.N.Nodes.same_node mid new block c.write.ensures.works.sound c.put_entry.ensures.calls.works.came c.in_ok-block.ensures.kept in
    record {
      block = block;
      empty = empty_written (g.N.Nodes.node new) block (ap link_of (same ∙ c.in_ok-block.ensures.written) ∙ c.empty_directory.ensures.read);
      fresh = (c.in_ok-block.ensures.fresh, chained_is (g.N.Nodes.node new) block 0 [] (ap link_of (same ∙ c.in_ok-block.ensures.written) ∙ c.empty_directory.ensures.read));
      is_kept = g.met.N.Nodes.stays_kept mid new block c.put_entry.ensures.calls.works.came c.in_ok-block.ensures.kept;
      rewritten = rewritten_before (g.N.Nodes.node old) (g.N.Nodes.node mid) (g.N.Nodes.node new) (g.N.Nodes.kept old) (g.N.Nodes.kept mid) (g.N.Nodes.kept new) keeps (λ b free. g.met.N.Nodes.was_fresh old mid b c.write.ensures.works.came free) c.args.path.now c.args.root c.in_ok-to.to (Some (Dir block)) c.requires.held c.in_ok-to.ensures.rewritten;
    }

pub returns-clause-reaches : goal.returns-clause-reaches
returns-clause-reaches g c =
    let old = c.args.nodes.now in
    let new = c.put_entry.new.nodes in
    let before = g.met.N.Nodes.follows_on old c.write.new.self new c.write.ensures.works.came c.put_entry.ensures.calls.works.came in
    let keeps : Keeps g.N.Nodes old new = keeps_nodes g.N.Nodes g.met.N.Nodes.same_node g.met.N.Nodes.stays_kept old new c.requires.sound before in
    made_reaches (g.N.Nodes.node old) (g.N.Nodes.node new) (g.N.Nodes.kept old) (g.N.Nodes.kept new) c.args.root c.in_ok-to.to c.args.path.now keeps c.requires.held (returns-clause-made g c)

pub returns-in_err-block-clause-keeps : goal.returns-in_err-block-clause-keeps
returns-in_err-block-clause-keeps g c = keeps_nodes g.N.Nodes g.met.N.Nodes.same_node g.met.N.Nodes.stays_kept c.args.nodes.now c.write.new.self c.requires.sound c.write.ensures.works.came

pub returns-in_err-to-clause-keeps : goal.returns-in_err-to-clause-keeps
returns-in_err-to-clause-keeps g c = keeps_nodes g.N.Nodes g.met.N.Nodes.same_node g.met.N.Nodes.stays_kept c.args.nodes.now c.put_entry.new.nodes c.requires.sound (g.met.N.Nodes.follows_on c.args.nodes.now c.write.new.self c.put_entry.new.nodes c.write.ensures.works.came c.put_entry.ensures.calls.works.came)

pub returns-clause-keeps : goal.returns-clause-keeps
returns-clause-keeps g c = keeps_nodes g.N.Nodes g.met.N.Nodes.same_node g.met.N.Nodes.stays_kept c.args.nodes.now c.put_entry.new.nodes c.requires.sound (g.met.N.Nodes.follows_on c.args.nodes.now c.write.new.self c.put_entry.new.nodes c.write.ensures.works.came c.put_entry.ensures.calls.works.came)

pub returns-in_err-block-clause-calls : goal.returns-in_err-block-clause-calls
returns-in_err-block-clause-calls g c =
    let works = c.write.ensures.works in
    let faults = write_refused _ c.in_err-block.ensures.faults in
    let p = err_from_is_err_and c.from_residual.result c.from_residual.ensures.1 in
    rw (p.1, p.2) (record { works = works; reads = omega (arith, c.write.ensures.reads); writes = omega (arith, c.write.ensures.writes); why = c.in_err-block.ensures.why; faults = faults })

pub returns-in_err-to-clause-calls : goal.returns-in_err-to-clause-calls
returns-in_err-to-clause-calls g c =
    let old = c.args.nodes.now in
    let mid = c.write.new.self in
    let keeps : Keeps g.N.Nodes old mid = keeps_nodes g.N.Nodes g.met.N.Nodes.same_node g.met.N.Nodes.stays_kept old mid c.requires.sound c.write.ensures.works.came in
    let later = λ (puts : Bool). path_nodes-later (g.N.Nodes.node old) (g.N.Nodes.node mid) (g.N.Nodes.kept old) (g.N.Nodes.kept mid) c.args.path.now c.args.trail.now puts 0 keeps (record { root = c.args.root; trail_of = c.requires.way; held = c.requires.held }) in
    let wrote : WorksWithin {T = ℕ} g.N.Nodes IsWriteFault 0 1 old (Ok 0) mid = record { works = c.write.ensures.works; reads = omega (arith, c.write.ensures.reads); writes = omega (arith, c.write.ensures.writes); why = tt; faults = tt } in
    let p = err_from_is_err_and c.from_residual-in_err-to.result c.from_residual-in_err-to.ensures.1 in
    rw (p.1, p.2) (works_after g.met.N.Nodes.works_on g.met.N.Nodes.causes_on old mid c.put_entry.new.nodes (λ fault is. is) wrote c.in_err-to.ensures.calls (omega (arith, later false)) (omega (arith, later true)))

pub returns-clause-calls : goal.returns-clause-calls
returns-clause-calls g c =
    let old = c.args.nodes.now in
    let mid = c.write.new.self in
    let keeps : Keeps g.N.Nodes old mid = keeps_nodes g.N.Nodes g.met.N.Nodes.same_node g.met.N.Nodes.stays_kept old mid c.requires.sound c.write.ensures.works.came in
    let later = λ (puts : Bool). path_nodes-later (g.N.Nodes.node old) (g.N.Nodes.node mid) (g.N.Nodes.kept old) (g.N.Nodes.kept mid) c.args.path.now c.args.trail.now puts 0 keeps (record { root = c.args.root; trail_of = c.requires.way; held = c.requires.held }) in
    let wrote : WorksWithin {T = ℕ} g.N.Nodes IsWriteFault 0 1 old (Ok 0) mid = record { works = c.write.ensures.works; reads = omega (arith, c.write.ensures.reads); writes = omega (arith, c.write.ensures.writes); why = tt; faults = tt } in
    works_after g.met.N.Nodes.works_on g.met.N.Nodes.causes_on old mid c.put_entry.new.nodes (λ fault is. is) wrote c.in_ok-to.ensures.calls (omega (arith, later false)) (omega (arith, later true))
