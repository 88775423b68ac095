use Rattle.std.proofs.Common.{◌≡◌, false, ◌-◌, ◌∙◌, List, length, ap, sym, subst, arith}
use Rattle.std.proofs.lemmas.Result.{err_from_is_err_and}
use Rattle.std.specs.Option.{is_some}
use Rattle.plain_trees.specs.Trees.{nodes_for}
use Rattle.node_format.specs.Headers.{body_header}
use Rattle.node_format.specs.Items.{Item}
use Rattle.node_format.specs.declared.place.Place.TheVariants.{Dir}
use Rattle.nodes.specs.Words.{Keeps}
use Rattle.nodes.specs.Trees.{items_in}
use Rattle.directory.specs.Counts.{nodes_in}
use Rattle.directory.specs.Puts.{HasRoomFor, IsDirectoryPut}
use Rattle.directory.specs.declared.directory_puts.NamedPlace.{NamedPlace}
use Rattle.directory.proofs.Held.{held_later, same_held, same_held_items}
use Rattle.directory.proofs.LookupLaws.{found_leads, rooted_leads}
use Rattle.directory.proofs.TrailEdits.{look_later, leads_later, trail_later}
use Rattle.nodes.proofs.Reaching.{held_leads}
use Rattle.tree_edits.specs.Edits.{chosen}
use Rattle.tree_edits.proofs.NewBytes.{body_fault}
use Rattle.tree_edits.proofs.AppliedEdits.{is_applied}
use Rattle.tree_edits.proofs.ManyFiles.{keeps_on, list_nodes, news_room, news_counted, files_result}
use Rattle.tree_edits.proofs.Needs.{path_nodes-later}
use Rattle.tree_edits.proofs.directory_files.write_files.Goals as goal
use Rattle.nodes.specs.WordLaws.{keeps_nodes, works_both}

pub put_in_directory-requires-clause-sound : goal.put_in_directory-requires-clause-sound
put_in_directory-requires-clause-sound g c = c.write_bodies.ensures.calls.works.sound

pub put_in_directory-requires-clause-there : goal.put_in_directory-requires-clause-there
put_in_directory-requires-clause-there g c =
    let old = c.args.nodes.now in
    let mid = c.write_bodies.new.nodes in
    let w = c.requires.writable in
    let whole = rooted_leads (g.N.Nodes.limit old - body_header) (g.N.Nodes.node old) c.args.root c.requires.rooted in
    let led = found_leads (g.N.Nodes.node old) c.args.root c.args.directory.now c.args.block whole w.led in
    let held = held_leads (g.N.Nodes.node old) (g.N.Nodes.kept old) c.args.directory.now _ _ led c.requires.held in
    ap is_some ((same_held (g.N.Nodes.node old) (g.N.Nodes.node mid) (g.N.Nodes.kept old) (g.N.Nodes.kept mid) c.write_bodies.ensures.keeps c.args.block held).0 ∙ (whole c.args.directory.now c.args.block led).1)

pub put_in_directory-requires-clause-some : goal.put_in_directory-requires-clause-some
put_in_directory-requires-clause-some g c =
    let old = c.args.nodes.now in
    let mid = c.write_bodies.new.nodes in
    let some = c.requires.writable.some in
    let counted = news_counted (g.N.Nodes.limit old - body_header) (g.N.Nodes.kept old) (g.N.Nodes.node mid) (g.N.Nodes.kept mid) (chosen c.args.files.now c.args.changes.now) c.in_ok-puts.puts.items c.in_ok-puts.ensures.written in
    omega (arith, some, counted, c.as_slice.ensures.len)

pub put_in_directory-requires-clause-room : goal.put_in_directory-requires-clause-room
put_in_directory-requires-clause-room g c =
    let old = c.args.nodes.now in
    let mid = c.write_bodies.new.nodes in
    let w = c.requires.writable in
    let whole = rooted_leads (g.N.Nodes.limit old - body_header) (g.N.Nodes.node old) c.args.root c.requires.rooted in
    let led = found_leads (g.N.Nodes.node old) c.args.root c.args.directory.now c.args.block whole w.led in
    let held = held_leads (g.N.Nodes.node old) (g.N.Nodes.kept old) c.args.directory.now _ _ led c.requires.held in
    let same = same_held_items (g.N.Nodes.node old) (g.N.Nodes.node mid) (g.N.Nodes.kept old) (g.N.Nodes.kept mid) c.write_bodies.ensures.keeps c.args.block held in
    subst (λ (items : List Item). HasRoomFor items c.as_slice.result.now) (sym same)
    (subst (λ (puts : List NamedPlace). HasRoomFor (items_in (g.N.Nodes.node old) c.args.block) puts) (sym c.as_slice.ensures.value)
    (news_room (g.N.Nodes.limit old - body_header) (g.N.Nodes.kept old) (g.N.Nodes.node mid) (g.N.Nodes.kept mid) (items_in (g.N.Nodes.node old) c.args.block) (chosen c.args.files.now c.args.changes.now) c.in_ok-puts.puts.items c.in_ok-puts.ensures.written w.room))

pub link_directory-requires-clause-sound : goal.link_directory-requires-clause-sound
link_directory-requires-clause-sound g c = c.put_in_directory.ensures.calls.works.sound

pub returns-in_err-to-clause-reads : goal.returns-in_err-to-clause-reads
returns-in_err-to-clause-reads g c =
    let old = c.args.nodes.now in
    let mid = c.write_bodies.new.nodes in
    let new = c.put_in_directory.new.nodes in
    let w = c.requires.writable in
    let whole = rooted_leads (g.N.Nodes.limit old - body_header) (g.N.Nodes.node old) c.args.root c.requires.rooted in
    let led = found_leads (g.N.Nodes.node old) c.args.root c.args.directory.now c.args.block whole w.led in
    let held = held_leads (g.N.Nodes.node old) (g.N.Nodes.kept old) c.args.directory.now _ _ led c.requires.held in
    let same = same_held_items (g.N.Nodes.node old) (g.N.Nodes.node mid) (g.N.Nodes.kept old) (g.N.Nodes.kept mid) c.write_bodies.ensures.keeps c.args.block held in
    let list : nodes_in (g.N.Nodes.node mid) c.args.block ≡ nodes_in (g.N.Nodes.node old) c.args.block = ap (λ (items : List Item). nodes_for (length items)) same in
    omega (arith, list, c.write_bodies.ensures.calls.reads, c.put_in_directory.ensures.calls.reads)

pub link_directory-requires-clause-held : goal.link_directory-requires-clause-held
link_directory-requires-clause-held g c =
    let old = c.args.nodes.now in
    let mid = c.write_bodies.new.nodes in
    let new = c.put_in_directory.new.nodes in
    let second : Keeps g.N.Nodes mid new = keeps_nodes g.N.Nodes g.met.N.Nodes.same_node g.met.N.Nodes.stays_kept mid new c.write_bodies.ensures.calls.works.sound c.put_in_directory.ensures.calls.works.came in
    let both = keeps_on (g.N.Nodes.node old) (g.N.Nodes.node mid) (g.N.Nodes.node new) (g.N.Nodes.kept old) (g.N.Nodes.kept mid) (g.N.Nodes.kept new) c.write_bodies.ensures.keeps second in
    held_later (g.N.Nodes.node old) (g.N.Nodes.node new) (g.N.Nodes.kept old) (g.N.Nodes.kept new) both c.args.root c.requires.held

pub link_directory-requires-clause-way : goal.link_directory-requires-clause-way
link_directory-requires-clause-way g c =
    let old = c.args.nodes.now in
    let mid = c.write_bodies.new.nodes in
    let new = c.put_in_directory.new.nodes in
    let second : Keeps g.N.Nodes mid new = keeps_nodes g.N.Nodes g.met.N.Nodes.same_node g.met.N.Nodes.stays_kept mid new c.write_bodies.ensures.calls.works.sound c.put_in_directory.ensures.calls.works.came in
    let both = keeps_on (g.N.Nodes.node old) (g.N.Nodes.node mid) (g.N.Nodes.node new) (g.N.Nodes.kept old) (g.N.Nodes.kept mid) (g.N.Nodes.kept new) c.write_bodies.ensures.keeps second in
    trail_later (g.N.Nodes.node old) (g.N.Nodes.node new) (g.N.Nodes.kept old) (g.N.Nodes.kept new) both c.args.directory.now c.args.root c.args.trail.now c.requires.held c.requires.writable.way

pub link_directory-requires-clause-led : goal.link_directory-requires-clause-led
link_directory-requires-clause-led g c =
    let old = c.args.nodes.now in
    let mid = c.write_bodies.new.nodes in
    let new = c.put_in_directory.new.nodes in
    let w = c.requires.writable in
    let whole = rooted_leads (g.N.Nodes.limit old - body_header) (g.N.Nodes.node old) c.args.root c.requires.rooted in
    let led = found_leads (g.N.Nodes.node old) c.args.root c.args.directory.now c.args.block whole w.led in
    let held = held_leads (g.N.Nodes.node old) (g.N.Nodes.kept old) c.args.directory.now _ _ led c.requires.held in
    let second : Keeps g.N.Nodes mid new = keeps_nodes g.N.Nodes g.met.N.Nodes.same_node g.met.N.Nodes.stays_kept mid new c.write_bodies.ensures.calls.works.sound c.put_in_directory.ensures.calls.works.came in
    let both = keeps_on (g.N.Nodes.node old) (g.N.Nodes.node mid) (g.N.Nodes.node new) (g.N.Nodes.kept old) (g.N.Nodes.kept mid) (g.N.Nodes.kept new) c.write_bodies.ensures.keeps second in (
      c.args.block,
      look_later (g.N.Nodes.node old) (g.N.Nodes.node new) (g.N.Nodes.kept old) (g.N.Nodes.kept new) both c.args.directory.now c.args.root c.requires.held ∙ w.led,
      leads_later (g.N.Nodes.node old) (g.N.Nodes.node new) (g.N.Nodes.kept old) (g.N.Nodes.kept new) both c.args.directory.now (Dir c.args.root) c.requires.held ∙ led,
    )

pub returns-clause-applied : goal.returns-clause-applied
returns-clause-applied g c =
    let old = c.args.nodes.now in
    let mid = c.write_bodies.new.nodes in
    let new = c.put_in_directory.new.nodes in
    let second : Keeps g.N.Nodes mid new = keeps_nodes g.N.Nodes g.met.N.Nodes.same_node g.met.N.Nodes.stays_kept mid new c.write_bodies.ensures.calls.works.sound c.put_in_directory.ensures.calls.works.came in
    let both = keeps_on (g.N.Nodes.node old) (g.N.Nodes.node mid) (g.N.Nodes.node new) (g.N.Nodes.kept old) (g.N.Nodes.kept mid) (g.N.Nodes.kept new) c.write_bodies.ensures.keeps second in
    let last = c.link_directory.new.nodes in
    let put : IsDirectoryPut (g.N.Nodes.node mid) (g.N.Nodes.node new) c.args.block c.in_ok-to.to c.in_ok-puts.puts.items = subst (IsDirectoryPut (g.N.Nodes.node mid) (g.N.Nodes.node new) c.args.block c.in_ok-to.to) c.as_slice.ensures.value c.in_ok-to.ensures.put.0 in
    let w = c.requires.writable in
    let whole = rooted_leads (g.N.Nodes.limit old - body_header) (g.N.Nodes.node old) c.args.root c.requires.rooted in
    let led = found_leads (g.N.Nodes.node old) c.args.root c.args.directory.now c.args.block whole w.led in
    let held = held_leads (g.N.Nodes.node old) (g.N.Nodes.kept old) c.args.directory.now _ _ led c.requires.held in
    let same = same_held_items (g.N.Nodes.node old) (g.N.Nodes.node mid) (g.N.Nodes.kept old) (g.N.Nodes.kept mid) c.write_bodies.ensures.keeps c.args.block held in
    let list = list_nodes (g.N.Nodes.limit old - body_header) (g.N.Nodes.kept old) (g.N.Nodes.node mid) (g.N.Nodes.kept mid) (items_in (g.N.Nodes.node old) c.args.block) (items_in (g.N.Nodes.node mid) c.args.block) (chosen c.args.files.now c.args.changes.now) c.in_ok-puts.puts.items c.as_slice.result.now
    c.in_ok-puts.ensures.written same c.as_slice.ensures.value in
    let way = path_nodes-later (g.N.Nodes.node old) (g.N.Nodes.node new) (g.N.Nodes.kept old) (g.N.Nodes.kept new) c.args.directory.now c.args.trail.now false (record { root = c.args.root; trail_of = w.way; held = c.requires.held }) both in
    let calls = works_both g.met.N.Nodes.works_on g.met.N.Nodes.causes_on old new last (works_both g.met.N.Nodes.works_on g.met.N.Nodes.causes_on old mid new c.in_ok-puts.ensures.calls c.in_ok-to.ensures.calls) c.link_directory.ensures.calls in
    is_applied
    (files_result (g.N.Nodes.limit old - body_header) (g.N.Nodes.node old) (g.N.Nodes.node mid) (g.N.Nodes.node new) (g.N.Nodes.node last) (g.N.Nodes.kept old) (g.N.Nodes.kept mid) (g.N.Nodes.kept new) (g.N.Nodes.kept last) c.args.root c.args.directory.now c.args.trail.now c.args.block c.in_ok-to.to
    c.args.files.now c.args.changes.now c.in_ok-puts.puts.items c.link_directory.result c.write_bodies.ensures.keeps second c.link_directory.ensures.keeps c.requires.held c.requires.rooted c.requires.writable
    c.in_ok-puts.ensures.written put c.in_ok-to.ensures.put.1 c.link_directory.ensures.linked)
    (keeps_on (g.N.Nodes.node old) (g.N.Nodes.node new) (g.N.Nodes.node last) (g.N.Nodes.kept old) (g.N.Nodes.kept new) (g.N.Nodes.kept last) both c.link_directory.ensures.keeps)
    calls (omega (arith, list, way))

pub returns-clause-reads : goal.returns-clause-reads
returns-clause-reads g c =
    let old = c.args.nodes.now in
    let mid = c.write_bodies.new.nodes in
    let new = c.put_in_directory.new.nodes in
    let w = c.requires.writable in
    let whole = rooted_leads (g.N.Nodes.limit old - body_header) (g.N.Nodes.node old) c.args.root c.requires.rooted in
    let led = found_leads (g.N.Nodes.node old) c.args.root c.args.directory.now c.args.block whole w.led in
    let held = held_leads (g.N.Nodes.node old) (g.N.Nodes.kept old) c.args.directory.now _ _ led c.requires.held in
    let second : Keeps g.N.Nodes mid new = keeps_nodes g.N.Nodes g.met.N.Nodes.same_node g.met.N.Nodes.stays_kept mid new c.write_bodies.ensures.calls.works.sound c.put_in_directory.ensures.calls.works.came in
    let both = keeps_on (g.N.Nodes.node old) (g.N.Nodes.node mid) (g.N.Nodes.node new) (g.N.Nodes.kept old) (g.N.Nodes.kept mid) (g.N.Nodes.kept new) c.write_bodies.ensures.keeps second in
    let same = same_held_items (g.N.Nodes.node old) (g.N.Nodes.node mid) (g.N.Nodes.kept old) (g.N.Nodes.kept mid) c.write_bodies.ensures.keeps c.args.block held in
    let list : nodes_in (g.N.Nodes.node mid) c.args.block ≡ nodes_in (g.N.Nodes.node old) c.args.block = ap (λ (items : List Item). nodes_for (length items)) same in
    let way = path_nodes-later (g.N.Nodes.node old) (g.N.Nodes.node new) (g.N.Nodes.kept old) (g.N.Nodes.kept new) c.args.directory.now c.args.trail.now false (record { root = c.args.root; trail_of = w.way; held = c.requires.held }) both in
    omega (arith, list, way, c.write_bodies.ensures.calls.reads, c.put_in_directory.ensures.calls.reads, c.link_directory.ensures.calls.reads)

pub returns-in_err-puts-clause-applied : goal.returns-in_err-puts-clause-applied
returns-in_err-puts-clause-applied g c =
    let calls = c.in_err-puts.ensures.calls in
    let p = err_from_is_err_and c.from_residual.result c.from_residual.ensures.1 in
    rw (p.1, p.2) (record {
      new_root = tt;
      keeps = c.write_bodies.ensures.keeps;
      works = calls.works;
      writes = omega (arith, calls.writes);
      why = calls.why;
      faults = body_fault c.in_err-puts.field-0.0 calls.faults;
    })

pub returns-in_err-to-clause-applied : goal.returns-in_err-to-clause-applied
returns-in_err-to-clause-applied g c =
    let old = c.args.nodes.now in
    let mid = c.write_bodies.new.nodes in
    let new = c.put_in_directory.new.nodes in
    let w = c.requires.writable in
    let whole = rooted_leads (g.N.Nodes.limit old - body_header) (g.N.Nodes.node old) c.args.root c.requires.rooted in
    let led = found_leads (g.N.Nodes.node old) c.args.root c.args.directory.now c.args.block whole w.led in
    let held = held_leads (g.N.Nodes.node old) (g.N.Nodes.kept old) c.args.directory.now _ _ led c.requires.held in
    let same = same_held_items (g.N.Nodes.node old) (g.N.Nodes.node mid) (g.N.Nodes.kept old) (g.N.Nodes.kept mid) c.write_bodies.ensures.keeps c.args.block held in
    let list = list_nodes (g.N.Nodes.limit old - body_header) (g.N.Nodes.kept old) (g.N.Nodes.node mid) (g.N.Nodes.kept mid) (items_in (g.N.Nodes.node old) c.args.block) (items_in (g.N.Nodes.node mid) c.args.block) (chosen c.args.files.now c.args.changes.now) c.in_ok-puts.puts.items c.as_slice.result.now
    c.in_ok-puts.ensures.written same c.as_slice.ensures.value in
    let second : Keeps g.N.Nodes mid new = keeps_nodes g.N.Nodes g.met.N.Nodes.same_node g.met.N.Nodes.stays_kept mid new c.write_bodies.ensures.calls.works.sound c.put_in_directory.ensures.calls.works.came in
    let both = keeps_on (g.N.Nodes.node old) (g.N.Nodes.node mid) (g.N.Nodes.node new) (g.N.Nodes.kept old) (g.N.Nodes.kept mid) (g.N.Nodes.kept new) c.write_bodies.ensures.keeps second in
    let p = err_from_is_err_and c.from_residual-in_err-to.result c.from_residual-in_err-to.ensures.1 in
    rw (p.1, p.2) (is_applied tt both (works_both g.met.N.Nodes.works_on g.met.N.Nodes.causes_on old mid new c.in_ok-puts.ensures.calls c.in_err-to.ensures.calls) (omega (arith, list)))
