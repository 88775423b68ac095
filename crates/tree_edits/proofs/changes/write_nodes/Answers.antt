use Rattle.std.proofs.Common.{◌≤◌, ◌≡◌, ℕ, ◌+◌, ◌-◌, ◌*◌, ◌<◌, min, List, length, take, drop, refl, sym, ap, subst, ◌∙◌, arith}
use Rattle.std.proofs.lemmas.Result.{err_from_is_err_and}
use Rattle.std.proofs.Math.Nat.{div-mul-le_self, le_of_eq}
use Rattle.nodes.specs.Bodies.{head_index, body, IsBody}
use Rattle.node_format.specs.declared.place.Place.TheVariants.{File}
use Rattle.nodes.specs.Words.{IsHeld, Keeps}
use Rattle.tree_edits.specs.declared.file_body.Body.{Body}
use Rattle.tree_edits.specs.Reading.{AreBlocks}
use Rattle.tree_edits.specs.Writing as spec
use Rattle.tree_edits.proofs.NodeCalls.{writes_after, writes_refused}
use Rattle.tree_edits.proofs.Fronts.{body_length}
use Rattle.tree_edits.proofs.Counted.{few_none, few_on, few_all, few_listed, written_count}
use Rattle.tree_edits.proofs.Growth.{IsBegun, body_stays, blocks_stay, begun_front, starts_before, starts_within, turn, written_whole, written_reaches, first_within, first_own, own_first, all_ends}
use Rattle.tree_edits.proofs.EditedBytes.{edited_length, edited_front}
use Rattle.tree_edits.proofs.changes.write_nodes.Goals as goal
use Rattle.nodes.specs.WordLaws.{keeps_nodes}

pub loop-index-init : goal.loop-index-init
loop-index-init g c =
    let f = g.N.Nodes.node c.args.nodes.now in
    let change = c.args.change in
    let file : List ℕ = body change.capacity f change.body.head change.body.length in
    let wanted : List ℕ = spec.edited file change.offset c.args.bytes.now change.size in
    let start : ℕ = c.args.start.first * change.capacity in
    let rows : start ≤ min change.offset change.body.length = subst (λ (n : ℕ). n * change.capacity ≤ min change.offset change.body.length) (sym c.requires.start.first) (div-mul-le_self (min change.offset change.body.length) change.capacity) in
    let size : length file ≡ change.body.length = body_length change.capacity f change.body.head change.body.length c.requires.holds.whole in
    let p = first_within start change.offset change.body.length change.size rows c.args.change.changed in
    let same = edited_front file change.offset c.args.bytes.now change.size start p.0 (subst (λ (n : ℕ). start ≤ n) (sym size) p.1) p.2 in
    record {
      begun = subst (IsBegun change.capacity f (g.N.Nodes.kept c.args.nodes.now) change.body wanted f (g.N.Nodes.kept c.args.nodes.now) c.args.start.head) (first_own start change.size p.2)
          (begun_front change.capacity f (g.N.Nodes.kept c.args.nodes.now) change.body wanted c.args.start.head start p.1 c.requires.stored.held c.requires.start.front same);
      table = c.requires.start.table;
      reads = few_none change.capacity change.body.length (change.offset + length c.args.bytes.now) c.args.start.first (g.N.Nodes.reads c.args.nodes.now);
      writes = omega arith;
      works = record { came = g.met.N.Nodes.follows_itself c.args.nodes.now; sound = c.requires.sound; same_limit = refl; same_blocks = refl };
    }

pub write_node-requires-clause-sound : goal.write_node-requires-clause-sound
write_node-requires-clause-sound g c = c.loop-index.invariant.works.sound

pub write_node-requires-clause-within : goal.write_node-requires-clause-within
write_node-requires-clause-within g c = starts_within c.args.change.capacity c.loop-index.index c.args.change.size (omega (arith, c.args.change.least)) (omega (arith, c.args.change.changed)) (omega (arith, c.loop-index-test.true))

pub write_node-requires-clause-before : goal.write_node-requires-clause-before
write_node-requires-clause-before g c =
    let at = c.loop-index.nodes in
    let begun = c.loop-index.invariant.begun in
    let within = starts_within c.args.change.capacity c.loop-index.index c.args.change.size (omega (arith, c.args.change.least)) (omega (arith, c.args.change.changed)) (omega (arith, c.loop-index-test.true)) in
    let own = own_first (c.loop-index.index * c.args.change.capacity) c.args.change.size within in
    record {
      stored = record {
        whole = subst (IsBody c.args.change.capacity (g.N.Nodes.node at) c.loop-index.head) own begun.whole;
        held = subst (λ (n : ℕ). IsHeld g.N.Nodes at (File c.loop-index.head n)) own begun.held;
      };
      table = c.loop-index.invariant.table;
    }

pub loop-index-preserved : goal.loop-index-preserved
loop-index-preserved g c =
    let old = c.args.nodes.now in
    let at = c.loop-index.nodes in
    let i = c.loop-index.index in
    let change = c.args.change in
    let f = g.N.Nodes.node old in
    let end : ℕ = change.offset + length c.args.bytes.now in
    let least : 0 < change.capacity = omega (arith, c.args.change.least) in
    let within : i * change.capacity < change.size = starts_within change.capacity i change.size least (omega (arith, c.args.change.changed)) (omega (arith, c.loop-index-test.true)) in
    let keeps : Keeps g.N.Nodes old at = keeps_nodes g.N.Nodes g.met.N.Nodes.same_node g.met.N.Nodes.stays_kept old at c.requires.sound c.loop-index.invariant.works.came in
    let kept_on : Keeps g.N.Nodes at c.write_node.new.nodes = keeps_nodes g.N.Nodes g.met.N.Nodes.same_node g.met.N.Nodes.stays_kept at c.write_node.new.nodes c.loop-index.invariant.works.sound c.write_node.ensures.calls.works.came in
    let stays = body_stays change.capacity f (g.N.Nodes.node at) (g.N.Nodes.kept old) (g.N.Nodes.kept at) change.body.head change.body.length keeps c.requires.holds.whole c.requires.stored.held in
    let wanted : List ℕ = spec.edited (body change.capacity f change.body.head change.body.length) change.offset c.args.bytes.now change.size in
    let more = subst (λ (b : List ℕ). spec.IsGrown change.capacity (g.N.Nodes.node at) (g.N.Nodes.node c.write_node.new.nodes) (g.N.Nodes.kept at) (g.N.Nodes.kept c.write_node.new.nodes) c.loop-index.head i c.in_ok-head.head
    (take (min change.capacity (change.size - i * change.capacity)) (drop (i * change.capacity) (spec.edited b change.offset c.args.bytes.now change.size)))) stays.shown c.in_ok-head.ensures.grown in
    record {
      begun = turn change.capacity f (g.N.Nodes.node at) (g.N.Nodes.node c.write_node.new.nodes) (g.N.Nodes.kept old) (g.N.Nodes.kept at) (g.N.Nodes.kept c.write_node.new.nodes) change.body wanted c.loop-index.head i c.in_ok-head.head change.size
          least within (edited_length _ change.offset c.args.bytes.now change.size) kept_on c.loop-index.invariant.begun more (λ b fresh. g.met.N.Nodes.was_fresh old at b c.loop-index.invariant.works.came fresh);
      table = c.in_ok-head.ensures.table;
      reads = few_on change.capacity change.body.length change.offset end c.args.start.first i (min change.capacity (change.size - i * change.capacity)) (g.N.Nodes.reads old) (g.N.Nodes.reads at) (g.N.Nodes.reads c.write_node.new.nodes) (length c.args.start.old.items)
          least c.requires.start.first c.loop-index.auto.index (omega arith) c.requires.start.count
          c.write_node.ensures.reads.unread (λ listed. c.write_node.ensures.reads.one (subst (λ (l : List ℕ). head_index c.args.change.capacity c.args.change.body.length - c.loop-index.index < length l) (sym c.as_slice.ensures.value) listed)) c.write_node.ensures.calls.reads c.loop-index.invariant.reads;
      writes = omega (arith, c.in_ok-head.ensures.calls.written, c.loop-index.invariant.writes, c.loop-index.auto.index);
      works = g.met.N.Nodes.works_on old at c.write_node.new.nodes c.loop-index.invariant.works c.write_node.ensures.calls.works;
    }

pub returns-clause-written : goal.returns-clause-written
returns-clause-written g c =
    let at = c.loop-index.nodes in
    let change = c.args.change in
    let f = g.N.Nodes.node c.args.nodes.now in
    let to : Body = record { head = c.loop-index.head; length = change.size } in
    let wanted : List ℕ = spec.edited (body change.capacity f change.body.head change.body.length) change.offset c.args.bytes.now change.size in
    let ends = all_ends change.capacity c.loop-index.index change.size (omega (arith, c.args.change.least)) (omega (arith, c.loop-index-test.false, c.loop-index.auto.index-end, starts_before change.capacity (min change.offset change.body.length) change.size (omega (arith, c.args.change.least)) c.args.change.changed, c.requires.start.first)) in
    let begun = subst (IsBegun change.capacity f (g.N.Nodes.kept c.args.nodes.now) change.body wanted (g.N.Nodes.node at) (g.N.Nodes.kept at) c.loop-index.head) ends c.loop-index.invariant.begun in
    written_whole change.capacity f (g.N.Nodes.node at) (g.N.Nodes.kept c.args.nodes.now) (g.N.Nodes.kept at) change.body to wanted begun (sym (edited_length _ change.offset c.args.bytes.now change.size))

pub returns-clause-reaches : goal.returns-clause-reaches
returns-clause-reaches g c =
    let at = c.loop-index.nodes in
    let change = c.args.change in
    let f = g.N.Nodes.node c.args.nodes.now in
    let to : Body = record { head = c.loop-index.head; length = change.size } in
    let wanted : List ℕ = spec.edited (body change.capacity f change.body.head change.body.length) change.offset c.args.bytes.now change.size in
    let ends = all_ends change.capacity c.loop-index.index change.size (omega (arith, c.args.change.least)) (omega (arith, c.loop-index-test.false, c.loop-index.auto.index-end, starts_before change.capacity (min change.offset change.body.length) change.size (omega (arith, c.args.change.least)) c.args.change.changed, c.requires.start.first)) in
    let begun = subst (IsBegun change.capacity f (g.N.Nodes.kept c.args.nodes.now) change.body wanted (g.N.Nodes.node at) (g.N.Nodes.kept at) c.loop-index.head) ends c.loop-index.invariant.begun in
    written_reaches change.capacity f (g.N.Nodes.node at) (g.N.Nodes.kept c.args.nodes.now) (g.N.Nodes.kept at) change.body to wanted begun (sym (edited_length _ change.offset c.args.bytes.now change.size))

pub returns-in_err-head-clause-calls : goal.returns-in_err-head-clause-calls
returns-in_err-head-clause-calls g c =
    let change = c.args.change in
    let end : ℕ = change.offset + length c.args.bytes.now in
    let now = c.loop-index.invariant in
    let done = c.write_node.ensures in
    let few = few_on change.capacity change.body.length change.offset end c.args.start.first c.loop-index.index (min change.capacity (change.size - c.loop-index.index * change.capacity)) (g.N.Nodes.reads c.args.nodes.now) (g.N.Nodes.reads c.loop-index.nodes) (g.N.Nodes.reads c.write_node.new.nodes) (length c.args.start.old.items)
    (omega (arith, c.args.change.least)) c.requires.start.first c.loop-index.auto.index (omega arith) c.requires.start.count
    done.reads.unread (λ within. done.reads.one (subst (λ (l : List ℕ). head_index c.args.change.capacity c.args.change.body.length - c.loop-index.index < length l) (sym c.as_slice.ensures.value) within)) done.calls.reads now.reads in
    let p = err_from_is_err_and c.from_residual.result c.from_residual.ensures.1 in
    rw (p.1, p.2) (writes_after g.met.N.Nodes.works_on g.met.N.Nodes.causes_on c.args.nodes.now c.loop-index.nodes c.write_node.new.nodes now.works (writes_refused c.in_err-head.ensures.calls)
    (few_all change.capacity change.body.length end c.args.start.first (c.loop-index.index + 1) (g.N.Nodes.reads c.args.nodes.now) (g.N.Nodes.reads c.write_node.new.nodes) few)
    (omega (arith, done.calls.writes, now.writes, c.loop-index.auto.index, c.loop-index-test.true, c.requires.start.first)) tt)

pub returns-clause-calls : goal.returns-clause-calls
returns-clause-calls g c =
    let change = c.args.change in
    let now = c.loop-index.invariant in
    let written = written_count change.capacity (min change.offset change.body.length) change.size c.args.start.first c.loop-index.index (g.N.Nodes.writes c.args.nodes.now) (g.N.Nodes.writes c.loop-index.nodes) (omega (arith, change.least)) c.requires.start.first change.changed
    (omega (arith, c.loop-index-test.false)) c.loop-index.auto.index-end now.writes in
    record {
      works = now.works;
      reads = few_all change.capacity change.body.length (change.offset + length c.args.bytes.now) c.args.start.first c.loop-index.index (g.N.Nodes.reads c.args.nodes.now) (g.N.Nodes.reads c.loop-index.nodes) now.reads;
      writes = le_of_eq written;
      written = written;
      why = tt;
      faults = tt;
    }

pub write_node-requires-clause-changes : goal.write_node-requires-clause-changes
write_node-requires-clause-changes g c =
    let old = c.args.nodes.now in
    let at = c.loop-index.nodes in
    let keeps : Keeps g.N.Nodes old at = keeps_nodes g.N.Nodes g.met.N.Nodes.same_node g.met.N.Nodes.stays_kept old at c.requires.sound c.loop-index.invariant.works.came in
    let few = few_listed c.args.change.capacity c.args.change.body.length (c.args.change.offset + length c.args.bytes.now) (length c.args.start.old.items) c.args.change.capacity refl c.requires.start.count in
    record {
      old = record {
        holds = record {
          capacity_is = c.requires.holds.capacity_is ∙ ap (λ (n : ℕ). n - 80) (sym c.loop-index.invariant.works.same_limit);
          least = c.requires.holds.least;
          whole = (body_stays c.args.change.capacity (g.N.Nodes.node old) (g.N.Nodes.node at) (g.N.Nodes.kept old) (g.N.Nodes.kept at) c.args.change.body.head c.args.change.body.length keeps c.requires.holds.whole c.requires.stored.held).whole;
        };
        listed = subst (AreBlocks (g.N.Nodes.node at) c.args.change.body.head) (sym c.as_slice.ensures.value)
            (blocks_stay c.args.change.capacity (g.N.Nodes.node old) (g.N.Nodes.node at) (g.N.Nodes.kept old) (g.N.Nodes.kept at) c.args.change.body.head c.args.change.body.length c.args.start.old.items keeps c.requires.holds.whole c.requires.stored.held few c.requires.start.listed);
      };
      fits = c.requires.written;
    }
