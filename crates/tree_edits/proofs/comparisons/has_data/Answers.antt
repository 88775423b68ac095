use Rattle.std.proofs.Common.{◌≡◌, ℕ, ◌+◌, ◌-◌, ◌*◌, ◌≤◌, ◌<◌, min, List, length, take, drop, refl, sym, ap, subst, ◌∙◌, arith}
use Rattle.std.specs.Int.{div_ceil}
use Rattle.std.proofs.lemmas.List.{length-take-le}
use Rattle.std.proofs.lemmas.Result.{err_from_is_err_and}
use Rattle.node_format.specs.Headers.{body_header}
use Rattle.nodes.specs.PageCounts.{pages_for}
use Rattle.nodes.specs.WordLaws.{looks_refused}
use Rattle.nodes.specs.Bodies.{Blocks, data_of}
use Rattle.tree_edits.specs.Reading.{AsksPageEach}
use Rattle.tree_edits.proofs.NodeCalls.{within_after}
use Rattle.tree_edits.proofs.Compared.{so_far, others, all_same, begins_before, ends_behind, page_more}
use Rattle.tree_edits.proofs.PartReads.{holds_data}
use Rattle.tree_edits.proofs.comparisons.has_data.Goals as goal
use Rattle.tree_edits.proofs.comparisons.has_data.Goals.{After-peek_data}
use Rattle.tree_edits.proofs.comparisons.has_data.Given.{Over}

module _ (g : Over) (c : After-peek_data g) where
  least : 256 ≤ length c.args.room.now
  least = omega (arith, c.requires.room, g.met.N.Nodes.least_page c.args.nodes.now c.requires.sound)

  below : c.loop-place.place < div_ceil (80 + length c.args.bytes.now) (length c.args.room.now)
  below = omega (arith, c.loop-place-test.true, c.loop-place.auto.place-end, c.div_ceil-place-end.ensures)

  order : c.saturating_sub-from.result ≤ c.min-to.result
  order = (
      let some = least in
      let begins = begins_before (length c.args.room.now) c.loop-place.place (80 + length c.args.bytes.now) (omega arith) below in
      omega (arith, begins, c.min-to.ensures, c.saturating_sub-from.ensures)
      )

  long : length (take (c.min-to.result - c.saturating_sub-from.result) c.loop-place.room) ≡ c.min-to.result - c.saturating_sub-from.result
  long = length-take-le (c.min-to.result - c.saturating_sub-from.result) c.loop-place.room (omega (arith, c.loop-place.auto.room, c.min-to.ensures, c.saturating_sub-from.ensures))

  -- a page was asked for the read
  asks : AsksPageEach g.N.Nodes.asked g.N.Nodes.reads c.args.nodes.now c.peek_data.new.nodes
  asks =
      let old = c.args.nodes.now in
      let now = c.loop-place.invariant in
      let count : ℕ = c.min-to.result - c.saturating_sub-from.result in
      page_more (g.N.Nodes.page c.loop-place.nodes) (length c.args.room.now) c.loop-place.place (body_header + c.saturating_sub-from.result) (length (take count c.loop-place.room)) count
      (g.N.Nodes.asked old) (g.N.Nodes.reads old) (g.N.Nodes.asked c.loop-place.nodes) (g.N.Nodes.reads c.loop-place.nodes) (g.N.Nodes.asked c.peek_data.new.nodes) (g.N.Nodes.reads c.peek_data.new.nodes)
      (g.met.N.Nodes.same_page old c.loop-place.nodes now.looks.came ∙ sym c.requires.room) long (omega (arith, least)) (omega (arith, least, c.saturating_sub-from.ensures)) (omega (arith, least, c.min-to.ensures, c.saturating_sub-from.ensures))
      now.asks c.peek_data.ensures.asks c.peek_data.ensures.reads

  few : g.N.Nodes.reads c.peek_data.new.nodes ≤ g.N.Nodes.reads c.args.nodes.now + pages_for (g.N.Nodes.page c.args.nodes.now) (body_header + length c.args.bytes.now)
  few =
      let more : c.loop-place.place < div_ceil (80 + length c.args.bytes.now) (g.N.Nodes.page c.args.nodes.now) = subst (λ (p : ℕ). c.loop-place.place < div_ceil (80 + length c.args.bytes.now) p) c.requires.room below in
      omega (arith, c.loop-place.invariant.reads, c.peek_data.ensures.reads, more)

  -- the bytes of the page are those of the node as it was
  part : c.peek_data.new.out ≡ take (length (take (c.min-to.result - c.saturating_sub-from.result) c.loop-place.room)) (drop c.saturating_sub-from.result (data_of (g.N.Nodes.node c.loop-place.nodes c.args.block)))
      → c.peek_data.new.out ≡ take (c.min-to.result - c.saturating_sub-from.result) (drop c.saturating_sub-from.result (data_of (g.N.Nodes.node c.args.nodes.now c.args.block)))
  part copied =
      copied ∙ ap (λ (n : ℕ). take n (drop c.saturating_sub-from.result (data_of (g.N.Nodes.node c.loop-place.nodes c.args.block)))) long
      ∙ ap (λ (h : Blocks). take (c.min-to.result - c.saturating_sub-from.result) (drop c.saturating_sub-from.result (data_of (h c.args.block)))) c.loop-place.invariant.looks.same_nodes

pub overflow_cast-from : goal.overflow_cast-from
overflow_cast-from g c =
    let old = c.args.nodes.now in
    let has = holds_data (g.N.Nodes.limit old) c.requires.node.0 0 (length c.args.bytes.now) (g.N.Nodes.node old c.args.block)
    (λ bytes is. g.met.N.Nodes.whole old c.args.block bytes c.requires.sound is) c.requires.node.1 (omega (arith, c.requires.within)) in
    let size : ℕ = length c.args.room.now in
    let least : 256 ≤ size = omega (arith, c.requires.room, g.met.N.Nodes.least_page old c.requires.sound) in
    let below : c.loop-place.place < div_ceil (80 + length c.args.bytes.now) size = omega (arith, c.loop-place-test.true, c.loop-place.auto.place-end, c.div_ceil-place-end.ensures) in
    let begins = begins_before size c.loop-place.place (80 + length c.args.bytes.now) (omega arith) below in
    omega (arith, begins, c.saturating_sub-from.ensures, has.fits, has.most, c.block_bytes.ensures.value, c.block_bytes.ensures.most)

pub returns-in_err-peek_data-clause-asks : goal.returns-in_err-peek_data-clause-asks
returns-in_err-peek_data-clause-asks g c = asks g (goal.at.returns-in_err-peek_data-clause-asks g c).After-peek_data

pub returns-then-not-are_same-clause-asks : goal.returns-then-not-are_same-clause-asks
returns-then-not-are_same-clause-asks g c = asks g (goal.at.returns-then-not-are_same-clause-asks g c).After-peek_data

pub returns-then-not-are_same-clause-same : goal.returns-then-not-are_same-clause-same
returns-then-not-are_same-clause-same g c =
    let t = (goal.at.returns-then-not-are_same-clause-same g c).After-peek_data in
    let held : List ℕ = data_of (g.N.Nodes.node c.args.nodes.now c.args.block) in
    sym (others (length c.args.bytes.now) c.saturating_sub-from.result c.min-to.result held c.args.bytes.now c.peek_data.new.out refl (order g t) (omega (arith, c.min-to.ensures)) (part g t c.in_ok-peek_data.ensures.copied) (sym c.if-not-are_same.ensures))

pub loop-place-preserved : goal.loop-place-preserved
loop-place-preserved g c =
    let t = (goal.at.loop-place-preserved g c).After-peek_data in
    let now = c.loop-place.invariant in
    let held : List ℕ = data_of (g.N.Nodes.node c.args.nodes.now c.args.block) in
    let size : ℕ = length c.args.room.now in
    let from : ℕ = c.saturating_sub-from.result in
    let to : ℕ = c.min-to.result in
    let some = least g t in
    let begins = begins_before size c.loop-place.place (80 + length c.args.bytes.now) (omega arith) (below g t) in
    let here : min (c.loop-place.place * size - body_header) (length c.args.bytes.now) ≡ from = omega (arith, begins, c.saturating_sub-from.ensures) in
    let rows : (c.loop-place.place + 1) * size ≡ c.loop-place.place * size + size = grind arith in
    let next : to ≡ min ((c.loop-place.place + 1) * size - body_header) (length c.args.bytes.now) = omega (arith, rows, c.min-to.ensures) in
    record {
      same = subst (λ (n : ℕ). take n held ≡ take n c.args.bytes.now) next
          (so_far from to held c.args.bytes.now c.peek_data.new.out (order g t) (subst (λ (n : ℕ). take n held ≡ take n c.args.bytes.now) here now.same) (part g t c.in_ok-peek_data.ensures.copied) (sym c.if-not-are_same.ensures));
      reads = omega (arith, now.reads, c.peek_data.ensures.reads);
      asks = asks g t;
      looks = g.met.N.Nodes.looks_on c.args.nodes.now c.loop-place.nodes c.peek_data.new.nodes now.looks c.peek_data.ensures.calls.looks;
    }

pub returns-clause-same : goal.returns-clause-same
returns-clause-same g c =
    let old = c.args.nodes.now in
    let held : List ℕ = data_of (g.N.Nodes.node old c.args.block) in
    let size : ℕ = length c.args.room.now in
    let least : 256 ≤ size = omega (arith, c.requires.room, g.met.N.Nodes.least_page old c.requires.sound) in
    let behind = ends_behind size c.loop-place.place (80 + length c.args.bytes.now) (omega arith) (omega (arith, c.loop-place-test.false, c.loop-place.auto.place-end, c.div_ceil-place-end.ensures)) in
    let all : min (c.loop-place.place * size - body_header) (length c.args.bytes.now) ≡ length c.args.bytes.now = omega (arith, behind) in
    sym (all_same (length c.args.bytes.now) held c.args.bytes.now refl (subst (λ (n : ℕ). take n held ≡ take n c.args.bytes.now) all c.loop-place.invariant.same))

pub returns-in_err-peek_data-clause-calls : goal.returns-in_err-peek_data-clause-calls
returns-in_err-peek_data-clause-calls g c =
    let t = (goal.at.returns-in_err-peek_data-clause-calls g c).After-peek_data in
    let p = err_from_is_err_and c.from_residual.result c.from_residual.ensures.1 in
    rw (p.1, p.2) (within_after g.met.N.Nodes.looks_on g.met.N.Nodes.causes_on c.args.nodes.now c.loop-place.nodes c.peek_data.new.nodes c.loop-place.invariant.looks (looks_refused c.in_err-peek_data.ensures.calls) (few g t))

pub returns-then-not-are_same-clause-calls : goal.returns-then-not-are_same-clause-calls
returns-then-not-are_same-clause-calls g c = record {
  looks = g.met.N.Nodes.looks_on c.args.nodes.now c.loop-place.nodes c.peek_data.new.nodes c.loop-place.invariant.looks c.peek_data.ensures.calls.looks;
  reads = few g (goal.at.returns-then-not-are_same-clause-calls g c).After-peek_data;
  why = tt;
  faults = tt;
}

pub returns-clause-calls : goal.returns-clause-calls
returns-clause-calls g c =
    let now = c.loop-place.invariant in
    let most : c.loop-place.place ≤ div_ceil (body_header + length c.args.bytes.now) (g.N.Nodes.page c.args.nodes.now) =
    subst (λ (p : ℕ). c.loop-place.place ≤ div_ceil (body_header + length c.args.bytes.now) p) c.requires.room (omega (arith, c.loop-place.auto.place-end, c.div_ceil-place-end.ensures)) in
    record { looks = now.looks; reads = omega (arith, now.reads, most); why = tt; faults = tt }
