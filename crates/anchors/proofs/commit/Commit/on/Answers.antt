use Rattle.std.proofs.Common.{◌+◌, ◌<◌, ◌≤◌, ℕ, List, cond, length, inl, inr, sym, subst, ◌∙◌, arith}
use Rattle.record_format.specs.Payloads.{longest}
use Rattle.anchors.specs.Payloads.{Means}
use Rattle.anchors.proofs.Anchoring.{room_left, lt_le}
use Rattle.anchors.proofs.Attempting.{attempted, asks_for, asks_few, lacks_more, listed, not_attempted}
use Rattle.anchors.proofs.commit.Commit.on.Goals as goal

pub returns-then-contains-clause-attempted : goal.returns-then-contains-clause-attempted
returns-then-contains-clause-attempted g c =
    not_attempted (g.F.Flash.device c.args.self.now.flash.now) c.args.self.now.bad.now c.args.self.now.saved.now c.args.self.now.sequence c.args.start.anchor c.args.start.place (cond c.args.start.anew 1 0)

pub returns-then-contains-clause-lacks : goal.returns-then-contains-clause-lacks
returns-then-contains-clause-lacks g c = inl (sym c.contains.ensures ∙ c.if-contains.true)

pub payload_with-payload-requires-clause-room : goal.payload_with-payload-requires-clause-room
payload_with-payload-requires-clause-room g c = lt_le _ _ (room_left c.args.self.now.bad.now c.requires.open)

pub new-draft-requires-clause-some : goal.new-draft-requires-clause-some
new-draft-requires-clause-some g c = subst (λ (bytes : List ℕ). 0 < length bytes) (sym c.as_slice.ensures.value) c.payload_with-payload.ensures.some

pub new-draft-requires-clause-short : goal.new-draft-requires-clause-short
new-draft-requires-clause-short g c = subst (λ (bytes : List ℕ). length bytes ≤ longest) (sym c.as_slice.ensures.value) c.payload_with-payload.ensures.short

pub returns-then-geometry-start-clause-attempted : goal.returns-then-geometry-start-clause-attempted
returns-then-geometry-start-clause-attempted g c =
    not_attempted (g.F.Flash.device c.args.self.now.flash.now) c.args.self.now.bad.now c.args.self.now.saved.now c.args.self.now.sequence c.args.start.anchor c.args.start.place (cond c.args.start.anew 1 0)

pub returns-then-geometry-start-clause-lacks : goal.returns-then-geometry-start-clause-lacks
returns-then-geometry-start-clause-lacks g c = inr (record {
  bytes = c.new-draft.result.payload.now;
  count = c.new-draft.result.count;
  means = λ sequence. subst (Means c.args.self.now.saved.now sequence c.args.self.now.bad.now) (sym (c.new-draft.ensures.payload ∙ c.as_slice.ensures.value)) (c.payload_with-payload.ensures.means sequence);
  fills = c.new-draft.ensures.is.fills;
  fits = c.new-draft.ensures.is.fits;
  past = c.if-geometry-start.true;
})

pub write-done-requires-clause-may : goal.write-done-requires-clause-may
write-done-requires-clause-may g c = record {
  is = c.new-draft.ensures.is;
  below = c.requires.begin.below;
  good = sym c.contains.ensures ∙ c.if-contains.false;
  room = room_left c.args.self.now.bad.now c.requires.open;
  older = rw c.new-draft.ensures.sequence c.requires.ready.older;
}

pub returns-clause-attempted : goal.returns-clause-attempted
returns-clause-attempted g c =
    let draft = c.new-draft.result in
    let fits : draft.count ≤ c.args.self.now.saved.now.geometry.pages = c.new-draft.ensures.is.fits in
    let means = subst (Means c.args.self.now.saved.now draft.sequence c.args.self.now.bad.now) (sym (c.new-draft.ensures.payload ∙ c.as_slice.ensures.value)) (c.payload_with-payload.ensures.means draft.sequence) in
    rw c.answered.ensures (rw c.new-draft.ensures.sequence at (attempted (g.F.Flash.device c.args.self.now.flash.now) (g.F.Flash.device c.write-done.new.self.flash.now) c.args.self.now.bad.now c.write-done.new.self.bad.now c.args.self.now.saved.now c.args.start.anchor c.args.start.place draft
    (cond c.args.start.anew 1 0) (cond c.args.start.anew (1 + draft.count) draft.count) c.first_page-found.result c.write-done.result
    c.requires.ready.suits.same (let some = c.new-draft.ensures.is.fills.some in let room = c.if-geometry-start.false in omega arith) (asks_for c.args.start.anew draft.count) (asks_few c.args.start.anew draft.count c.args.self.now.saved.now.geometry.pages fits)
    (sym c.contains.ensures ∙ c.if-contains.false) c.first_page-found.ensures.page c.first_page-found.ensures.head means c.write-done.ensures.wrote))

pub returns-clause-lacks : goal.returns-clause-lacks
returns-clause-lacks g c =
    rw c.answered.ensures (lacks_more _ _ _ (listed (g.F.Flash.device c.args.self.now.flash.now) (g.F.Flash.device c.write-done.new.self.flash.now) c.args.self.now.bad.now c.write-done.new.self.bad.now c.args.start.anchor _ c.first_page-found.result c.write-done.result c.write-done.ensures.wrote.changes))
