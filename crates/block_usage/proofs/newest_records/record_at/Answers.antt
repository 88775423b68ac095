use Rattle.std.proofs.Common.{◌≡◌, ℕ, ◌+◌, ◌*◌, ◌<◌, true, false, sym, ap, subst, ◌∙◌}
use Rattle.fs_types.specs.declared.limits.TheConstants.{ANCHORS}
use Rattle.flash_model.specs.Device.{Page}
use Rattle.flash_model.specs.Reading.{OnlyReads_on, same_pages}
use Rattle.anchors.specs.Parts.{parts_on, head_at, are_parts, is_part}
use Rattle.anchors.proofs.Places.{below_end, record_ends}
use Rattle.anchors.proofs.ReadParts.{parts_end, parts_go_on, parts_stop}
use Rattle.block_usage.specs.NewestRecords.{has_room}
use Rattle.block_usage.proofs.NewestRecordLemmas.{begins, room_fits, with_room}
use Rattle.block_usage.proofs.newest_records.record_at.Goals as goal

pub head_at-requires-in-loop-n-clause-in_range : goal.head_at-requires-in-loop-n-clause-in_range
head_at-requires-in-loop-n-clause-in_range g c =
    let size = c.args.geometry in
    let p = c.args.page in
    let first = c.in-Some.first in
    let room : has_room size p first ≡ true = sym c.has_room.ensures ∙ c.if-not-has_room.false in
    subst (λ (n : ℕ). p + n < ANCHORS * size.pages) (sym c.from.ensures)
    (below_end p c.loop-n.n first.count (ANCHORS * size.pages) (record_ends size p first.count c.requires.lawful c.requires.in_range (room_fits size p first room)) c.loop-n-test.true)

pub returns-then-not-is_part-clause-head : goal.returns-then-not-is_part-clause-head
returns-then-not-is_part-clause-head g c =
    let size = c.args.geometry in
    let parts = parts_on size (g.F.Flash.device c.args.flash.now).pages in
    let p = c.args.page in
    let n = c.loop-n.n in
    let first = c.in-Some.first in
    let room : has_room size p first ≡ true = sym c.has_room.ensures ∙ c.if-not-has_room.false in
    let read : c.in_ok-head.head ≡ head_at parts (p + n) =
    c.in_ok-head.ensures.head ∙ ap (λ (pages : ℕ → Page). head_at (parts_on size pages) (p + c.from.result)) (same_pages c.loop-n.invariant.only_reads) ∙ ap (λ (m : ℕ). head_at parts (p + m)) c.from.ensures in
    let other : is_part size first n c.in_ok-head.head ≡ false = sym c.is_part.ensures ∙ c.if-not-is_part.true in
    begins size parts p first false (sym c.in-Some.is ∙ c.in_ok-first.ensures.head)
    (with_room size parts p first false room (parts_stop size parts p first n c.in_ok-head.head (are_parts size parts p first 0 first.count) c.loop-n-test.true read other c.loop-n.invariant.parts))

pub loop-n-preserved : goal.loop-n-preserved
loop-n-preserved g c =
    let size = c.args.geometry in
    let old = g.F.Flash.device c.args.flash.now in
    let parts = parts_on size old.pages in
    let p = c.args.page in
    let n = c.loop-n.n in
    let first = c.in-Some.first in
    let read : c.in_ok-head.head ≡ head_at parts (p + n) =
    c.in_ok-head.ensures.head ∙ ap (λ (pages : ℕ → Page). head_at (parts_on size pages) (p + c.from.result)) (same_pages c.loop-n.invariant.only_reads) ∙ ap (λ (m : ℕ). head_at parts (p + m)) c.from.ensures in
    let one : is_part size first n c.in_ok-head.head ≡ true = sym c.is_part.ensures ∙ c.if-not-is_part.false in
    record {
      only_reads = OnlyReads_on old (g.F.Flash.device c.loop-n.flash) (g.F.Flash.device c.head_at-in-loop-n.new.flash) c.loop-n.invariant.only_reads c.in_ok-head.ensures.only_reads;
      parts = parts_go_on size parts p first n c.in_ok-head.head (are_parts size parts p first 0 first.count) c.loop-n-test.true read one c.loop-n.invariant.parts;
    }

pub returns-clause-head : goal.returns-clause-head
returns-clause-head g c =
    let size = c.args.geometry in
    let parts = parts_on size (g.F.Flash.device c.args.flash.now).pages in
    let p = c.args.page in
    let first = c.in-Some.first in
    let room : has_room size p first ≡ true = sym c.has_room.ensures ∙ c.if-not-has_room.false in
    begins size parts p first true (sym c.in-Some.is ∙ c.in_ok-first.ensures.head)
    (with_room size parts p first true room (parts_end size parts p first c.loop-n.n (are_parts size parts p first 0 first.count) c.loop-n-test.false c.loop-n.invariant.parts))
