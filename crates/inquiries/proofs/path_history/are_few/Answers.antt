use Rattle.std.proofs.Common.{◌≡◌, ◌∙◌, ◌<◌, ◌≤◌, ◌-◌, sym, ap, arith}
use Rattle.std.proofs.lemmas.Bool.{true≢false}
use Rattle.std.proofs.lemmas.List.Sums.{sum_by_more_le}
use Rattle.std.specs.Prelude.{sum_by}
use Rattle.history_machine.specs.Machine.{Machine}
use Rattle.inquiries.specs.PathHistories.{looked_at}
use Rattle.inquiries.specs.Readings.{shown}
use Rattle.inquiries.proofs.Sizes.{word_some}
use Rattle.inquiries.proofs.path_history.are_few.Goals as goal

pub returns-in_default-clause-ok : goal.returns-in_default-clause-ok
returns-in_default-clause-ok g c =
    let m = shown c.args.fs.now in
    let entries : c.in-Some.entries ≡ looked_at m c.args.path.now c.view-item.result =
    word_some (looked_at (shown c.loop-view.fs) c.args.path.now c.view-item.result) c.in-Some.entries (sym c.in-Some.is ∙ c.in_ok-entries.ensures.ok)
    ∙ ap (λ (x : Machine). looked_at x c.args.path.now c.view-item.result) c.loop-view.invariant.0.machine in
    let more = sum_by_more_le (looked_at m c.args.path.now) c.args.views.now c.loop-view.view-index c.view-item.result c.loop-view-test.true in
    let at = ap (looked_at m c.args.path.now) c.view-item.is in
    let past : 1048576 - c.loop-view.looked < c.in-Some.entries = c.if-entries-looked.false in
    let so_far = c.loop-view.invariant.1 in (
      λ wrong. absurd (true≢false (sym wrong)),
      λ few. absurd (let bound : sum_by (looked_at m c.args.path.now) c.args.views.now ≤ 1048576 = few in omega (arith, bound, more, at, entries, past, so_far)),
    )
