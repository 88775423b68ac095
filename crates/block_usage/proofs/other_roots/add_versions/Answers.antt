use Rattle.std.proofs.Common.{◌∙◌, ℕ, ◌≤◌, length, ap, arith}
use Rattle.fs_types.specs.declared.call.Version.{Version}
use Rattle.block_usage.specs.OtherRoots.{other_version}
use Rattle.block_usage.proofs.RootLemmas.{rows_all, version_added, version_passed}
use Rattle.block_usage.proofs.other_roots.add_versions.Goals as goal
use Rattle.block_usage.proofs.other_roots.add_versions.Goals.{then-not-shows_version+in_ok-push, else-not-shows_version}

pub loop-place-preserved : goal.loop-place-preserved
loop-place-preserved c =
    let h = c.args.history.now in
    let view = c.args.view.now in
    let versions = c.versions-version-items.result.now in
    let same = c.versions-version-items.ensures.versions in
    let start = c.args.roots.now.items in
    let i = c.loop-place.place in
    let none : Version ℕ = record { serial = 0; root = 0 } in
    let mid = c.loop-place.roots.items in
    let new = c.if-not-shows_version.roots.items in
    elim c.if-not-shows_version.branch [
      | then-not-shows_version+in_ok-push w ↦
          version_added h view versions same start i c.cursor-cursor.result none c.cursor-cursor.ensures c.shows_version.result c.shows_version.ensures mid new c.loop-place-test.true c.loop-place.invariant
          w.if-not-shows_version.true (ap (λ v. v.items) w.roots-is ∙ w.in_ok-push.ensures.items)
      | else-not-shows_version w ↦
          version_passed h view versions same start i c.cursor-cursor.result none c.cursor-cursor.ensures c.shows_version.result c.shows_version.ensures mid new c.loop-place-test.true c.loop-place.invariant
          w.if-not-shows_version.false (ap (λ v. v.items) w.roots-is)
    ]

pub returns : goal.returns
returns c =
    let h = c.args.history.now in
    let all : length h.versions ≤ c.loop-place.place = omega (arith, c.loop-place-test.false, ap length c.versions-version-items.ensures.versions) in
    rows_all (other_version h c.args.view.now) h.versions c.args.roots.now.items c.loop-place.place c.loop-place.roots.items all c.loop-place.invariant
