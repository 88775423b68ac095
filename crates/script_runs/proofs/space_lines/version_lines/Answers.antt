use Rattle.std.proofs.Common.{◌≡◌, inl, inr, ℕ, ◌+◌, ◌≤◌, List, length, take, map, sym, subst, ◌∙◌}
use Rattle.std.specs.List.{enumerate_from, zip}
use Rattle.fs_types.specs.declared.call.Version.{Version}
use Rattle.script_runs.specs.Scripts.{version_line}
use Rattle.script_runs.proofs.SpaceLines.{got_none, got_some, places_all, version_made}
use Rattle.script_runs.proofs.space_lines.version_lines.Goals as goal

pub returns-in_default : goal.returns-in_default
returns-in_default c =
    let history = c.args.system.now.state.history in
    c.from_vec.ensures ∙ c.loop-place.invariant
    ∙ places_all (version_line history.cursor) history.versions c.args.space.now 0 c.loop-place.place (inr (got_none c.args.space.now c.loop-place.place c.get.result c.get.ensures.lookup c.in_default.is))

pub returns : goal.returns
returns c =
    let history = c.args.system.now.state.history in
    let past : length history.versions ≤ c.loop-place.place = subst (λ (l : List (Version ℕ)). length l ≤ c.loop-place.place) c.versions-version-items.ensures.versions c.loop-place-test.false in
    c.from_vec-2.ensures ∙ c.loop-place.invariant ∙ places_all (version_line history.cursor) history.versions c.args.space.now 0 c.loop-place.place (inl past)

pub loop-place-preserved : goal.loop-place-preserved
loop-place-preserved c =
    let history = c.args.system.now.state.history in
    let space = c.args.space.now in
    let place = c.loop-place.place in
    let items = c.versions-version-items.result.now in
    let same : items ≡ history.versions = c.versions-version-items.ensures.versions in
    let so_far : c.loop-place.lines.items ≡ map (version_line history.cursor) (take place (enumerate_from 0 (zip items space))) =
    subst (λ (l : List (Version ℕ)). c.loop-place.lines.items ≡ map (version_line history.cursor) (take place (enumerate_from 0 (zip l space)))) (sym same) c.loop-place.invariant in
    let got = got_some space place c.get.result c.in-Some.kept c.get.ensures.lookup c.in-Some.is in
    subst (λ (l : List (Version ℕ)). c.push.new.self.items ≡ map (version_line history.cursor) (take (place + 1) (enumerate_from 0 (zip l space)))) same
    (version_made history.cursor c.cursor.result items space place _ c.in-Some.kept.now c.loop-place.lines.items c.push.new.self.items c.loop-place-test.true got.0 got.1 so_far c.cursor.ensures c.in_ok-push.ensures.items)
