use Rattle.std.proofs.Common.{◌∙◌, ◌++◌, ℕ, inl, inr, get_or, sym, ap, ap₂}
use Rattle.std.specs.Prelude.{◌==◌}
use Rattle.std.specs.List.{zip}
use Rattle.system.specs.declared.version_space.VersionSpace.{VersionSpace}
use Rattle.tree_counts.specs.declared.tree_size.TreeSize.{TreeSize}
use Rattle.inquiries.specs.Versions.{row_at, version_row}
use Rattle.inquiries.proofs.PairLines.{got_none, got_some, place_more, places_all, zip_at, zip_long, zip_short}
use Rattle.inquiries.proofs.versions.add_versions.Goals as goal

pub loop-place-preserved : goal.loop-place-preserved
loop-place-preserved c =
    let place : ℕ = c.loop-place.place in
    let serial : ℕ = get_or c.args.serials.now place 0 in
    let size : TreeSize = c.in-Some.size.now in
    let kept : VersionSpace = c.in-Some-get.kept.now in
    let sized = got_some c.args.sizes.now place c.get.result c.in-Some.size c.get.ensures.lookup c.in-Some.is in
    let got = got_some c.args.space.now place c.get-in-loop-place.result c.in-Some-get.kept c.get-in-loop-place.ensures.lookup c.in-Some-get.is in
    place_more c.args.serials.now (zip c.args.sizes.now c.args.space.now) c.args.out.now.items (row_at c.args.cursor) place 0 (size, kept) c.loop-place.out.items c.add_version.new.out.items
    c.loop-place-test.true (zip_long c.args.sizes.now c.args.space.now place sized.0 got.0) c.loop-place.invariant
    (c.in_ok-add_version.ensures
    ∙ ap₂ (λ (s : TreeSize) (k : VersionSpace). c.loop-place.out.items ++ version_row serial s k (place == c.args.cursor)) (sym sized.1) (sym got.1)
    ∙ ap (λ (pair : TreeSize × VersionSpace). c.loop-place.out.items ++ row_at c.args.cursor (place, (serial, pair))) (sym (zip_at c.args.sizes.now c.args.space.now place size kept sized.0 got.0)))

pub returns-in_default : goal.returns-in_default
returns-in_default c =
    places_all c.args.serials.now (zip c.args.sizes.now c.args.space.now) c.args.out.now.items (row_at c.args.cursor) c.loop-place.place c.loop-place.out.items
    (inr (zip_short c.args.sizes.now c.args.space.now c.loop-place.place (inl (got_none c.args.sizes.now c.loop-place.place c.get.result c.get.ensures.lookup c.in_default.is)))) c.loop-place.invariant

pub returns-in_default-get : goal.returns-in_default-get
returns-in_default-get c =
    places_all c.args.serials.now (zip c.args.sizes.now c.args.space.now) c.args.out.now.items (row_at c.args.cursor) c.loop-place.place c.loop-place.out.items
    (inr (zip_short c.args.sizes.now c.args.space.now c.loop-place.place (inr (got_none c.args.space.now c.loop-place.place c.get-in-loop-place.result c.get-in-loop-place.ensures.lookup c.in_default-get.is)))) c.loop-place.invariant

pub returns : goal.returns
returns c =
    places_all c.args.serials.now (zip c.args.sizes.now c.args.space.now) c.args.out.now.items (row_at c.args.cursor) c.loop-place.place c.loop-place.out.items (inl c.loop-place-test.false) c.loop-place.invariant
