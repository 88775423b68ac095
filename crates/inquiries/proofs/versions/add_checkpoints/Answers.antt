use Rattle.std.proofs.Common.{◌∙◌, ◌++◌, ℕ, inl, inr, sym, ap₂}
use Rattle.std.specs.List.{zip}
use Rattle.fs_types.specs.Names.{Name}
use Rattle.tree_counts.specs.declared.tree_size.TreeSize.{TreeSize}
use Rattle.inquiries.specs.Versions.{checkpoint_row}
use Rattle.inquiries.proofs.PairLines.{got_none, got_some, pair_more, pairs_all, zip_at, zip_long, zip_short}
use Rattle.inquiries.proofs.versions.add_checkpoints.Goals as goal

pub loop-place-preserved : goal.loop-place-preserved
loop-place-preserved c =
    let names = c.args.names.now in
    let place : ℕ = c.loop-place.place in
    let name : Name = c.index-names-place.result in
    let size : TreeSize = c.in-Some.size.now in
    let alone : ℕ = c.in-Some-get.alone.now in
    let sized = got_some c.args.sizes.now place c.get.result c.in-Some.size c.get.ensures.lookup c.in-Some.is in
    let got = got_some c.args.space.now place c.get-in-loop-place.result c.in-Some-get.alone c.get-in-loop-place.ensures.lookup c.in-Some-get.is in
    pair_more names (zip c.args.sizes.now c.args.space.now) c.args.out.now.items checkpoint_row place name (size, alone) c.loop-place.out.items c.add_checkpoint.new.out.items
    c.loop-place-test.true (zip_long c.args.sizes.now c.args.space.now place sized.0 got.0) c.loop-place.invariant
    (c.in_ok-add_checkpoint.ensures
    ∙ ap₂ (λ (s : TreeSize) (n : ℕ). c.loop-place.out.items ++ checkpoint_row (name, (s, n))) (sym sized.1) (sym got.1)
    ∙ ap₂ (λ (n : Name) (pair : TreeSize × ℕ). c.loop-place.out.items ++ checkpoint_row (n, pair)) c.index-names-place.is (sym (zip_at c.args.sizes.now c.args.space.now place size alone sized.0 got.0)))

pub returns-in_default : goal.returns-in_default
returns-in_default c =
    pairs_all c.args.names.now (zip c.args.sizes.now c.args.space.now) c.args.out.now.items checkpoint_row c.loop-place.place c.loop-place.out.items
    (inr (zip_short c.args.sizes.now c.args.space.now c.loop-place.place (inl (got_none c.args.sizes.now c.loop-place.place c.get.result c.get.ensures.lookup c.in_default.is)))) c.loop-place.invariant

pub returns-in_default-get : goal.returns-in_default-get
returns-in_default-get c =
    pairs_all c.args.names.now (zip c.args.sizes.now c.args.space.now) c.args.out.now.items checkpoint_row c.loop-place.place c.loop-place.out.items
    (inr (zip_short c.args.sizes.now c.args.space.now c.loop-place.place (inr (got_none c.args.space.now c.loop-place.place c.get-in-loop-place.result c.get-in-loop-place.ensures.lookup c.in_default-get.is)))) c.loop-place.invariant

pub returns : goal.returns
returns c =
    pairs_all c.args.names.now (zip c.args.sizes.now c.args.space.now) c.args.out.now.items checkpoint_row c.loop-place.place c.loop-place.out.items (inl c.loop-place-test.false) c.loop-place.invariant
