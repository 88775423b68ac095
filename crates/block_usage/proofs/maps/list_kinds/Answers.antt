use Rattle.std.proofs.Common.{◌≡◌, ℕ, ◌+◌, ◌<◌, Some, List, length, inl, inr, sym, ap, subst, ◌∙◌, arith}
use Rattle.std.proofs.lemmas.List.{length_push}
use Rattle.std.specs.Prelude.{slice_get}
use Rattle.flash_model.specs.Geometry.{IsGeometry}
use Rattle.flash_model.specs.Reading.{OnlyReads_on}
use Rattle.flash_model.specs.declared.geometry.Geometry.{Geometry}
use Rattle.system.proofs.VersionSpaces.{slice_get_pushed}
use Rattle.block_usage.specs.Kinds.{IsKind}
use Rattle.block_usage.specs.declared.block_kind.BlockKind.{BlockKind}
use Rattle.block_usage.proofs.maps.list_kinds.Goals as goal

pub find_kind-requires-clause-lawful : goal.find_kind-requires-clause-lawful
find_kind-requires-clause-lawful g c = subst IsGeometry (sym c.loop-block.invariant.only_reads.geometry) c.requires.lawful

pub find_kind-requires-clause-in_range : goal.find_kind-requires-clause-in_range
find_kind-requires-clause-in_range g c =
    subst (λ (s : Geometry). c.loop-block.block < s.blocks) (c.geometry-block-end.ensures ∙ sym c.loop-block.invariant.only_reads.geometry) c.loop-block-test.true

pub find_kind-requires-clause-whole : goal.find_kind-requires-clause-whole
find_kind-requires-clause-whole g c = c.loop-block.auto.page ∙ c.requires.whole ∙ ap (λ (s : Geometry). s.page) (sym c.loop-block.invariant.only_reads.geometry)

pub loop-block-preserved : goal.loop-block-preserved
loop-block-preserved g c =
    let old = g.F.Flash.device c.args.flash.now in
    let mid = g.F.Flash.device c.loop-block.flash in
    let so_far = c.loop-block.invariant in
    let told = c.loop-block.kinds.items in
    let one = c.in_ok-kind.kind in
    let bad = c.args.bad.now in
    record {
      only_reads = OnlyReads_on old mid (g.F.Flash.device c.find_kind.new.flash) so_far.only_reads c.in_ok-kind.ensures.only_reads;
      so_many = ap (λ (l : List BlockKind). length l) c.in_ok-push.ensures.items ∙ length_push told one ∙ ap (λ (n : ℕ). n + 1) so_far.so_many;
      each = λ d h reads knows b kind at. elim (slice_get_pushed told one kind b (subst (λ (l : List BlockKind). slice_get l b ≡ Some kind) c.in_ok-push.ensures.items at)) [
        | inl before ↦ so_far.each d h reads knows b kind before
        | inr (here, same) ↦
            subst (IsKind d h bad b) same
            (subst (λ (n : ℕ). IsKind d h bad n one) (sym (here ∙ so_far.so_many)) (c.in_ok-kind.ensures.kind d h (OnlyReads_on d old mid reads so_far.only_reads) knows))
      ];
    }

pub returns-clause-kinds : goal.returns-clause-kinds
returns-clause-kinds g c d h reads knows = record {
  all = c.loop-block.invariant.so_many ∙ (let e : c.loop-block.block ≡ c.geometry-block-end.result.blocks = omega (arith, c.loop-block-test.false, c.loop-block.auto.block-end) in e)
      ∙ ap (λ (s : Geometry). s.blocks) (c.geometry-block-end.ensures ∙ reads.geometry);
  each = c.loop-block.invariant.each d h reads knows;
}
