use Rattle.std.proofs.Common.{◌≡◌, ◌≤◌, length, true, sym, ap, subst, ◌∙◌, arith}
use Rattle.std.specs.FinSet as set
use Rattle.std.specs.List.Sorted.{IsStrictlyIncreasing}
use Rattle.record_format.specs.Payloads.{is_record, written}
use Rattle.anchors.proofs.Ascending.{lawful_with, means_with}
use Rattle.anchors.proofs.draft.payload_with.Goals as goal
use Rattle.anchors.proofs.draft.payload_with.Goals.{After-as_slice}

module _ (c : After-as_slice) where
  ascends : IsStrictlyIncreasing c.as_slice.result.now
  ascends = subst IsStrictlyIncreasing (sym c.as_slice.ensures.value) c.iter.ensures.ascending

  listed : set.from_list c.as_slice.result.now ≡ c.args.bad.now
  listed = ap set.from_list c.as_slice.ensures.value ∙ c.iter.ensures.blocks

  lawful : is_record (written c.args.saved.now c.as_slice.result.now) ≡ true
  lawful =
      let short : length c.as_slice.result.now ≤ 256 = let a = c.as_slice.ensures.len in let b = c.iter.ensures.len in let d = c.requires.room in omega arith in
      lawful_with c.args.saved.now c.as_slice.result.now c.args.bad.now c.requires.lawful ascends listed short c.requires.on_flash

pub write_payload-requires : goal.write_payload-requires
write_payload-requires c = lawful c

pub returns-clause-means : goal.returns-clause-means
returns-clause-means c = λ sequence.
    let t = (goal.at.returns-clause-means c).After-as_slice in
    record {
      list = c.as_slice.result.now;
      ascends = ascends t;
      listed = listed t;
      spelled = c.write_payload.ensures.spelled;
      means = means_with c.payload_laws.ensures.written c.args.saved.now c.as_slice.result.now sequence c.write_payload.result.items (lawful t) c.write_payload.ensures.fits c.write_payload.ensures.spelled;
    }

pub returns-clause-some : goal.returns-clause-some
returns-clause-some c =
    let t = (goal.at.returns-clause-some c).After-as_slice in
    let h = c.payload_laws.ensures.short (written c.args.saved.now c.as_slice.result.now) (lawful t) c.write_payload.ensures.fits in
    let e = ap length c.write_payload.ensures.spelled in
    omega (arith, h.0)
