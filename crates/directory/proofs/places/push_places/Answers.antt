use Rattle.std.proofs.Common.{◌<◌, [], ◌∷◌, ◌++◌, List, length, sym, ap, ◌∙◌, arith, append_assoc}
use Rattle.std.specs.Option.{option_copied}
use Rattle.fs_types.specs.Names.{is_after}
use Rattle.node_format.specs.Items.{Item}
use Rattle.directory.specs.Places.{places_after}
use Rattle.directory.proofs.Walks.{append_none}
use Rattle.directory.proofs.Placed.{place_full, place_passed, place_taken, placed_is}
use Rattle.directory.proofs.places.push_places.Goals.{else-as_slice-most-via-then-as_slice-most+else-is_after, else-as_slice-most-via-else-as_slice-most}
use Rattle.directory.proofs.places.push_places.Goals as goal

pub loop-entry-preserved-then-is_after : goal.loop-entry-preserved-then-is_after
loop-entry-preserved-then-is_after c before first =
    let from = option_copied c.args.from in
    let so_far = c.loop-entry.invariant before first in
    let few : length c.loop-entry.places < c.args.most = let less = c.if-as_slice-most.true in omega (arith, less, ap length c.as_slice.ensures) in (
      so_far.0 ++ c.in-Some.entry ∷ [],
      append_assoc so_far.0 (c.in-Some.entry ∷ []) c.next.new.self ∙ ap (λ (items : List Item). so_far.0 ++ items) (sym c.in-Some.ensures.steps) ∙ so_far.1,
      c.in_ok-push.ensures.ok
          ∙ ap (λ e. c.loop-entry.places ++ e ∷ []) (placed_is _ _ _ _ (c.in_ok-name.ensures ∙ c.name-then-is_after.ensures.name) c.place.ensures)
          ∙ place_taken from c.args.most so_far.0 c.in-Some.entry c.loop-entry.places so_far.2 (ap (is_after from) (sym c.name.ensures.name) ∙ sym c.is_after.ensures ∙ c.if-is_after.true) few,
    )

pub loop-entry-preserved : goal.loop-entry-preserved
loop-entry-preserved c before first =
    let from = option_copied c.args.from in
    let so_far = c.loop-entry.invariant before first in (
      so_far.0 ++ c.in-Some.entry ∷ [],
      append_assoc so_far.0 (c.in-Some.entry ∷ []) c.next.new.self ∙ ap (λ (items : List Item). so_far.0 ++ items) (sym c.in-Some.ensures.steps) ∙ so_far.1,
      elim c.else-as_slice-most.branch [
        | else-as_slice-most-via-then-as_slice-most+else-is_after w ↦
            place_passed from c.args.most so_far.0 c.in-Some.entry c.loop-entry.places so_far.2 (ap (is_after from) (sym w.name.ensures.name) ∙ sym w.is_after.ensures ∙ w.if-is_after.false)
        | else-as_slice-most-via-else-as_slice-most w ↦
            place_full from c.args.most so_far.0 (c.in-Some.entry ∷ []) c.loop-entry.places so_far.2 (let many = w.if-as_slice-most.false in omega (arith, many, ap length c.as_slice.ensures))
      ],
    )

pub returns-clause-places : goal.returns-clause-places
returns-clause-places c before first =
    let from = option_copied c.args.from in
    let so_far = c.loop-entry.invariant before first in
    so_far.2
    ∙ ap (places_after from c.args.most) (sym (append_none so_far.0) ∙ ap (λ (items : List Item). so_far.0 ++ items) (sym c.in-None.ensures.steps.0) ∙ so_far.1)
