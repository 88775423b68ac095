use Rattle.std.proofs.Common.{◌≡◌, ◌<◌, ◌≤◌, ◌∙◌, List, ℕ, length, refl, subst, rules}
use Rattle.flash_simulation.specs.Simulation.{device_of}
use Rattle.flash_simulation.specs.Images.{image_of}
use Rattle.image_buffer.specs.Buffers.{HoldsAtFront}
use Rattle.image_buffer.proofs.buffers.run_buffer.Goals as goal

pub returns-then-len-buffer : goal.returns-then-len-buffer
returns-then-len-buffer c =
    let all = c.in_ok-played.ensures.ok in
    let longer : length c.args.buffer.now < length c.in_ok-played.played.image.items = search rules in
    ((c.if-count-buffer.false, (all.0, c.in_ok-played.played.replies.items, all.1, subst (λ (xs : List ℕ). length c.args.buffer.now < length xs) all.2 longer)), refl)

pub returns-then-len-replies : goal.returns-then-len-replies
returns-then-len-replies c =
    let all = c.in_ok-played.ensures.ok in
    let fits : length c.in_ok-played.played.image.items ≤ length c.args.buffer.now = search rules in
    let longer : length c.args.replies.now < length c.in_ok-played.played.replies.items = search rules in
    ((c.if-count-buffer.false, (all.0, c.in_ok-played.played.replies.items, all.1, (subst (λ (xs : List ℕ). length xs ≤ length c.args.buffer.now) all.2 fits, longer))), refl)

pub returns : goal.returns
returns c =
    let all = c.in_ok-played.ensures.ok in
    let image : c.deref.result.now ≡ image_of (device_of all.0) = c.deref.ensures.value ∙ all.2 in (
      c.if-count-buffer.false,
      (
        all.0,
        c.in_ok-played.played.replies.items,
        all.1,
        subst (λ (xs : List ℕ). HoldsAtFront c.args.buffer.now xs c.put_front.result c.put_front.new.buffer) image c.put_front.ensures,
        subst (λ (xs : List ℕ). HoldsAtFront c.args.replies.now xs c.put_front-2.result c.put_front-2.new.buffer) c.deref-2.ensures.value c.put_front-2.ensures,
      ),
    )
