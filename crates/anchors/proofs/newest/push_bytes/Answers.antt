use Rattle.std.proofs.Common.{◌≡◌, ◌-◌, ◌++◌, List, ℕ, sym, ap, ◌∙◌, take, drop, length, append_assoc, arith}
use Rattle.std.proofs.lemmas.List.{length-append, length-take, length-drop, take-append-drop}
use Rattle.record_format.specs.Payloads.{longest}
use Rattle.anchors.proofs.newest.push_bytes.Goals as goal

pub returns-then-room-bytes-clause-front : goal.returns-then-room-bytes-clause-front
returns-then-room-bytes-clause-front c =
    let room = longest - c.len-room.result in
    let bytes = c.args.bytes.now in
    let before = c.args.payload.now.items in
    let added : c.try_extend_from_slice.new.self.items ≡ before ++ take room bytes = rw c.unwrap.ensures at c.try_extend_from_slice.ensures.ok in
    record {
      rest = drop room bytes;
      some = omega (arith, length-drop room bytes);
      full = ap length added ∙ length-append before (take room bytes) ∙ (let e = c.len-room.ensures.value in let lt = c.if-room-bytes.true in let fits = c.len-room.ensures.fits in omega (arith, length-take room bytes));
      is = sym (ap (λ (x : List ℕ). x ++ drop room bytes) added ∙ append_assoc before (take room bytes) (drop room bytes) ∙ ap (λ (x : List ℕ). before ++ x) (take-append-drop room bytes));
    }
