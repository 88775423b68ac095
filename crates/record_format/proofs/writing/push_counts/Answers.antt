use Rattle.std.proofs.Common.{◌≡◌, ℕ, List, [], ◌∷◌, ◌++◌, length, ap, ◌∙◌}
use Rattle.record_format.specs.Payloads.{flag}
use Rattle.record_format.proofs.Appends.{then_three}
use Rattle.record_format.proofs.writing.push_counts.Goals as goal

pub returns-clause-items : goal.returns-clause-items
returns-clause-items c =
    let counts : (c.flag_of.result ∷ length c.as_slice.result.now ∷ length c.as_slice-2.result.now ∷ c.args.one ∷ []) ≡ (flag c.args.saved.now.dropped ∷ length c.args.saved.now.versions ∷ length c.args.saved.now.checkpoints ∷ c.args.one ∷ []) =
    λ i. c.flag_of.ensures i ∷ length (c.as_slice.ensures i) ∷ length (c.as_slice-2.ensures i) ∷ c.args.one ∷ [] in
    then_three _ _ _ _ _ _ _ c.push_places.ensures.items (c.push_bytes.ensures.items ∙ ap (λ (x : List ℕ). c.push_places.new.out.items ++ x) counts) c.push_ends.ensures.items
