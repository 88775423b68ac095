-- A byte of the entry is put in its place.
use Rattle.std.proofs.Common.{◌≢◌, ◌∙◌, ℕ, ◌+◌, ◌*◌, ◌<◌, length, get_or-set_other, get_or-set_same, below_more, refl, arith}
use Rattle.std.proofs.lemmas.List.{get_or-replicate, length-set}
use Rattle.dense_nor.proofs.entries.padded.Goals as goal

pub loop-k-init : goal.loop-k-init
loop-k-init c = record {
  own = λ k low. absurd (omega arith);
  others = λ k low out. get_or-replicate 256 k 255 0 low;
  len = refl;
}

pub loop-k-preserved : goal.loop-k-preserved
loop-k-preserved c =
    let at : ℕ = 8 * c.args.place + c.loop-k.k in
    let inside : at < length c.loop-k.bytes = omega (arith, c.requires, c.loop-k.invariant.len) in
    record {
      own = below_more _ _ (λ k low. let apart : 8 * c.args.place + k ≢ at = omega (arith, low) in get_or-set_other c.loop-k.bytes at (8 * c.args.place + k) _ 0 apart ∙ c.loop-k.invariant.own k low)
          (get_or-set_same c.loop-k.bytes at _ 0 inside);
      others = λ k low out. let apart : k ≢ at = omega (arith, out) in get_or-set_other c.loop-k.bytes at k _ 0 apart ∙ c.loop-k.invariant.others k low out;
      len = length-set c.loop-k.bytes at _ ∙ c.loop-k.invariant.len;
    }
