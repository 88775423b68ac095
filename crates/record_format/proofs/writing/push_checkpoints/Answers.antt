use Rattle.std.proofs.Common.{◌≡◌, ◌^◌, ℕ, List, [], ◌∷◌, ◌++◌, ap, ◌∙◌, length, arith}
use Rattle.std.specs.Prelude.{◌&&◌, nat_lt}
use Rattle.std.proofs.lemmas.Bool.{lt-ltb}
use Rattle.arrayvec.specs.ArrayVec.{array_vec_len}
use Rattle.fs_types.specs.Names.{is_checkpoint_name}
use Rattle.byteorder.specs.Endian.{little_bytes}
use Rattle.record_format.specs.Payloads.{checkpoint_bytes}
use Rattle.record_format.proofs.Appends.{then_three}
use Rattle.record_format.proofs.LawfulRecords.{name_length, and_true}
use Rattle.record_format.proofs.Pushed.{pushed_item}
use Rattle.record_format.proofs.writing.push_checkpoints.Goals as goal

pub push-requires : goal.push-requires
push-requires c = omega (arith, c.loop-checkpoint.invariant.len)

pub push_bytes-requires : goal.push_bytes-requires
push_bytes-requires c =
    let e = ap length c.as_bytes-name.ensures.bytes in
    let h = name_length c.checkpoint-item.result.name c.as_bytes-name.ensures.lawful in
    omega (arith, c.loop-checkpoint.invariant.len)

pub put_u32-requires : goal.put_u32-requires
put_u32-requires c =
    let e = ap length c.as_bytes-name.ensures.bytes in
    let h = name_length c.checkpoint-item.result.name c.as_bytes-name.ensures.lawful in
    omega (arith, c.loop-checkpoint.invariant.len)

pub loop-checkpoint-preserved : goal.loop-checkpoint-preserved
loop-checkpoint-preserved c =
    let name = c.checkpoint-item.result.name in
    let e = ap length c.as_bytes-name.ensures.bytes in
    let h = name_length name c.as_bytes-name.ensures.lawful in
    let first : c.push.new.self.items ≡ c.loop-checkpoint.out.items ++ length name ∷ [] =
    c.push.ensures.items ∙ ap (λ (x : List ℕ). c.loop-checkpoint.out.items ++ length x ∷ []) c.as_bytes-name.ensures.bytes in
    let second : c.push_bytes.new.out.items ≡ c.push.new.self.items ++ name =
    c.push_bytes.ensures.items ∙ ap (λ (x : List ℕ). c.push.new.self.items ++ x) c.as_bytes-name.ensures.bytes in
    pushed_item checkpoint_bytes (λ checkpoint. is_checkpoint_name checkpoint.name && nat_lt checkpoint.root (2 ^ 32)) 36 c.args.checkpoints.now c.args.out.now.items (array_vec_len c.args.out.now)
    c.loop-checkpoint.checkpoint-index c.loop-checkpoint.out.items c.put_u32.new.out.items (array_vec_len c.loop-checkpoint.out) (array_vec_len c.put_u32.new.out)
    c.checkpoint-item.result c.loop-checkpoint-test.true c.checkpoint-item.is c.loop-checkpoint.invariant
    (then_three _ (length name ∷ []) name (little_bytes 4 c.checkpoint-item.result.root) _ _ _ first second c.put_u32.ensures.items)
    (omega arith) (and_true _ _ c.as_bytes-name.ensures.lawful (lt-ltb _ _ c.put_u32.ensures.fits))
