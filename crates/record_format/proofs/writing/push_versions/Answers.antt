use Rattle.std.proofs.Common.{◌^◌, arith}
use Rattle.std.specs.Prelude.{nat_lt}
use Rattle.std.proofs.lemmas.Bool.{lt-ltb}
use Rattle.arrayvec.specs.ArrayVec.{array_vec_len}
use Rattle.record_format.specs.Payloads.{version_bytes}
use Rattle.record_format.proofs.Appends.{then_two}
use Rattle.record_format.proofs.Pushed.{pushed_none, pushed_more, pushed_items, pushed_fits}
use Rattle.record_format.proofs.writing.push_versions.Goals as goal

pub loop-version-init : goal.loop-version-init
loop-version-init c = pushed_none _ _ _ _ _ _

pub put_u64-requires : goal.put_u64-requires
put_u64-requires c = omega (arith, c.loop-version.invariant.len)

pub put_u32-requires : goal.put_u32-requires
put_u32-requires c = omega (arith, c.loop-version.invariant.len)

pub loop-version-preserved : goal.loop-version-preserved
loop-version-preserved c =
    pushed_more version_bytes (λ version. nat_lt version.root (2 ^ 32)) 12 c.args.versions.now c.args.out.now.items (array_vec_len c.args.out.now)
    c.loop-version.version-index c.loop-version.out.items c.put_u32.new.out.items (array_vec_len c.loop-version.out) (array_vec_len c.put_u32.new.out)
    (record { serial = 0; root = 0 }) c.loop-version-test.true c.loop-version.invariant
    (then_two _ _ _ _ _ c.put_u64.ensures.items c.put_u32.ensures.items)
    (omega arith) (lt-ltb _ _ c.put_u32.ensures.fits)

pub returns-clause-items : goal.returns-clause-items
returns-clause-items c = pushed_items _ _ _ _ _ _ _ _ _ c.loop-version-test.false c.loop-version.invariant

pub returns-clause-len : goal.returns-clause-len
returns-clause-len c = omega (arith, c.loop-version.invariant.len)

pub returns-clause-fits : goal.returns-clause-fits
returns-clause-fits c = pushed_fits _ _ _ _ _ _ _ _ _ c.loop-version-test.false c.loop-version.invariant
