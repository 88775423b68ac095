use Rattle.std.proofs.Common.{◌≡◌, ℕ, ◌+◌, ◌<◌, List, Some, sym, ◌∙◌, arith}
use Rattle.std.proofs.lemmas.Result.{err_from_is_err_and}
use Rattle.fields.specs.Numbers.{number_at}
use Rattle.fields.proofs.Found.{step}
use Rattle.flash_model.specs.declared.geometry.Geometry.{Geometry}
use Rattle.record_format.specs.declared.front.Front.{Front}
use Rattle.record_format.specs.Payloads.{sizes_at, front_at, front_in, HasItems}
use Rattle.record_format.proofs.payload_decoding.record_of.Goals as goal

-- the fields before the lists were read
has_items : (bytes after later rest : List ℕ) (format : ℕ) (g : Geometry) (front : Front) → Some (format, after) ≡ number_at 4 bytes → Some (g, later) ≡ sizes_at after → Some (front, rest) ≡ front_at later
    → 0 < front.versions + (front.checkpoints + front.bad) → HasItems bytes
unfolding front_in
has_items bytes after later rest format g front first sizes fields some =
    (front, step (number_at 4 bytes) (format, after) _ (sym first) ∙ step (sizes_at after) (g, later) _ (sym sizes) ∙ step (front_at later) (front, rest) _ (sym fields), some)

pub returns-in_err-versions-clause-memory : goal.returns-in_err-versions-clause-memory
returns-in_err-versions-clause-memory c =
    rw (err_from_is_err_and c.from_residual.result c.from_residual.ensures.1).1
    (has_items c.args.bytes.now _ _ _ _ _ c.in-Some-front_of.front c.in-Some.ensures c.in-Some-sizes_of.ensures c.in-Some-front_of.ensures (omega (arith, c.in_err-versions.ensures.memory)))

pub returns-in_err-checkpoints-clause-memory : goal.returns-in_err-checkpoints-clause-memory
returns-in_err-checkpoints-clause-memory c =
    rw (err_from_is_err_and c.from_residual-in_err-checkpoints.result c.from_residual-in_err-checkpoints.ensures.1).1
    (has_items c.args.bytes.now _ _ _ _ _ c.in-Some-front_of.front c.in-Some.ensures c.in-Some-sizes_of.ensures c.in-Some-front_of.ensures (omega (arith, c.in_err-checkpoints.ensures.memory)))

pub returns-in_err-bad-clause-memory : goal.returns-in_err-bad-clause-memory
returns-in_err-bad-clause-memory c =
    rw (err_from_is_err_and c.from_residual-in_err-bad.result c.from_residual-in_err-bad.ensures.1).1
    (has_items c.args.bytes.now _ _ _ _ _ c.in-Some-front_of.front c.in-Some.ensures c.in-Some-sizes_of.ensures c.in-Some-front_of.ensures (omega (arith, c.in_err-bad.ensures.memory)))
