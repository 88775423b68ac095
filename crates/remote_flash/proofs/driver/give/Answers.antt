use Rattle.std.proofs.Common.{[], ◌∷◌, ◌++◌, subst}
use Rattle.std.proofs.KnownBytes.{Appends-trans, Appends-kept}
use Rattle.std.specs.Io.KnownBytes.{Appends}
use Rattle.byteorder.specs.Endian.{little_bytes}
use Rattle.remote_flash.specs.Orders.{order_of}
use Rattle.remote_flash.specs.Streams.{AppendsPart}
use Rattle.remote_flash.proofs.Parts.{part_whole, part_front, part_then, on_err}
use Rattle.remote_flash.proofs.driver.give.Goals as goal

pub returns-in_err-write_out-clause-err : goal.returns-in_err-write_out-clause-err
returns-in_err-write_out-clause-err g c =
    on_err c.from_residual.result _ (part_front _ _ (c.args.kind ∷ []) (little_bytes 4 c.args.number ++ c.args.bytes.now) c.in_err-write_out.ensures.err)

pub returns-in_err-write_out-2-clause-err : goal.returns-in_err-write_out-2-clause-err
returns-in_err-write_out-2-clause-err g c =
    let start = g.W.Write.contents c.args.orders.now in
    let first = g.W.Write.contents c.write_out.new.writer in
    let second = g.W.Write.contents c.write_out-2.new.writer in
    let number : AppendsPart first second (little_bytes 4 c.args.number) = subst (AppendsPart first second) c.to_le_bytes.ensures c.in_err-write_out-2.ensures.err in
    on_err c.from_residual-in_err-write_out-2.result _ (part_then start first second (c.args.kind ∷ []) (little_bytes 4 c.args.number ++ c.args.bytes.now)
    c.in_ok-write_out.ensures.ok (part_front first second (little_bytes 4 c.args.number) c.args.bytes.now number))

pub returns-in_err-write_out-3-clause-err : goal.returns-in_err-write_out-3-clause-err
returns-in_err-write_out-3-clause-err g c =
    let start = g.W.Write.contents c.args.orders.now in
    let first = g.W.Write.contents c.write_out.new.writer in
    let second = g.W.Write.contents c.write_out-2.new.writer in
    let third = g.W.Write.contents c.write_out-3.new.writer in
    let number : Appends first second (little_bytes 4 c.args.number) = subst (Appends first second) c.to_le_bytes.ensures c.in_ok-write_out-2.ensures.ok in
    on_err c.from_residual-in_err-write_out-3.result _ (part_then start first third (c.args.kind ∷ []) (little_bytes 4 c.args.number ++ c.args.bytes.now)
    c.in_ok-write_out.ensures.ok (part_then first second third (little_bytes 4 c.args.number) c.args.bytes.now number c.in_err-write_out-3.ensures.err))

pub returns-clause-err : goal.returns-clause-err
returns-clause-err g c =
    let start = g.W.Write.contents c.args.orders.now in
    let first = g.W.Write.contents c.write_out.new.writer in
    let second = g.W.Write.contents c.write_out-2.new.writer in
    let third = g.W.Write.contents c.write_out-3.new.writer in
    let last = g.W.Write.contents c.flush.new.self in
    let number : Appends first second (little_bytes 4 c.args.number) = subst (Appends first second) c.to_le_bytes.ensures c.in_ok-write_out-2.ensures.ok in
    let all : Appends start third (order_of c.args.kind c.args.number c.args.bytes.now) =
    Appends-trans start first third (c.args.kind ∷ []) (little_bytes 4 c.args.number ++ c.args.bytes.now) c.in_ok-write_out.ensures.ok
    (Appends-trans first second third (little_bytes 4 c.args.number) c.args.bytes.now number c.in_ok-write_out-3.ensures.ok) in
    on_err c.flush.result _ (part_whole start last (order_of c.args.kind c.args.number c.args.bytes.now) (Appends-kept start third last _ all c.flush.ensures.bytes))
