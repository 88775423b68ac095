use Rattle.std.proofs.Common.{◌++◌, take}
use Rattle.std.proofs.KnownBytes.{Consumes-trans}
use Rattle.put_jobs.proofs.input.read_input.Goals as goal

pub returns-in-Err-extend_from_slice-clause-err : goal.returns-in-Err-extend_from_slice-clause-err
returns-in-Err-extend_from_slice-clause-err g c =
    let part = take c.in-Ok.count c.read_some.new.chunk in (
      c.loop-bytes.bytes.items ++ part,
      Consumes-trans (g.R.Read.remaining c.args.reader.now) (g.R.Read.remaining c.loop-bytes.reader) (g.R.Read.remaining c.read_some.new.reader) c.loop-bytes.bytes.items part c.loop-bytes.invariant.0 c.in-Ok.ensures.ok,
    )
