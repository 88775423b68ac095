use Rattle.std.proofs.Common.{ap}
use Rattle.host_interface.specs.declared.image_files.TheConstants.{MOST_BYTES}
use Rattle.host_files.proofs.Fronts.{front_read}
use Rattle.host_files.proofs.host_files.read_front.Goals as goal

pub returns : goal.returns
returns g c =
    front_read c.take.result.limit MOST_BYTES (g.R.Read.remaining c.take.result.inner) (g.R.Read.remaining c.args.reader) c.in_ok-bytes.bytes.items c.read_to_end.new.buf.items
    c.take.ensures.limit (ap g.R.Read.remaining c.take.ensures.inner) c.in_ok-bytes.ensures.items c.in_ok-read_to_end.ensures.bytes
