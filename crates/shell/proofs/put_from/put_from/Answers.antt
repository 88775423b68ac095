use Rattle.std.proofs.Common.{◌∙◌, sym}
use Rattle.host_interface.specs.Files.{ReadsClaimed, ReadsBeside}
use Rattle.image_jobs.specs.Images.{host_at}
use Rattle.shell.specs.Tools.{is_stream}
use Rattle.shell.proofs.PutFromLemmas.{put_files, put_streamed}
use Rattle.shell.proofs.put_from.put_from.Goals as goal

pub returns-then-is_stream : goal.returns-then-is_stream
returns-then-is_stream g c = λ out.
    let order = c.args.order in
    put_streamed (is_stream order.file.now) order.mirror order.skip_links order.path.now c.args.name.now (ReadsClaimed g.F.ImageFiles.claims g.F.ImageFiles.reads c.args.name.now)
    (ReadsBeside g.F.ImageFiles.claims g.F.ImageFiles.reads_source c.args.name.now)
    (g.F.Sources.gathered c.args.files.now order.file.now c.args.name.now) (host_at (g.F.ImageFiles.held c.args.files.now) (g.R.Read.remaining c.args.reader.now) out) c.put_stream.result
    (host_at (g.F.ImageFiles.held c.put_stream.new.files) (g.R.Read.remaining c.put_stream.new.reader) out) (sym c.if-is_stream.true ∙ c.is_stream.ensures) (c.put_stream.ensures out)

pub returns-else-is_stream : goal.returns-else-is_stream
returns-else-is_stream g c = λ out.
    let order = c.args.order in
    put_files (is_stream order.file.now) order.mirror order.skip_links order.path.now c.args.name.now (ReadsClaimed g.F.ImageFiles.claims g.F.ImageFiles.reads c.args.name.now)
    (ReadsBeside g.F.ImageFiles.claims g.F.ImageFiles.reads_source c.args.name.now)
    (g.F.Sources.gathered c.args.files.now order.file.now c.args.name.now) (g.F.ImageFiles.held c.args.files.now) (g.F.ImageFiles.held c.put_into_image.new.files) (g.R.Read.remaining c.args.reader.now) out c.put_into_image.result
    (sym c.if-is_stream.false ∙ c.is_stream.ensures) c.put_into_image.ensures.ends c.put_into_image.ensures.others
