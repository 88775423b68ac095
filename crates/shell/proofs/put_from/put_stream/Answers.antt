use Rattle.std.proofs.Common.{◌∙◌, Bool, Err, refl, sym, subst}
use Rattle.host_interface.specs.Files.{ReadsClaimed}
use Rattle.image_jobs.specs.Images.{host_at}
use Rattle.image_jobs.specs.declared.failure.Failure.{Failure}
use Rattle.shell.specs.Tools.{StreamEnds}
use Rattle.shell.proofs.put_from.put_stream.Goals as goal

pub returns-then-wants_folder : goal.returns-then-wants_folder
returns-then-wants_folder g c = λ out.
    let host = host_at (g.F.ImageFiles.held c.args.files.now) (g.R.Read.remaining c.args.reader.now) out in
    subst (λ (b : Bool). StreamEnds b c.args.order.path.now c.args.name.now (ReadsClaimed g.F.ImageFiles.claims g.F.ImageFiles.reads c.args.name.now) host (Err Failure.NoFolder) host)
    (sym c.if-wants_folder.true ∙ c.wants_folder.ensures) (refl, refl)

pub returns-else-wants_folder : goal.returns-else-wants_folder
returns-else-wants_folder g c = λ out.
    let before = host_at (g.F.ImageFiles.held c.args.files.now) (g.R.Read.remaining c.args.reader.now) out in
    let after = host_at (g.F.ImageFiles.held c.put_input.new.files) (g.R.Read.remaining c.put_input.new.reader) out in
    subst (λ (b : Bool). StreamEnds b c.args.order.path.now c.args.name.now (ReadsClaimed g.F.ImageFiles.claims g.F.ImageFiles.reads c.args.name.now) before c.put_input.result after)
    (sym c.if-wants_folder.false ∙ c.wants_folder.ensures) (c.put_input.ensures.ends out, c.put_input.ensures.others, refl)
