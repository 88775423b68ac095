use Rattle.std.proofs.Common.{◌≡◌, List, ℕ, string_bytes, subst, sym}
use Rattle.fs_types.specs.Names.{Path}
use Rattle.host_interface.specs.Files.{AreBytesRead, readings_of}
use Rattle.put_jobs.specs.Puts.{IsThing}
use Rattle.host_interface.specs.Sources.{source_found}
use Rattle.put_lots.specs.declared.thing.Thing.{Thing}
use Rattle.put_jobs.proofs.PutLemmas.{file_thing, folder_thing}
use Rattle.put_jobs.proofs.thing.thing_of.Goals as goal

pub returns-in-Folder-clause-ok : goal.returns-in-Folder-clause-ok
returns-in-Folder-clause-ok g c =
    let found = source_found c.args.source.now in
    let readings = readings_of (g.F.ImageFiles.held c.args.files.now) (g.F.ImageFiles.reads_source c.args.files.now) in
    subst (λ (path : Path). IsThing readings c.args.base.now found (Thing.Directory path)) (sym c.in-Ok.ensures.ok)
    (folder_thing readings c.args.base.now found c.in-Ok.ensures.lawful c.in-Folder.is)

pub returns-in-Ok-read_source-clause-ok : goal.returns-in-Ok-read_source-clause-ok
returns-in-Ok-read_source-clause-ok g c =
    let held = g.F.ImageFiles.held c.args.files.now in
    let gives = g.F.ImageFiles.reads_source c.args.files.now in
    let readings = readings_of held gives in
    let found = source_found c.args.source.now in
    let bytes = c.from_vec.result in
    let name : c.deref.result.now ≡ string_bytes c.args.source.now.name = cc in
    let same : c.in-Ok-read_source.bytes.items ≡ bytes = cc in
    let front : AreBytesRead (held found.name) c.in-Ok-read_source.bytes.items = subst (λ (x : List ℕ). AreBytesRead (held x) c.in-Ok-read_source.bytes.items) name c.in-Ok-read_source.ensures.ok in
    let given : gives found.name c.in-Ok-read_source.bytes.items = subst (λ (x : List ℕ). gives x c.in-Ok-read_source.bytes.items) name c.in-Ok-read_source.ensures.now in
    subst (λ (path : Path). IsThing readings c.args.base.now found (Thing.File path bytes)) (sym c.in-Ok.ensures.ok)
    (file_thing readings c.args.base.now found bytes c.in-Ok.ensures.lawful c.in_default.not-Folder (subst (AreBytesRead (held found.name)) same front) (subst (gives found.name) same given))
