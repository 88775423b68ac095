use Rattle.std.proofs.Common.{◌≡◌, ◌∙◌, List, inl, inr, refl, sym, ap, subst, vec_len}
use Rattle.fs_types.specs.Names.{Path}
use Rattle.fs_types.specs.declared.event.Event.{Event}
use Rattle.host_interface.specs.Files.{ReadsClaimed}
use Rattle.put_jobs.specs.Groups.{EventsEnd}
use Rattle.put_jobs.specs.Inputs.{written, writes_left}
use Rattle.put_jobs.proofs.GivesLemmas.{known_ends}
use Rattle.put_jobs.proofs.InputLemmas.{input_put}
use Rattle.put_jobs.proofs.put_of_input.put_input.Goals as goal

pub returns-in-Err-clause-ends : goal.returns-in-Err-clause-ends
returns-in-Err-clause-ends g c = λ out. inr (c.in-Err.failure, refl, inl (c.in-Err.ensures.err, refl), refl)

pub returns-in-Err-told_input-clause-ends : goal.returns-in-Err-told_input-clause-ends
returns-in-Err-told_input-clause-ends g c = λ out. inr (c.in-Err-told_input.failure, refl, inr (c.in-Ok.base, c.in-Ok.ensures.ok, c.in-Err-told_input.ensures.err), refl)

pub returns-in-Ok-told_input-clause-ends : goal.returns-in-Ok-told_input-clause-ends
returns-in-Ok-told_input-clause-ends g c =
    let held = g.F.ImageFiles.held c.args.files.now in
    let saved = g.F.ImageFiles.held c.put_into.new.files in
    let claimed = ReadsClaimed g.F.ImageFiles.claims g.F.ImageFiles.reads c.args.name.now in
    let file = c.of-file.result in
    let all : writes_left file.path file.bytes ≡ written c.in-Ok.base c.from_vec.result = ap (writes_left file.path) c.of-file.ensures.bytes ∙ ap (λ (x : Path). written x c.from_vec.result) c.of-file.ensures.path in
    let ends = subst (λ (x : List Event). EventsEnd c.args.name.now claimed x held saved c.put_into.result) all
    (known_ends g.F.ImageFiles.claims g.F.ImageFiles.held g.F.ImageFiles.reads c.args.name.now (writes_left file.path file.bytes) held saved c.put_into.result c.put_into.ensures.ends) in
    λ out.
    inl (input_put c.in-Ok-told_input.bytes.items c.from_vec.result (g.R.Read.remaining c.args.reader.now) (g.R.Read.remaining c.told_input.new.reader) c.args.name.now c.args.word.now
    claimed c.in-Ok.base held saved c.put_into.result c.from_vec.ensures c.in-Ok.ensures.ok
    c.in-Ok-told_input.ensures.ok (vec_len c.in-Ok-told_input.bytes) (sym c.in-Ok-told_input.bytes.ok.0) c.in-Ok-told_input.ensures.short ends)
