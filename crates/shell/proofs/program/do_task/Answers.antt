use Rattle.std.proofs.Common.{Bool, ◌≡◌, List, ℕ, Result, refl, sym, subst}
use Rattle.host_interface.specs.Files.{KeepsOthers, ReadsClaimed, ReadsBeside}
use Rattle.image_jobs.specs.Images.{Host, host_at}
use Rattle.image_jobs.specs.declared.failure.Failure.{Failure}
use Rattle.command_line.specs.declared.tasks.Job.{Job}
use Rattle.command_line.specs.declared.tasks.Task.{Task}
use Rattle.image_words.specs.Maps.{MapPageEnds}
use Rattle.image_words.specs.PartFiles.{ToPartEnds, FromPartEnds}
use Rattle.image_words.specs.RawImages.{RawEnds, FromRawEnds}
use Rattle.image_words.specs.declared.raw_sizes.RawSizes.{RawSizes}
use Rattle.archive_jobs.specs.Untars.{UntarEnds}
use Rattle.shell.proofs.PutFromLemmas.{put_by}
use Rattle.shell.specs.Tools.{EndsOn, Known, known_by, image_asked, word_given}
use Rattle.image_words.specs.Creations.{CreateEnds}
use Rattle.image_words.specs.declared.creation.NewImage.{NewImage}
use Rattle.shell.proofs.program.do_task.Goals as goal

-- a job ends by the task that it has
by_task : (task : Task) (job : Job) (name : List ℕ) (known : Known) (before : Host) (result : Result (Unit {0}) Failure) (after : Host)
    → job.command ≡ task → EndsOn (record job { command = task }) name known before result after → EndsOn job name known before result after
by_task task job name known before result after is ends = subst (λ (t : Task). EndsOn (record job { command = t }) name known before result after) (sym is) ends

pub returns-in-ToPart : goal.returns-in-ToPart
returns-in-ToPart g c =
    let old = g.F.ImageFiles.held c.args.files.now in
    let new = g.F.ImageFiles.held c.image_to_part.new.files in
    let input = g.R.Read.remaining c.args.reader.now in
    let out = g.W.Write.contents c.args.out.now in
    let known = known_by (ReadsClaimed g.F.ImageFiles.claims g.F.ImageFiles.reads) (ReadsBeside g.F.ImageFiles.claims g.F.ImageFiles.reads_source) (g.F.Sources.gathered c.args.files.now) (g.F.Channels.written c.args.files.now) (g.F.Parts.placed c.args.files.now) in
    let ends = subst (λ (file : List ℕ). ToPartEnds c.args.name.now file old new c.image_to_part.result) c.word_given-in-ToPart.ensures c.image_to_part.ensures.ends in
    let others = subst (λ (file : List ℕ). KeepsOthers file old new) c.word_given-in-ToPart.ensures c.image_to_part.ensures.others in
    by_task Task.ToPart c.args.job c.args.name.now known (host_at old input out) c.image_to_part.result (host_at new input out) c.in-ToPart.is (ends, others, record { unread = refl; unprinted = refl })

pub returns-in-FromPart : goal.returns-in-FromPart
returns-in-FromPart g c =
    let old = g.F.ImageFiles.held c.args.files.now in
    let new = g.F.ImageFiles.held c.part_to_image.new.files in
    let input = g.R.Read.remaining c.args.reader.now in
    let out = g.W.Write.contents c.args.out.now in
    let known = known_by (ReadsClaimed g.F.ImageFiles.claims g.F.ImageFiles.reads) (ReadsBeside g.F.ImageFiles.claims g.F.ImageFiles.reads_source) (g.F.Sources.gathered c.args.files.now) (g.F.Channels.written c.args.files.now) (g.F.Parts.placed c.args.files.now) in
    let ends = subst (λ (part : List ℕ). FromPartEnds part c.args.name.now (g.F.Parts.placed c.args.files.now part) old new c.part_to_image.result) c.word_given-in-FromPart.ensures c.part_to_image.ensures.ends in
    by_task Task.FromPart c.args.job c.args.name.now known (host_at old input out) c.part_to_image.result (host_at new input out) c.in-FromPart.is (ends, c.part_to_image.ensures.others, record { unread = refl; unprinted = refl })

pub returns-in-Put : goal.returns-in-Put
returns-in-Put g c =
    let old = g.F.ImageFiles.held c.args.files.now in
    let new = g.F.ImageFiles.held c.put_from.new.files in
    let out = g.W.Write.contents c.args.out.now in
    let before = host_at old (g.R.Read.remaining c.args.reader.now) out in
    let after = host_at new (g.R.Read.remaining c.put_from.new.reader) out in
    let known = known_by (ReadsClaimed g.F.ImageFiles.claims g.F.ImageFiles.reads) (ReadsBeside g.F.ImageFiles.claims g.F.ImageFiles.reads_source) (g.F.Sources.gathered c.args.files.now) (g.F.Channels.written c.args.files.now) (g.F.Parts.placed c.args.files.now) in
    let ends = put_by c.args.job c.order_of.result c.args.name.now known before c.put_from.result after c.order_of.ensures.file c.order_of.ensures.path c.order_of.ensures.mirror c.order_of.ensures.skips (c.put_from.ensures out) in
    by_task Task.Put c.args.job c.args.name.now known before c.put_from.result after c.in-Put.is ends

pub returns-in-ToRaw : goal.returns-in-ToRaw
returns-in-ToRaw g c =
    let old = g.F.ImageFiles.held c.args.files.now in
    let new = g.F.ImageFiles.held c.image_to_raw.new.files in
    let input = g.R.Read.remaining c.args.reader.now in
    let out = g.W.Write.contents c.args.out.now in
    let known = known_by (ReadsClaimed g.F.ImageFiles.claims g.F.ImageFiles.reads) (ReadsBeside g.F.ImageFiles.claims g.F.ImageFiles.reads_source) (g.F.Sources.gathered c.args.files.now) (g.F.Channels.written c.args.files.now) (g.F.Parts.placed c.args.files.now) in
    let ends = subst (λ (file : List ℕ). RawEnds c.args.name.now file old new c.image_to_raw.result) c.word_given-in-ToRaw.ensures c.image_to_raw.ensures.ends in
    let others = subst (λ (file : List ℕ). KeepsOthers file old new) c.word_given-in-ToRaw.ensures c.image_to_raw.ensures.others in
    by_task Task.ToRaw c.args.job c.args.name.now known (host_at old input out) c.image_to_raw.result (host_at new input out) c.in-ToRaw.is (ends, others, record { unread = refl; unprinted = refl })

pub returns-in-FromRaw : goal.returns-in-FromRaw
returns-in-FromRaw g c =
    let old = g.F.ImageFiles.held c.args.files.now in
    let new = g.F.ImageFiles.held c.raw_to_image.new.files in
    let input = g.R.Read.remaining c.args.reader.now in
    let out = g.W.Write.contents c.args.out.now in
    let known = known_by (ReadsClaimed g.F.ImageFiles.claims g.F.ImageFiles.reads) (ReadsBeside g.F.ImageFiles.claims g.F.ImageFiles.reads_source) (g.F.Sources.gathered c.args.files.now) (g.F.Channels.written c.args.files.now) (g.F.Parts.placed c.args.files.now) in
    let at_file = subst (λ (raw : List ℕ). FromRawEnds c.raw_asked.result raw c.args.name.now old new c.raw_to_image.result) c.word_given-in-FromRaw.ensures c.raw_to_image.ensures.ends in
    let ends = subst (λ (sizes : RawSizes). FromRawEnds sizes (word_given c.args.job.file) c.args.name.now old new c.raw_to_image.result) c.raw_asked.ensures at_file in
    by_task Task.FromRaw c.args.job c.args.name.now known (host_at old input out) c.raw_to_image.result (host_at new input out) c.in-FromRaw.is (ends, c.raw_to_image.ensures.others, record { unread = refl; unprinted = refl })

pub returns-in-MapPage : goal.returns-in-MapPage
returns-in-MapPage g c =
    let old = g.F.ImageFiles.held c.args.files.now in
    let new = g.F.ImageFiles.held c.save_map_page.new.files in
    let input = g.R.Read.remaining c.args.reader.now in
    let out = g.W.Write.contents c.args.out.now in
    let known = known_by (ReadsClaimed g.F.ImageFiles.claims g.F.ImageFiles.reads) (ReadsBeside g.F.ImageFiles.claims g.F.ImageFiles.reads_source) (g.F.Sources.gathered c.args.files.now) (g.F.Channels.written c.args.files.now) (g.F.Parts.placed c.args.files.now) in
    let ends = subst (λ (file : List ℕ). MapPageEnds c.args.name.now file old new c.save_map_page.result) c.word_given-in-MapPage.ensures c.save_map_page.ensures.ends in
    let others = subst (λ (file : List ℕ). KeepsOthers file old new) c.word_given-in-MapPage.ensures c.save_map_page.ensures.others in
    by_task Task.MapPage c.args.job c.args.name.now known (host_at old input out) c.save_map_page.result (host_at new input out) c.in-MapPage.is (ends, others, record { unread = refl; unprinted = refl })

pub returns-in-Untar : goal.returns-in-Untar
returns-in-Untar g c =
    let old = g.F.ImageFiles.held c.args.files.now in
    let new = g.F.ImageFiles.held c.put_archive.new.files in
    let out = g.W.Write.contents c.args.out.now in
    let before = host_at old (g.R.Read.remaining c.args.reader.now) out in
    let after = host_at new (g.R.Read.remaining c.put_archive.new.reader) out in
    let known = known_by (ReadsClaimed g.F.ImageFiles.claims g.F.ImageFiles.reads) (ReadsBeside g.F.ImageFiles.claims g.F.ImageFiles.reads_source) (g.F.Sources.gathered c.args.files.now) (g.F.Channels.written c.args.files.now) (g.F.Parts.placed c.args.files.now) in
    let ends = subst (λ (path : List ℕ). UntarEnds c.args.job.skip_links c.args.name.now path (ReadsClaimed g.F.ImageFiles.claims g.F.ImageFiles.reads c.args.name.now) before c.put_archive.result after) c.word_given-path.ensures (c.put_archive.ensures.ends out) in
    by_task Task.Untar c.args.job c.args.name.now known before c.put_archive.result after c.in-Untar.is (ends, c.put_archive.ensures.others, refl)

pub returns-in-Create : goal.returns-in-Create
returns-in-Create g c =
    let old = g.F.ImageFiles.held c.args.files.now in
    let new = g.F.ImageFiles.held c.create_image.new.files in
    let input = g.R.Read.remaining c.args.reader.now in
    let out = g.W.Write.contents c.args.out.now in
    let job = c.args.job in
    let name = c.args.name.now in
    let made = c.creation_of.result in
    let known = known_by (ReadsClaimed g.F.ImageFiles.claims g.F.ImageFiles.reads) (ReadsBeside g.F.ImageFiles.claims g.F.ImageFiles.reads_source) (g.F.Sources.gathered c.args.files.now) (g.F.Channels.written c.args.files.now) (g.F.Parts.placed c.args.files.now) in
    let asked = subst (λ (image : NewImage). CreateEnds image made.skip_links name (ReadsBeside g.F.ImageFiles.claims g.F.ImageFiles.reads_source name) old new (g.F.Sources.gathered c.args.files.now made.folder.now name) c.create_image.result) c.creation_of.ensures.image c.create_image.ensures.ends in
    let skips = subst (λ (skips : Bool). CreateEnds (image_asked job) skips name (ReadsBeside g.F.ImageFiles.claims g.F.ImageFiles.reads_source name) old new (g.F.Sources.gathered c.args.files.now made.folder.now name) c.create_image.result) c.creation_of.ensures.skips asked in
    let ends = subst (λ (folder : List ℕ). CreateEnds (image_asked job) job.skip_links name (ReadsBeside g.F.ImageFiles.claims g.F.ImageFiles.reads_source name) old new (g.F.Sources.gathered c.args.files.now folder name) c.create_image.result) c.creation_of.ensures.folder skips in
    by_task Task.Create job name known (host_at old input out) c.create_image.result (host_at new input out) c.in-Create.is (ends, c.create_image.ensures.others, record { unread = refl; unprinted = refl })

pub returns-in-Copy : goal.returns-in-Copy
returns-in-Copy g c =
    let old = g.F.ImageFiles.held c.args.files.now in
    let new = g.F.ImageFiles.held c.copy_to.new.files in
    let input = g.R.Read.remaining c.args.reader.now in
    let out = g.W.Write.contents c.args.out.now in
    let known = known_by (ReadsClaimed g.F.ImageFiles.claims g.F.ImageFiles.reads) (ReadsBeside g.F.ImageFiles.claims g.F.ImageFiles.reads_source) (g.F.Sources.gathered c.args.files.now) (g.F.Channels.written c.args.files.now) (g.F.Parts.placed c.args.files.now) in
    by_task Task.Copy c.args.job c.args.name.now known (host_at old input out) c.copy_to.result (host_at new input out) c.in-Copy.is (c.copy_to.ensures.ends, c.copy_to.ensures.others, record { unread = refl; unprinted = refl })
