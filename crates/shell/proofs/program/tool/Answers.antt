use Rattle.std.proofs.Common.{List, ℕ, Ok, Err, inl, inr, refl, map, string_bytes}
use Rattle.clap.specs.Words.{fault_of}
use Rattle.command_words.specs.Grammar.{uffs}
use Rattle.command_line.specs.Jobs.{AsksFor}
use Rattle.command_line.specs.declared.tasks.Job.{Job}
use Rattle.host_interface.specs.Files.{ReadsClaimed, ReadsBeside}
use Rattle.image_jobs.specs.Images.{host_at}
use Rattle.shell.specs.Tools.{known_by}
use Rattle.shell.proofs.ToolLemmas.{refused_why, memory_ends}
use Rattle.shell.proofs.program.tool.Goals as goal

pub returns-in-Err-clause-ends : goal.returns-in-Err-clause-ends
returns-in-Err-clause-ends g c =
    let words : List (List ℕ) = map string_bytes c.args.words.now in
    inr (refused_why ((job : Job) → AsksFor words job → ⊥) (fault_of uffs words) c.in-Err.error c.refuse.result c.in-Err.ensures.refused c.refuse.ensures, refl, refl, refl)

pub returns-in-Err-clause-memory : goal.returns-in-Err-clause-memory
returns-in-Err-clause-memory g c =
    let before = host_at (g.F.ImageFiles.held c.args.files.now) (g.R.Read.remaining c.args.reader.now) (g.W.Write.contents c.args.out.now) in
    memory_ends (map string_bytes c.args.words.now) (known_by (ReadsClaimed g.F.ImageFiles.claims g.F.ImageFiles.reads) (ReadsBeside g.F.ImageFiles.claims g.F.ImageFiles.reads_source) (g.F.Sources.gathered c.args.files.now) (g.F.Channels.written c.args.files.now) (g.F.Parts.placed c.args.files.now)) before c.refuse.result before
    (returns-in-Err-clause-ends g c)

pub returns-in-Ok-carry_out-clause-memory : goal.returns-in-Ok-carry_out-clause-memory
returns-in-Ok-carry_out-clause-memory g c =
    let before = host_at (g.F.ImageFiles.held c.args.files.now) (g.R.Read.remaining c.args.reader.now) (g.W.Write.contents c.args.out.now) in
    let after = host_at (g.F.ImageFiles.held c.carry_out.new.files) (g.R.Read.remaining c.carry_out.new.reader) (g.W.Write.contents c.carry_out.new.out) in
    memory_ends (map string_bytes c.args.words.now) (known_by (ReadsClaimed g.F.ImageFiles.claims g.F.ImageFiles.reads) (ReadsBeside g.F.ImageFiles.claims g.F.ImageFiles.reads_source) (g.F.Sources.gathered c.args.files.now) (g.F.Channels.written c.args.files.now) (g.F.Parts.placed c.args.files.now)) before 0 after
    (inl (c.in-Ok.job, Ok tt, c.in-Ok.ensures.given, c.in-Ok-carry_out.ensures, refl))

pub returns-in-Err-carry_out-clause-memory : goal.returns-in-Err-carry_out-clause-memory
returns-in-Err-carry_out-clause-memory g c =
    let before = host_at (g.F.ImageFiles.held c.args.files.now) (g.R.Read.remaining c.args.reader.now) (g.W.Write.contents c.args.out.now) in
    let after = host_at (g.F.ImageFiles.held c.carry_out.new.files) (g.R.Read.remaining c.carry_out.new.reader) (g.W.Write.contents c.carry_out.new.out) in
    memory_ends (map string_bytes c.args.words.now) (known_by (ReadsClaimed g.F.ImageFiles.claims g.F.ImageFiles.reads) (ReadsBeside g.F.ImageFiles.claims g.F.ImageFiles.reads_source) (g.F.Sources.gathered c.args.files.now) (g.F.Channels.written c.args.files.now) (g.F.Parts.placed c.args.files.now)) before c.status.result after
    (inl (c.in-Ok.job, Err c.in-Err-carry_out.failure, c.in-Ok.ensures.given, c.in-Err-carry_out.ensures, c.status.ensures))
