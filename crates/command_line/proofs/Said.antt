-- What the matches of a subcommand say.
use Rattle.std.proofs.Common.{◌≡◌, ◌∙◌, Option, Some, None, List, codes, option_map, sym, subst}
use Rattle.std.specs.Box.{box_value}
use Rattle.clap.specs.Words.{Row, Text, found_of, rows_of, subcommand_name_of, subcommand_rows_of}
use Rattle.clap.specs.declared.parser.matches.ArgMatches.{ArgMatches}
use Rattle.clap.specs.declared.parser.matches.ArgMatches.TheViews.{out-ArgMatches, out-SubCommand}
use Rattle.clap.specs.Walk.{first_of}
use Rattle.command_line.specs.Jobs.{AreNumbersOf, IsImageOf, IsJobOf, SaysJob, task_asked, word_text}
use Rattle.command_line.specs.declared.tasks.Job.{Job}
use Rattle.command_line.specs.declared.tasks.Task.{Task}
use Rattle.command_line.specs.declared.words.Numbers.{Numbers}

both : {B : Type 0} (f : B → Text) (g : B → List Row) (o : Option B) (name : Text) (rows : List Row) → Some name ≡ option_map f o
    → Some rows ≡ option_map (λ (p : Text × List Row). p.1) (option_map {U = Text × List Row} (λ b. (f b, g b)) o) → option_map {U = Text × List Row} (λ b. (f b, g b)) o ≡ Some (name, rows)
both f g (Some b) name rows e d = cc
both f g None name rows e d = absurd cc

-- the subcommand that was found, with its rows
rows_said : (m : ArgMatches) (name : Text) (rows : List Row) → Some name ≡ subcommand_name_of m → Some rows ≡ option_map (λ (p : Text × List Row). p.1) (subcommand_rows_of m)
    → subcommand_rows_of m ≡ Some (name, rows)
rows_said m name rows e d =
    both (λ b. (out-SubCommand (box_value b)).name.now) (λ b. rows_of (found_of (out-SubCommand (box_value b)).matches)) (out-ArgMatches m).subcommand name rows e d

-- the numbers of a job
abbrev numbers_in : Job → Numbers
numbers_in job = record { page = job.page; pages = job.pages; blocks = job.blocks; history = job.history; count = job.count }

-- no job is said where the options give no numbers
pub none_said : (m : ArgMatches) (name : Text) (rows : List Row) (command : Task) → Some name ≡ subcommand_name_of m → Some rows ≡ option_map (λ (p : Text × List Row). p.1) (subcommand_rows_of m)
    → task_asked name rows ≡ Some command → ((numbers : Numbers) → AreNumbersOf command rows numbers → ⊥) → (job : Job) → SaysJob (subcommand_rows_of m) job → ⊥
none_said m name rows command e d named none job says =
    let is : IsJobOf name rows job = subst (λ o. SaysJob o job) (rows_said m name rows e d) says in
    let same : Some job.command ≡ Some command = sym is.command ∙ named in
    let one : job.command ≡ command = cc in
    none (numbers_in job) (subst (λ (task : Task). AreNumbersOf task rows (numbers_in job)) one (record { page = is.page; pages = is.pages; blocks = is.blocks; history = is.history; count = is.count }))

-- a job is said where it is what the subcommand says
pub job_said : (m : ArgMatches) (name : Text) (rows : List Row) (job : Job) → Some name ≡ subcommand_name_of m → Some rows ≡ option_map (λ (p : Text × List Row). p.1) (subcommand_rows_of m)
    → IsJobOf name rows job → SaysJob (subcommand_rows_of m) job
job_said m name rows job e d is = subst (λ o. SaysJob o job) (sym (rows_said m name rows e d)) is

-- no job is said where the task has an image and the words name none
pub image_unsaid : (m : ArgMatches) (name : Text) (rows : List Row) (command : Task) → Some name ≡ subcommand_name_of m
    → Some rows ≡ option_map (λ (p : Text × List Row). p.1) (subcommand_rows_of m) → task_asked name rows ≡ Some command
    → ((image : Option Text) → IsImageOf command (first_of (codes "IMAGE") rows) image → ⊥) → (job : Job) → SaysJob (subcommand_rows_of m) job → ⊥
image_unsaid m name rows command e d named none job says =
    let is : IsJobOf name rows job = subst (λ o. SaysJob o job) (rows_said m name rows e d) says in
    let same : Some job.command ≡ Some command = sym is.command ∙ named in
    let one : job.command ≡ command = cc in
    none (word_text job.image) (subst (λ (task : Task). IsImageOf task (first_of (codes "IMAGE") rows) (word_text job.image)) one is.image)
