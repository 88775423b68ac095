use Rattle.std.proofs.Common.{◌∙◌, sym}
use Rattle.clap.specs.Words.{found_of, rows_of}
use Rattle.command_line.proofs.Said.{image_unsaid, none_said, job_said}
use Rattle.command_line.proofs.words.said.Goals as goal

pub returns-in_err-image-clause-none : goal.returns-in_err-image-clause-none
returns-in_err-image-clause-none c =
    rw c.from_residual-in_err-image.ensures (image_unsaid c.args.matches.now c.in_ok-name.name.now (rows_of (found_of c.in_ok-name.given.now)) c.in_ok-command.command c.in_ok-name.ensures.name c.in_ok-name.ensures.rows
    (sym c.task_asked.ensures ∙ c.in_ok-command.was) c.in_err-image.ensures.none)

pub returns-in_err-numbers-clause-none : goal.returns-in_err-numbers-clause-none
returns-in_err-numbers-clause-none c =
    rw c.from_residual-in_err-numbers.ensures (none_said c.args.matches.now c.in_ok-name.name.now (rows_of (found_of c.in_ok-name.given.now)) c.in_ok-command.command c.in_ok-name.ensures.name c.in_ok-name.ensures.rows
    (sym c.task_asked.ensures ∙ c.in_ok-command.was) c.in_err-numbers.ensures.none)

pub returns-clause-some : goal.returns-clause-some
returns-clause-some c =
    let numbers = c.in_ok-numbers.ensures.some in
    job_said c.args.matches.now c.in_ok-name.name.now (rows_of (found_of c.in_ok-name.given.now)) _ c.in_ok-name.ensures.name c.in_ok-name.ensures.rows (record {
      command = sym c.task_asked.ensures ∙ c.in_ok-command.was;
      image = c.in_ok-image.ensures.some;
      page = numbers.page;
      pages = numbers.pages;
      blocks = numbers.blocks;
      history = numbers.history;
      count = numbers.count;
      refusal = c.word.ensures;
      checkpoint = c.word-2.ensures;
      is_page_given = c.is_given.ensures;
      is_pages_given = c.is_given-2.ensures;
      is_blocks_given = c.is_given-3.ensures;
      is_history_given = c.is_given-4.ensures;
      answers = c.word-3.ensures;
      orders = c.word-4.ensures;
      part = c.word-5.ensures;
      exit_code = c.has_flag.ensures;
      stop = c.has_flag-2.ensures;
      path = c.word-6.ensures;
      file = c.word-7.ensures;
      view = c.word-8.ensures;
      other = c.word-9.ensures;
      serial = c.word-10.ensures;
      word = c.word-11.ensures;
      progress = c.has_flag-3.ensures;
      mirror = c.has_flag-4.ensures;
      skip_links = c.has_flag-5.ensures;
      salvage = c.has_flag-6.ensures;
      changes = c.has_flag-7.ensures;
    })
