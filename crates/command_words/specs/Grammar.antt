-- The words of the program as they are read: its subcommands and their arguments.
use Rattle.std.specs.Prelude.{Bool, true, false, Some, pos, codes}
use Rattle.clap.specs.Words.{App, Rule, Shape, Text, new_app, new_rule, with_rule, with_subcommand}
use Rattle.clap.specs.declared.builder.action.ArgAction.{ArgAction}
use Rattle.clap.specs.declared.builder.value_parser.ValueParser.{ValueParser}

-- a word that has to be given
abbrev pub word_rule : Text → Rule
word_rule name = record (new_rule name) { required = true; action = Some ArgAction.Set }

-- a word that has to be given, told under another name
abbrev pub shown_rule : Text → Rule
shown_rule name = record (new_rule name) { value_names = 1; required = true; action = Some ArgAction.Set }

-- a word that may be left out
abbrev pub optional_rule : Text → Rule
optional_rule name = record (new_rule name) { action = Some ArgAction.Set }

-- an option `--NAME NUMBER`, of a number of 32 bits
abbrev pub number_rule : Text → Rule
number_rule name = record (new_rule name) { long = Some name; value_names = 1; action = Some ArgAction.Set; parser = Some (ValueParser.Signed (pos 0) (pos 4294967295)) }

-- an option `--NAME WORD`
abbrev pub named_rule : Text → Rule
named_rule name = record (new_rule name) { long = Some name; value_names = 1; action = Some ArgAction.Set }

-- a flag `--NAME`
abbrev pub flag_rule : Text → Rule
flag_rule name = record (new_rule name) { long = Some name; action = Some ArgAction.SetTrue }

-- how many, by itself, which may have to be given
abbrev pub count_rule : Bool → Rule
count_rule is_required = record (new_rule (codes "N")) { required = is_required; action = Some ArgAction.Set; parser = Some (ValueParser.Signed (pos 0) (pos 4294967295)) }

-- a subcommand that takes an image
abbrev pub image_app : Text → App
image_app name = with_rule (new_app name) (word_rule (codes "IMAGE"))

-- what is formatted: an image, or a part in a flat file
abbrev pub formatted_app : App
formatted_app = with_rule (with_rule (new_app (codes "format")) (optional_rule (codes "IMAGE"))) (named_rule (codes "part"))

-- a subcommand with the sizes of a block
abbrev pub with_block_rules : App → App
with_block_rules app = with_rule (with_rule app (number_rule (codes "page"))) (number_rule (codes "pages"))

abbrev pub format_app : App
format_app = with_rule (with_rule (with_block_rules formatted_app) (number_rule (codes "blocks"))) (number_rule (codes "history"))

abbrev pub run_app : App
run_app = with_rule (image_app (codes "run")) (flag_rule (codes "stop"))

abbrev pub put_app : App
put_app = with_rule (with_rule (with_rule (with_rule (with_rule (image_app (codes "put")) (word_rule (codes "FILE"))) (word_rule (codes "PATH"))) (flag_rule (codes "progress"))) (flag_rule (codes "mirror"))) (flag_rule (codes "skip-links"))

-- steps in the history of an image, one where no word says how many
abbrev pub steps_app : Text → App
steps_app name = with_rule (image_app name) (count_rule false)

-- a call for a checkpoint of an image
abbrev pub checkpoint_app : Text → App
checkpoint_app name = with_rule (image_app name) (word_rule (codes "NAME"))

-- a version of an image is gone to
abbrev pub goto_app : App
goto_app = with_rule (image_app (codes "goto")) (word_rule (codes "SERIAL"))

abbrev pub forget_app : App
forget_app = with_rule (with_rule (image_app (codes "forget")) (count_rule false)) (number_rule (codes "free"))

abbrev pub get_app : App
get_app = with_rule (with_rule (with_rule (image_app (codes "get")) (word_rule (codes "PATH"))) (word_rule (codes "FILE"))) (optional_rule (codes "VIEW"))

abbrev pub cat_app : App
cat_app = with_rule (with_rule (image_app (codes "cat")) (word_rule (codes "PATH"))) (optional_rule (codes "VIEW"))

abbrev pub tree_app : App
tree_app = with_rule (image_app (codes "tree")) (optional_rule (codes "VIEW"))

abbrev pub ls_app : App
ls_app = with_rule (with_rule (image_app (codes "ls")) (optional_rule (codes "PATH"))) (optional_rule (codes "VIEW"))

abbrev pub du_app : App
du_app = with_rule (with_rule (image_app (codes "du")) (optional_rule (codes "PATH"))) (optional_rule (codes "VIEW"))

abbrev pub history_app : App
history_app = with_rule (image_app (codes "history")) (word_rule (codes "PATH"))

abbrev pub diff_app : App
diff_app = with_rule (with_rule (with_rule (image_app (codes "diff")) (optional_rule (codes "VIEW"))) (optional_rule (codes "OTHER"))) (flag_rule (codes "exit-code"))

-- the option `--html FILE`, of the file of a page
abbrev pub html_rule : Rule
html_rule = record (new_rule (codes "FILE")) { long = Some (codes "html"); value_names = 1; action = Some ArgAction.Set }

abbrev pub map_app : App
map_app = with_rule (image_app (codes "map")) html_rule

-- a live file system on a part, whose driver is at the other end of two streams, or which stands in a flat file
abbrev pub serve_app : App
serve_app = with_rule (with_rule (with_rule (with_rule (new_app (codes "serve")) (optional_rule (codes "ANSWERS"))) (optional_rule (codes "ORDERS"))) (named_rule (codes "part"))) (number_rule (codes "history"))

-- an image as a part in a flat file, and back
abbrev pub to_part_app : App
to_part_app = with_rule (image_app (codes "to-part")) (word_rule (codes "FILE"))

abbrev pub from_part_app : App
from_part_app = with_rule (with_rule (new_app (codes "from-part")) (word_rule (codes "FILE"))) (word_rule (codes "IMAGE"))

-- an image as the bytes of a serial NOR part, and back, with the sizes of its pages and blocks, and how many of these
abbrev pub raw_app : App
raw_app = with_rule (image_app (codes "raw")) (word_rule (codes "FILE"))

abbrev pub from_raw_app : App
from_raw_app =
    with_rule (with_rule (with_rule (with_rule (with_rule (new_app (codes "from-raw")) (word_rule (codes "FILE"))) (word_rule (codes "IMAGE"))) (number_rule (codes "page"))) (number_rule (codes "pages")))
    (number_rule (codes "blocks"))

-- two images, of which the second has the new tree; and with the flag
abbrev pub updated_app : App
updated_app = with_rule (with_rule (new_app (codes "update")) (shown_rule (codes "IMAGE"))) (shown_rule (codes "FILE"))

abbrev pub update_app : App
update_app = with_rule updated_app (flag_rule (codes "changes"))

-- an image of a folder, before its flags, and with them
abbrev pub sized_app : App
sized_app = with_rule (with_rule (with_block_rules (with_rule (image_app (codes "create")) (shown_rule (codes "FILE")))) (number_rule (codes "blocks"))) (number_rule (codes "history"))

abbrev pub create_app : App
create_app = with_rule (with_rule sized_app (flag_rule (codes "progress"))) (flag_rule (codes "skip-links"))

-- two images, of which the second is to have the history of the first; with its sizes, and with its flag
abbrev pub copied_app : App
copied_app = with_rule (with_rule (new_app (codes "copy")) (shown_rule (codes "IMAGE"))) (shown_rule (codes "FILE"))

abbrev pub with_size_rules : App → App
with_size_rules app = with_rule (with_rule (with_block_rules app) (number_rule (codes "blocks"))) (number_rule (codes "history"))

abbrev pub copy_app : App
copy_app = with_rule (with_size_rules copied_app) (flag_rule (codes "salvage"))

-- an archive of what stands in an image, and one that is put into an image
abbrev pub tar_app : App
tar_app = with_rule (image_app (codes "tar")) (optional_rule (codes "VIEW"))

abbrev pub untar_app : App
untar_app = with_rule (with_rule (image_app (codes "untar")) (word_rule (codes "PATH"))) (flag_rule (codes "skip-links"))

abbrev pub explain_app : App
explain_app = with_rule (new_app (codes "explain")) (word_rule (codes "REFUSAL"))

-- what can be asked for, or by one word
abbrev pub help_app : App
help_app = with_rule (new_app (codes "help")) (optional_rule (codes "WORD"))

-- the program before its subcommands: one of them has to be named, by the first word
abbrev pub bare_top : Shape
bare_top = record (new_app (codes "uffs")).top { no_binary_name = true; disable_help_subcommand = true; subcommand_required = true; has_version = true }

abbrev pub bare_app : App
bare_app = record (new_app (codes "uffs")) { top = bare_top }

-- a program with the subcommands more that make or change an image
abbrev pub with_changing_apps : App → App
with_changing_apps app = with_subcommand (with_subcommand (with_subcommand app format_app.top) run_app.top) put_app.top

-- a program with the subcommands more that step in the history of an image; with those more for its checkpoints; and with all
-- that change its history
abbrev pub with_step_apps : App → App
with_step_apps app = with_subcommand (with_subcommand (with_subcommand app (steps_app (codes "undo")).top) (steps_app (codes "redo")).top) goto_app.top

abbrev pub with_checkpoint_apps : App → App
with_checkpoint_apps app = with_subcommand (with_subcommand (with_subcommand app
    (checkpoint_app (codes "rollback")).top) (checkpoint_app (codes "checkpoint")).top) (checkpoint_app (codes "rmcheckpoint")).top

abbrev pub with_history_apps : App → App
with_history_apps app = with_subcommand (with_subcommand (with_checkpoint_apps (with_step_apps app)) forget_app.top) (image_app (codes "trim")).top

-- a program with the subcommands more that read what stands in an image
abbrev pub with_reading_apps : App → App
with_reading_apps app = with_subcommand (with_subcommand (with_subcommand (with_subcommand (with_subcommand (with_subcommand (with_subcommand app
    get_app.top) cat_app.top) tree_app.top) ls_app.top) du_app.top) history_app.top) diff_app.top

-- a program with the subcommands more that tell of an image as a whole
abbrev pub with_image_apps : App → App
with_image_apps app = with_subcommand (with_subcommand (with_subcommand (with_subcommand (with_subcommand app
    (image_app (codes "versions")).top) (image_app (codes "check")).top) (image_app (codes "log")).top) (image_app (codes "df")).top) map_app.top

-- a program with the subcommands more that make a part of an image, and back
abbrev pub with_part_apps : App → App
with_part_apps app = with_subcommand (with_subcommand app to_part_app.top) from_part_app.top

-- a program with the subcommands more that make the bytes of a serial NOR part of an image, and back
abbrev pub with_raw_apps : App → App
with_raw_apps app = with_subcommand (with_subcommand app raw_app.top) from_raw_app.top

-- a program with the subcommand more that makes an update
abbrev pub with_update_apps : App → App
with_update_apps app = with_subcommand app update_app.top

-- a program with the subcommands more for archives
abbrev pub with_archive_apps : App → App
with_archive_apps app = with_subcommand (with_subcommand app tar_app.top) untar_app.top

-- a program with the subcommands more on a flash in memory, on one of a driver, on parts in flat files and on serial NOR parts
abbrev pub with_form_apps : App → App
with_form_apps app = with_raw_apps (with_part_apps (with_subcommand (with_subcommand app (new_app (codes "memory")).top) serve_app.top))

-- a program with the subcommands more that bring trees from one place to another
abbrev pub with_tree_apps : App → App
with_tree_apps app = with_subcommand (with_subcommand (with_archive_apps (with_update_apps app)) create_app.top) copy_app.top

-- a program with the subcommands more that tell of the program itself
abbrev pub with_about_apps : App → App
with_about_apps app = with_subcommand (with_subcommand (with_subcommand app explain_app.top) help_app.top) (new_app (codes "version")).top

-- the program
abbrev pub uffs : App
uffs = with_about_apps (with_tree_apps (with_form_apps (with_image_apps (with_reading_apps (with_history_apps (with_changing_apps bare_app))))))
