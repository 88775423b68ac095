use Rattle.std.proofs.Common.{rules, ◌≡◌, ◌∙◌, [], sym}
use Rattle.std.proofs.lemmas.Result.{IfErr-weaker}
use Rattle.fs_types.specs.declared.call.Call.{Call}
use Rattle.plain_trees.specs.Trees.{bytes_of_file}
use Rattle.history_machine.specs.Machine.{view_tree}
use Rattle.inquiries.specs.Readings.{shown}
use Rattle.inquiries.proofs.Entries.{file_accepted}
use Rattle.inquiries.proofs.ItemLemmas.{empty_file}
use Rattle.inquiries.proofs.Readings.{unchanged-refl, met_only}
use Rattle.inquiries.proofs.reading_calls.read_item.Goals as goal

pub returns-then-not-owns_block-clause-same : goal.returns-then-not-owns_block-clause-same
returns-then-not-owns_block-clause-same g c = unchanged-refl c.args.fs.now

pub returns-then-not-owns_block-clause-ok : goal.returns-then-not-owns_block-clause-ok
returns-then-not-owns_block-clause-ok g c =
    let none : c.from_vec.result ≡ [] = search rules in
    empty_file (shown c.args.fs.now) c.args.view.now c.args.item.now c.from_vec.result c.requires.there c.requires.file (sym c.owns_block.ensures ∙ c.if-not-owns_block.true) none

pub returns-clause-err : goal.returns-clause-err
returns-clause-err g c =
    let m = shown c.args.fs.now in
    IfErr-weaker c.read_file.result _ _
    (λ fault why. met_only c.args.fs.now c.args.fs.now c.read_file.new.fs (Call.ReadAt c.args.view.now c.args.item.now.path 0 16777216) fault (unchanged-refl c.args.fs.now)
    (file_accepted m c.args.view.now c.args.fs.now.mounted.mounted.machine c.requires.file.accepted c.args.item.now.path (bytes_of_file (view_tree m c.args.view.now) c.args.item.now.path) 0 16777216 c.requires.file.there) why) c.read_file.ensures.err
