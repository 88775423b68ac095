use Rattle.std.proofs.Common.{rules, subst, sym}
use Rattle.std.specs.Str.Parse.{ParsesUnsigned, ExplainsUnsignedError, HasUnsignedDigitsIfOk}
use Rattle.clap.specs.Words.{found_of, one_text}
use Rattle.clap.proofs.WalkLemmas.{one_text-rows}
use Rattle.command_line.specs.Jobs.{IsNumberOf}
use Rattle.command_line.proofs.Numbers.{number_read, default_read, none_read}
use Rattle.command_line.proofs.words.number.Goals as goal

pub returns-in-Ok-Some-clause-some : goal.returns-in-Ok-Some-clause-some
returns-in-Ok-Some-clause-some c =
    let read = number_read (λ bs r. ParsesUnsigned 32 10 bs r × ExplainsUnsignedError 10 bs r × HasUnsignedDigitsIfOk bs r) (λ t r g. g.0)
    (one_text (found_of c.args.given.now) c.args.name.now) c.args.default c.in-Ok-Some.number c.try_get_one.result (search rules) c.try_get_one.ensures.none c.try_get_one.ensures.value in
    subst (λ o. IsNumberOf o c.args.default c.in-Ok-Some.number) (one_text-rows (found_of c.args.given.now) c.args.name.now) read

pub returns-in-Ok-None-clause-some : goal.returns-in-Ok-None-clause-some
returns-in-Ok-None-clause-some c =
    let read = default_read (λ bs r. ParsesUnsigned 32 10 bs r × ExplainsUnsignedError 10 bs r × HasUnsignedDigitsIfOk bs r) (λ t r g. g.0)
    (one_text (found_of c.args.given.now) c.args.name.now) c.args.default c.try_get_one.result (search rules) c.try_get_one.ensures.value in
    subst (λ o. IsNumberOf o c.args.default c.args.default) (one_text-rows (found_of c.args.given.now) c.args.name.now) read

pub returns-in-Err-clause-none : goal.returns-in-Err-clause-none
returns-in-Err-clause-none c =
    let read = none_read (λ bs r. ParsesUnsigned 32 10 bs r × ExplainsUnsignedError 10 bs r × HasUnsignedDigitsIfOk bs r) (λ t r g. g.0)
    (one_text (found_of c.args.given.now) c.args.name.now) c.args.default c.try_get_one.result c.in-Err.field-0 (search rules) c.try_get_one.ensures.none c.try_get_one.ensures.value in
    λ n spells. read n (subst (λ o. IsNumberOf o c.args.default n) (sym (one_text-rows (found_of c.args.given.now) c.args.name.now)) spells)
