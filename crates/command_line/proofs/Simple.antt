-- The form of the program is one of which the words alone tell what is read.
use Rattle.std.proofs.Common.{◌≡◌, true, refl}
use Rattle.clap.specs.Words.{is_simple, is_simple_and_free}
use Rattle.clap.proofs.OnLiterals.{clap_on_literals}
use Rattle.command_words.specs.Grammar.{uffs}

pub uffs_free : is_simple_and_free uffs ≡ true
unfolding clap_on_literals
uffs_free = refl

pub uffs_simple : is_simple uffs ≡ true
unfolding clap_on_literals
uffs_simple = refl
