-- Why a line asks nothing.
use Rattle.hex.specs.declared.error.FromHexError.{FromHexError}
use Rattle.hex.specs.declared.error.FromHexError.TheVariants.{InvalidHexCharacter, OddLength, InvalidStringLength, OutOfMemory}
use Rattle.script.specs.declared.misread.Misread.{Misread}
use Rattle.script.specs.declared.misread.Misread.TheVariants.{Syntax, NoMemory}

-- digits that are no data are no form of a line
abbrev pub misread_of : FromHexError → Misread
misread_of (InvalidHexCharacter c index) = Syntax
misread_of OddLength = Syntax
misread_of InvalidStringLength = Syntax
misread_of OutOfMemory = NoMemory
