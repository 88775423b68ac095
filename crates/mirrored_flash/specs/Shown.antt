-- What a flash shows after an operation, by what its driver answered.
use Rattle.std.specs.Prelude.{List, ℕ, Result, Ok, Err}
use Rattle.flash_model.specs.declared.flash.DevFault.{DevFault}
use Rattle.flash_model.specs.declared.flash.DevFault.TheVariants.{Failed, PowerCut}
use Rattle.flash_model.specs.Device.{Page, erased, bytes_of, unreadable}

-- a programmed page: where power went, what was shown before stays shown
abbrev pub page_after : Result (Unit {0}) DevFault → Page → List ℕ → Page
page_after (Ok _) was bytes = bytes_of bytes
page_after (Err Failed) was bytes = unreadable
page_after (Err PowerCut) was bytes = was

-- a page of an erased block: of a failed erase none is shown as readable
abbrev pub erased_after : Result (Unit {0}) DevFault → Page → Page
erased_after (Ok _) was = erased
erased_after (Err Failed) was = unreadable
erased_after (Err PowerCut) was = was
