use Rattle.std.proofs.Common.{arith}
use Rattle.inquiries.specs.declared.tell_fault.TheConstants.{MAX_LINES}
use Rattle.inquiries.proofs.Sizes.{few_tested, few_past}
use Rattle.inquiries.proofs.inquiry.is_few.Goals as goal

pub returns-in-Some : goal.returns-in-Some
returns-in-Some c = λ t is. few_tested t c.args.size c.in-Some.entries MAX_LINES is c.in-Some.is

pub returns-in-None : goal.returns-in-None
returns-in-None c = λ t is. few_past t c.args.size MAX_LINES (omega arith) is c.in-None.is
