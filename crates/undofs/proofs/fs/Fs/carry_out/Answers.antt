use Rattle.fs_types.specs.Requests.{call_of}
use Rattle.undofs.proofs.Replies.{stays_still, keeps_pages}
use Rattle.undofs.proofs.fs.Fs.carry_out.Goals as goal

pub returns-clause-looked : goal.returns-clause-looked
returns-clause-looked g c = keeps_pages _ _ c.args.self.now.system c.call.new.self (call_of c.args.request) c.call.result c.call.ensures.step

pub returns-clause-still : goal.returns-clause-still
returns-clause-still g c = stays_still _ _ c.args.self.now.system c.call.new.self (call_of c.args.request) c.call.result c.call.ensures.step
