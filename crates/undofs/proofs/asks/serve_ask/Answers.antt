use Rattle.undofs.proofs.asks.serve_ask.Goals as goal

pub returns-in-Event-clause-serves : goal.returns-in-Event-clause-serves
returns-in-Event-clause-serves g c = rw c.in-Event.is c.serve.ensures.serves

pub returns-in-Space-clause-serves : goal.returns-in-Space-clause-serves
returns-in-Space-clause-serves g c = rw c.in-Space.is c.serve_space.ensures.serves

pub returns-in-ForgetFree-clause-serves : goal.returns-in-ForgetFree-clause-serves
returns-in-ForgetFree-clause-serves g c = rw c.in-ForgetFree.is c.serve_forget.ensures.serves
