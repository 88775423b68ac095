use Rattle.std.proofs.Common.{rules, ◌≡◌, ◌∙◌, ℕ, sym, ap, subst}
use Rattle.fs_types.specs.declared.fault.Fault.{Fault}
use Rattle.flash_model.specs.Device.{Device}
use Rattle.flash_model.specs.Reading.{OnlyReads}
use Rattle.system.specs.Mounts.{IsMountOf}
use Rattle.system.specs.declared.systems.System.{System}
use Rattle.updates.specs.Asked.{MeetsOne, RefusesSecond}
use Rattle.updates.proofs.asking.ask_second.Goals as goal

-- what the work left of the second device is what that flash is left as
refused_on : (first left e was end other : Device) (system : System) (fault : Fault) → end ≡ other → IsMountOf e was system → MeetsOne first left was end fault
    → RefusesSecond e (λ device t. MeetsOne first left device other fault)
refused_on first left e was end other system fault same mounted met = record {
  device = was;
  system = system;
  mounted = mounted;
  why = subst (λ (x : Device). MeetsOne first left was x fault) same met;
}

-- no page of it changed
same_pages : (d was end other : Device) → OnlyReads d was → ((p : ℕ) → end.pages p ≡ was.pages p) → end ≡ other → (p : ℕ) → other.pages p ≡ d.pages p
same_pages d was end other reads kept same p = sym (ap (λ (x : Device). x.pages p) same) ∙ kept p ∙ reads.pages p

pub returns-in-Ok-told-clause-second : goal.returns-in-Ok-told-clause-second
returns-in-Ok-told-clause-second g c =
    same_pages (g.G.Flash.device c.args.second.now) (g.G.Flash.device c.in-Ok.fs.flash.now) (g.G.Flash.device c.tell_update-told.new.second.flash.now) (g.G.Flash.device _)
    c.in-Ok.ensures.only_reads c.tell_update-told.ensures.second.pages (search rules)

pub returns-in-Refused-clause-second : goal.returns-in-Refused-clause-second
returns-in-Refused-clause-second g c =
    same_pages (g.G.Flash.device c.args.second.now) (g.G.Flash.device c.in-Ok.fs.flash.now) (g.G.Flash.device c.tell_update-told.new.second.flash.now) (g.G.Flash.device _)
    c.in-Ok.ensures.only_reads c.tell_update-told.ensures.second.pages (search rules)

pub returns-in-TooManyLines-clause-second : goal.returns-in-TooManyLines-clause-second
returns-in-TooManyLines-clause-second g c =
    same_pages (g.G.Flash.device c.args.second.now) (g.G.Flash.device c.in-Ok.fs.flash.now) (g.G.Flash.device c.tell_update-told.new.second.flash.now) (g.G.Flash.device _)
    c.in-Ok.ensures.only_reads c.tell_update-told.ensures.second.pages (search rules)

pub returns-in-Refused-clause-err : goal.returns-in-Refused-clause-err
returns-in-Refused-clause-err g c =
    let why = rw c.in-Refused.is at c.in-Err-told.ensures.err in
    refused_on (g.F.Flash.device c.args.first.now.flash.now) (g.F.Flash.device c.tell_update-told.new.first.flash.now) (g.G.Flash.device c.args.second.now) (g.G.Flash.device c.in-Ok.fs.flash.now)
    (g.G.Flash.device c.tell_update-told.new.second.flash.now) (g.G.Flash.device _) c.in-Ok.fs.system c.in-Refused.refusal (search rules) c.in-Ok.ensures.mounted why

pub returns-in-TooManyLines-clause-err : goal.returns-in-TooManyLines-clause-err
returns-in-TooManyLines-clause-err g c =
    let many = rw c.in-TooManyLines.is at c.in-Err-told.ensures.err in
    record { device = g.G.Flash.device c.in-Ok.fs.flash.now; system = c.in-Ok.fs.system; mounted = c.in-Ok.ensures.mounted; why = many }
