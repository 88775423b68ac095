-- The bytes behind a driver are the part of what is shown, while it is not lost.
use Rattle.std.proofs.Common.{◌≡◌, ℕ, Bool, true, false, Option, None, Some, Result, Ok, Err, List, refl, sym, subst, ◌∙◌}
use Rattle.std.specs.Prelude.{IfSome, OnOk, OnErr}
use Rattle.std.proofs.lemmas.Bool.{true≢false}
use Rattle.flash_model.specs.declared.flash.DevFault.{DevFault}
use Rattle.flash_model.specs.declared.flash.DevFault.TheVariants.{PowerCut}
use Rattle.flash_model.specs.Device.{Device}
use Rattle.host_interface.specs.Steps.{Step, Becomes}
use Rattle.part_file.specs.Pages.{HasPage, IsPart, KeepsPart, HoldsPart}
use Rattle.part_file.proofs.Keeping.{part_of}

-- a flash with the same sizes and pages has the same part
same_part : (held : Option (List ℕ)) (d e : Device) → e.geometry ≡ d.geometry → ((p : ℕ) → e.pages p ≡ d.pages p) → IfSome held (IsPart d) → IfSome held (IsPart e)
same_part None d e sizes pages part = tt
same_part (Some xs) d e sizes pages part =
    part_of d.geometry e xs sizes part.head part.content.whole (λ p below. subst (HasPage xs d.geometry p) (sym (pages p)) (part.content.pages p below))

pub same_shown : (lost : Bool) (held : Option (List ℕ)) (d e : Device) → e.geometry ≡ d.geometry → ((p : ℕ) → e.pages p ≡ d.pages p) → HoldsPart lost held d → HoldsPart lost held e
same_shown lost held d e sizes pages part = λ live. same_part held d e sizes pages (part live)

-- what is known to be a part is one after steps that keep it
after_steps : (held new : Option (List ℕ)) (d e : Device) (steps : List Step) → Becomes held steps new → KeepsPart held d new e → IfSome held (IsPart d) → IfSome new (IsPart e)
after_steps None None d e steps becomes keeps part = tt
after_steps None (Some ys) d e steps becomes keeps part = absurd cc
after_steps (Some xs) new d e steps becomes keeps part = keeps part

-- a program or an erase that is done keeps it, and after one that is not the driver is lost
pub after_order : (was now : Bool) (held new : Option (List ℕ)) (d e : Device) (steps : List Step) (r : Result (Unit {0}) DevFault) → OnOk r (Becomes held steps new) → OnOk r (KeepsPart held d new e)
    → OnErr r (now ≡ true) → (was ≡ true → r ≡ Err PowerCut) → HoldsPart was held d → HoldsPart now new e
after_order was now held new d e steps (Err fault) becomes keeps lost cut part = λ live. absurd (true≢false (sym lost ∙ live))
after_order true now held new d e steps (Ok u) becomes keeps lost cut part = absurd (done_not_cut (cut refl))
  where
    done_not_cut : Ok u ≡ Err PowerCut → ⊥
    done_not_cut same = cc
after_order false now held new d e steps (Ok u) becomes keeps lost cut part = λ live. after_steps held new d e steps becomes keeps (part refl)
