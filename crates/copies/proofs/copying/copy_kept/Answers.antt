use Rattle.std.proofs.Common.{◌≡◌, ◌∙◌, ◌-◌, ℕ, map, inl, inr, refl, ap, subst, sym}
use Rattle.fs_types.specs.declared.call.Call.{Call}
use Rattle.plain_trees.specs.Trees.{bare}
use Rattle.history_machine.specs.History.{fresh}
use Rattle.history_machine.specs.Machine.{Machine, mounted}
use Rattle.history_copies.specs.Copies.{first_kept, kept_versions}
use Rattle.inquiries.specs.Readings.{shown}
use Rattle.inquiries.proofs.Readings.{unchanged-refl}
use Rattle.copies.proofs.Causing.{on_uncopied}
use Rattle.copies.proofs.Keeping.{chosen_read, first_within, place_read}
use Rattle.copies.proofs.copying.copy_kept.Goals as goal

-- how many versions a fresh history keeps
limit_is : (m : Machine) (limit : ℕ) → m ≡ mounted (fresh limit bare) → m.history.limit ≡ limit
limit_is m limit is = ap (λ (x : Machine). x.history.limit) is

pub choose_serials-requires : goal.choose_serials-requires
choose_serials-requires g c =
    first_within (shown c.args.from.now) c.args.limit c.args.log.now.versions c.as_slice-versions.result.now c.args.log.now.cursor c.first_kept-first.result c.args.from.now.mounted.mounted.machine
    c.requires.serials c.requires.cursor c.as_slice-versions.ensures c.first_kept-first.ensures

pub copy_chosen-requires-clause-fresh : goal.copy_chosen-requires-clause-fresh
copy_chosen-requires-clause-fresh g c =
    let to = shown c.args.to.now in
    subst (λ (n : ℕ). to ≡ mounted (fresh n bare)) (sym (limit_is to c.args.limit c.requires.fresh)) c.requires.fresh

pub copy_chosen-requires-clause-serials : goal.copy_chosen-requires-clause-serials
copy_chosen-requires-clause-serials g c =
    let from = shown c.args.from.now in
    subst (λ (n : ℕ). c.as_slice-chosen.result.now ≡ map (λ v. v.serial) (kept_versions n from.history)) (sym (limit_is (shown c.args.to.now) c.args.limit c.requires.fresh))
    (chosen_read from c.args.limit c.args.log.now.versions c.as_slice-versions.result.now c.as_slice-chosen.result.now c.args.log.now.cursor c.first_kept-first.result
    c.requires.serials c.requires.cursor c.as_slice-versions.ensures c.first_kept-first.ensures (c.as_slice-chosen.ensures.value ∙ c.in-Ok.ensures))

pub copy_chosen-requires-clause-place : goal.copy_chosen-requires-clause-place
copy_chosen-requires-clause-place g c =
    let from = shown c.args.from.now in
    subst (λ (n : ℕ). c.args.log.now.cursor - c.first_kept-first.result ≡ from.history.cursor - first_kept n from.history) (sym (limit_is (shown c.args.to.now) c.args.limit c.requires.fresh))
    (place_read from c.args.limit c.args.log.now.versions c.as_slice-versions.result.now c.args.log.now.cursor c.first_kept-first.result c.requires.serials c.requires.cursor c.as_slice-versions.ensures c.first_kept-first.ensures)

pub returns-in-Ok-clause-limit : goal.returns-in-Ok-clause-limit
returns-in-Ok-clause-limit g c = on_uncopied c.copy_chosen.result _ _ (λ is. is ∙ limit_is (shown c.args.to.now) c.args.limit c.requires.fresh) c.copy_chosen.ensures.limit

pub returns-in-Err-clause-same : goal.returns-in-Err-clause-same
returns-in-Err-clause-same g c = unchanged-refl c.args.from.now

pub returns-in-Err-clause-err : goal.returns-in-Err-clause-err
returns-in-Err-clause-err g c = inr (shown c.args.to.now, Call.Log, tt, inl refl)
