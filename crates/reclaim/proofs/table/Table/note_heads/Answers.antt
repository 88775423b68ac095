use Rattle.std.proofs.Common.{◌≡◌, ℕ, List, ◌++◌, sym, ap, subst, ◌∙◌, arith}
use Rattle.std.specs.Prelude.{slice_index}
use Rattle.std.proofs.lemmas.Bool.{true≢false}
use Rattle.std.proofs.lemmas.Grind.{get_or_default_zero}
use Rattle.std.proofs.lemmas.List.{append_assoc}
use Rattle.std.proofs.lemmas.Result.{IfOk-weaker, on_ok_weaker}
use Rattle.node_format.specs.declared.place.Place.{Place}
use Rattle.reclaim.specs.Heads.{FitHeads, KeepsHeads, TakesHeads, before_told, length_before, told_in}
use Rattle.reclaim.proofs.Heads.{fit_before, links_on}
use Rattle.reclaim.proofs.table.Table.note_heads.Goals as goal

pub returns-then-not-have_places-clause-heads : goal.returns-then-not-have_places-clause-heads
returns-then-not-have_places-clause-heads c =
    let capacity = c.args.capacity in
    let parts = c.args.parts.now in
    let places = parts.places.items in
    let before = before_told (slice_index parts.pointers.items 0) (length_before capacity parts.index) in
    let heads = subst (λ (l : List Place). TakesHeads capacity l c.args.self.now c.note_places.new.self c.in_ok-have_places.have_places) c.deref.ensures.value c.in_ok-have_places.ensures.heads in
    record {
      kept = λ most seen told keeps is. absurd (true≢false (sym is));
      bad = λ most seen told keeps _ fit.
          heads.bad most seen told keeps c.if-not-have_places.true
          (fit_before capacity most (told ++ places) before (subst (λ (l : List Place). FitHeads capacity most l) (sym (append_assoc told places before)) fit));
    }

pub returns-clause-same : goal.returns-clause-same
returns-clause-same c = on_ok_weaker c.note_before.result (λ then. links_on c.args.self.now c.note_places.new.self c.note_before.new.self c.in_ok-have_places.ensures.same then) c.note_before.ensures.same

pub returns-clause-heads : goal.returns-clause-heads
returns-clause-heads c =
    let capacity = c.args.capacity in
    let parts = c.args.parts.now in
    let places = parts.places.items in
    let pointers = parts.pointers.items in
    let before = before_told (slice_index pointers 0) (length_before capacity parts.index) in
    let heads = subst (λ (l : List Place). TakesHeads capacity l c.args.self.now c.note_places.new.self c.in_ok-have_places.have_places) c.deref.ensures.value c.in_ok-have_places.ensures.heads in
    let head : c.index.result.now ≡ slice_index pointers 0 = c.index.ensures ∙ get_or_default_zero pointers 0 c.index.result.now (omega (arith, c.requires.count)) in
    let same : before_told c.index.result.now c.length_before-length.result ≡ before =
    ap (λ (n : ℕ). before_told c.index.result.now n) c.length_before-length.ensures ∙ ap (λ (h : ℕ). before_told h (length_before capacity parts.index)) head in
    IfOk-weaker c.note_before.result _ (λ good. TakesHeads capacity (told_in capacity parts) c.args.self.now c.note_before.new.self good)
    (λ good then.
    let told_before = subst (λ (l : List Place). TakesHeads capacity l c.note_places.new.self c.note_before.new.self good) same then in
    record {
      kept = λ most seen told keeps is.
          subst (λ (l : List Place). KeepsHeads capacity most seen l c.note_before.new.self) (append_assoc told places before)
          (told_before.kept most seen (told ++ places) (heads.kept most seen told keeps c.if-not-have_places.false) is);
      bad = λ most seen told keeps is fit.
          told_before.bad most seen (told ++ places) (heads.kept most seen told keeps c.if-not-have_places.false) is
          (subst (λ (l : List Place). FitHeads capacity most l) (sym (append_assoc told places before)) fit);
    })
    c.note_before.ensures.heads
