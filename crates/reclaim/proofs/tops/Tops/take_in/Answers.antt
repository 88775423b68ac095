use Rattle.std.proofs.Common.{◌≡◌, ℕ, List, ◌++◌, [], ◌∷◌, sym, ap, ◌∙◌, arith}
use Rattle.std.specs.Prelude.{slice_index}
use Rattle.std.proofs.lemmas.Bool.{true≢false}
use Rattle.reclaim.specs.Tops.{KeepsTops, top_by, steps_by}
use Rattle.reclaim.proofs.LastSlots.{told_of, told_not, top_read, top_not, fit_before}
use Rattle.reclaim.proofs.tops.Tops.take_in.Goals as goal

pub returns-then-is_told-clause-tops : goal.returns-then-is_told-clause-tops
returns-then-is_told-clause-tops c =
    let t = c.args.self.now in
    let block = c.args.block in
    let p = slice_index c.args.pointers.now in
    let own = top_by p c.args.index in
    let room = told_of (slice_index t.words block) c.top_in.result (sym c.in_ok-is_told.ensures.exact ∙ c.if-is_told.true) in
    let node : (top : ℕ → ℕ) (seen : List ℕ) (told : List (ℕ × ℕ)) → KeepsTops top seen told t → top block ≡ own → KeepsTops top (seen ++ block ∷ []) told c.note_top.new.self =
    λ top seen told keeps is.
    top_read top seen told t keeps c.note_top.new.self block c.top_in.result (is ∙ sym c.top_in.ensures) room (omega (arith, c.requires.within, c.requires.sized.words)) c.in_ok-is_told.ensures.words (ap (λ s. s.members) c.in_ok-is_told.ensures.read) in
    record {
      kept = λ top seen told keeps is good. c.in_ok-are_told.ensures.tops.kept top (seen ++ block ∷ []) told (node top seen told keeps is) good;
      bad = λ top seen told keeps is fails. c.in_ok-are_told.ensures.tops.bad top (seen ++ block ∷ []) told (node top seen told keeps is) fails;
    }

pub returns-else-is_told-clause-tops : goal.returns-else-is_told-clause-tops
returns-else-is_told-clause-tops c =
    let t = c.args.self.now in
    let block = c.args.block in
    let p = slice_index c.args.pointers.now in
    let none = told_not (slice_index t.words block) c.top_in.result (sym c.in_ok-is_told.ensures.exact ∙ c.if-is_told.false) in
    record {
      kept = λ top seen told keeps is good. absurd (true≢false (sym good ∙ c.if-is_told.false));
      bad = λ top seen told keeps is fails fit.
          top_not top seen told t keeps block c.top_in.result (is ∙ sym c.top_in.ensures) none.0 none.1 (fit_before top told (steps_by p c.args.index) fit);
    }
