use Rattle.std.proofs.Common.{◌≡◌, ◌<◌, length, refl, sym, ◌∙◌, arith}
use Rattle.std.specs.Prelude.{slice_index}
use Rattle.std.proofs.lemmas.Bool.{true≢false, eqb-true, eq-eqb}
use Rattle.reclaim.proofs.LastSlots.{step_none, step_beyond, step_read, step_other, step_kept, step_set}
use Rattle.reclaim.proofs.tops.Tops.note_step.Goals as goal

pub returns-then-top-eq0-clause-tops : goal.returns-then-top-eq0-clause-tops
returns-then-top-eq0-clause-tops c = record {
  kept = λ top seen told keeps is. absurd (true≢false (sym is));
  bad = λ top seen told keeps _. step_none top seen told c.args.self.now keeps c.args.block c.args.top c.if-top-eq0.true;
}

pub returns-then-block-blocks-clause-tops : goal.returns-then-block-blocks-clause-tops
returns-then-block-blocks-clause-tops c = record {
  kept = λ top seen told keeps is. absurd (true≢false (sym is));
  bad = λ top seen told keeps _. step_beyond top seen told c.args.self.now keeps c.args.block c.args.top (omega (arith, c.if-block-blocks.true, c.blocks-2.ensures, c.requires.words));
}

pub returns-then-contains-clause-tops : goal.returns-then-contains-clause-tops
returns-then-contains-clause-tops c =
    let t = c.args.self.now in
    let block = c.args.block in
    let word : c.get-word.result ≡ slice_index t.words block = c.get-word.ensures in
    record {
      kept = λ top seen told keeps is. step_kept top seen told t keeps block c.args.top c.if-top-eq0.false (sym word ∙ eqb-true c.get-word.result c.args.top is);
      bad = λ top seen told keeps fails.
          step_read top seen told t keeps block c.args.top (sym c.contains.ensures ∙ c.if-contains.true) (λ same. true≢false (sym (eq-eqb c.get-word.result c.args.top (word ∙ same)) ∙ fails));
    }

pub returns-then-word-eq0-clause-tops : goal.returns-then-word-eq0-clause-tops
returns-then-word-eq0-clause-tops c =
    let t = c.args.self.now in
    let block = c.args.block in
    let within : block < length t.words = omega (arith, c.if-block-blocks.false, c.blocks-2.ensures, c.requires.words) in
    let word : c.get-word.result ≡ slice_index t.words block = c.get-word.ensures in
    record {
      kept = λ top seen told keeps _. step_set top seen told t keeps _ block c.args.top c.if-top-eq0.false within (sym c.contains.ensures ∙ c.if-contains.false) (sym word ∙ c.if-word-eq0.true) c.in_ok-set.ensures.put refl;
      bad = λ top seen told keeps is. absurd (true≢false is);
    }

pub returns-clause-tops : goal.returns-clause-tops
returns-clause-tops c =
    let t = c.args.self.now in
    let block = c.args.block in
    let word : c.get-word.result ≡ slice_index t.words block = c.get-word.ensures in
    record {
      kept = λ top seen told keeps is. step_kept top seen told t keeps block c.args.top c.if-top-eq0.false (sym word ∙ eqb-true c.get-word.result c.args.top is);
      bad = λ top seen told keeps fails.
          step_other top seen told t keeps block c.args.top (sym c.contains.ensures ∙ c.if-contains.false) (λ none. c.if-word-eq0.false (word ∙ none))
          (λ same. true≢false (sym (eq-eqb c.get-word.result c.args.top (word ∙ same)) ∙ fails));
    }
