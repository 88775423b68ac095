use Rattle.std.proofs.Common.{◌≡◌, ◌⊎◌, inl, inr, ℕ, ◌<◌, true, length, refl, sym, ap, ◌∙◌, arith}
use Rattle.std.specs.Prelude.{slice_index}
use Rattle.std.proofs.lemmas.Bool.{true≢false}
use Rattle.reclaim.specs.Heads.{fits}
use Rattle.reclaim.proofs.Heads.{none_fits, read_fits, others_fit, told_more, head_set, kept_file}
use Rattle.reclaim.proofs.table.Table.note_head.Goals as goal
use Rattle.reclaim.proofs.table.Table.note_head.Goals.{then-head-blocks-via-then-head-blocks, then-head-blocks-via-else-head-blocks+then-contains, then-word-eq0-via-then-word-eq0, then-word-eq0-via-else-word-eq0+then-fits}

pub returns-then-head-blocks-clause-heads : goal.returns-then-head-blocks-clause-heads
returns-then-head-blocks-clause-heads c = record {
  kept = λ most seen told keeps is. absurd (true≢false (sym is));
  bad = λ most seen told keeps _.
      let none : most c.args.head ≡ 0 = elim c.then-head-blocks.branch [
        | then-head-blocks-via-then-head-blocks w ↦ keeps.beyond c.args.head (λ less. omega (arith, less, w.if-head-blocks.true, c.blocks-2.ensures))
        | then-head-blocks-via-else-head-blocks+then-contains w ↦ keeps.links c.args.head (sym w.contains.ensures ∙ w.if-contains.true)
      ] in
      none_fits c.args.capacity most seen told c.args.self.now keeps c.args.head c.args.length c.requires.some none;
}

pub returns-then-contains-2-clause-heads : goal.returns-then-contains-2-clause-heads
returns-then-contains-2-clause-heads c =
    let t = c.args.self.now in
    let head = c.args.head in
    let within : head < t.links.blocks = omega (arith, c.if-head-blocks.false, c.blocks-2.ensures) in
    let word : c.get-word.result ≡ slice_index t.words head = c.get-word.ensures in
    let own : c.fits.result ≡ fits c.args.capacity c.args.length (slice_index t.words head) = c.fits.ensures ∙ ap (fits c.args.capacity c.args.length) word in
    let other = sym c.contains.ensures ∙ c.if-contains.false in
    record {
      kept = λ most seen told keeps is. told_more c.args.capacity most seen told t keeps _ (kept_file c.args.capacity t head c.args.length c.requires.some within other (sym own ∙ is));
      bad = λ most seen told keeps fails. read_fits c.args.capacity most seen told t keeps head c.args.length c.requires.some other (sym c.contains-2.ensures ∙ c.if-contains-2.true) (sym own ∙ fails);
    }

pub returns-then-word-eq0-clause-heads : goal.returns-then-word-eq0-clause-heads
returns-then-word-eq0-clause-heads c =
    let t = c.args.self.now in
    let head = c.args.head in
    let within : head < length t.words = omega (arith, c.if-head-blocks.false, c.blocks-2.ensures, c.requires.sized.words) in
    let word : c.get-word.result ≡ slice_index t.words head = c.get-word.ensures in
    let room : (slice_index t.words head ≡ 0) ⊎ (fits c.args.capacity (slice_index t.words head) c.args.length ≡ true) =
    elim c.then-word-eq0.branch [
      | then-word-eq0-via-then-word-eq0 w ↦ inl (sym word ∙ w.if-word-eq0.true)
      | then-word-eq0-via-else-word-eq0+then-fits w ↦ inr (ap (λ (n : ℕ). fits c.args.capacity n c.args.length) (sym word) ∙ sym w.fits-else-word-eq0.ensures ∙ w.if-fits.true)
    ] in
    record {
      kept = λ most seen told keeps _.
          head_set c.args.capacity most seen told t keeps _ head c.args.length c.requires.some refl refl c.in_ok-set.ensures.put (omega (arith, c.if-head-blocks.false, c.blocks-2.ensures)) within
          (sym c.contains.ensures ∙ c.if-contains.false) (sym c.contains-2.ensures ∙ c.if-contains-2.false) room;
      bad = λ most seen told keeps is. absurd (true≢false is);
    }

pub returns-clause-heads : goal.returns-clause-heads
returns-clause-heads c =
    let t = c.args.self.now in
    let head = c.args.head in
    let within : head < t.links.blocks = omega (arith, c.if-head-blocks.false, c.blocks-2.ensures) in
    let word : c.get-word.result ≡ slice_index t.words head = c.get-word.ensures in
    let own : c.fits-2.result ≡ fits c.args.capacity c.args.length (slice_index t.words head) = c.fits-2.ensures ∙ ap (fits c.args.capacity c.args.length) word in
    let other = sym c.contains.ensures ∙ c.if-contains.false in
    record {
      kept = λ most seen told keeps is. told_more c.args.capacity most seen told t keeps _ (kept_file c.args.capacity t head c.args.length c.requires.some within other (sym own ∙ is));
      bad = λ most seen told keeps fails.
          others_fit c.args.capacity most seen told t keeps head c.args.length c.requires.some other (sym c.contains-2.ensures ∙ c.if-contains-2.false) (λ none. c.if-word-eq0.false (word ∙ none))
          (ap (λ (n : ℕ). fits c.args.capacity n c.args.length) (sym word) ∙ sym c.fits-else-word-eq0.ensures ∙ c.if-fits.false) (sym own ∙ fails);
    }
