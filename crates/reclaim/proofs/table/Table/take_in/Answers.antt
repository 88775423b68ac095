use Rattle.std.proofs.Common.{ℕ, List, [], ◌∷◌, refl, sym, ◌∙◌, ◌++◌, arith}
use Rattle.std.specs.Prelude.{slice_index}
use Rattle.std.proofs.lemmas.Bool.{true≢false}
use Rattle.node_format.specs.declared.place.Place.{Place}
use Rattle.reclaim.specs.Heads.{IsNew, KeepsHeads, told_in}
use Rattle.reclaim.proofs.Heads.{room_of, room_not, longest_bad, fit_before, taken_node, takes_in}
use Rattle.reclaim.proofs.table.Table.take_in.Goals as goal

pub returns-then-is_head-clause-noted : goal.returns-then-is_head-clause-noted
returns-then-is_head-clause-noted c =
    takes_in c.args.self.now c.note_longest.new.self c.note.new.self c.note_heads.new.self c.args.block c.longest_in-longest.result c.args.parts.now.edge c.next_in.result c.next_in.ensures (omega (arith, c.requires.within, c.requires.sized.words))
    c.in_ok-is_head.ensures.words c.in_ok-is_head.ensures.same c.in_ok-is_head.ensures.read c.in_ok-note.ensures.sized c.in_ok-note.ensures.links c.in_ok-note.ensures.words c.in_ok-note.ensures.read c.in_ok-have_heads.ensures.same
    c.args.parts.now c.args.directories.now refl c.in_ok-note.ensures.named c.in_ok-note.ensures.quiet

pub returns-else-is_head-clause-noted : goal.returns-else-is_head-clause-noted
returns-else-is_head-clause-noted c =
    takes_in c.args.self.now c.note_longest.new.self c.note.new.self c.note_heads.new.self c.args.block c.longest_in-longest.result c.args.parts.now.edge c.next_in.result c.next_in.ensures (omega (arith, c.requires.within, c.requires.sized.words))
    c.in_ok-is_head.ensures.words c.in_ok-is_head.ensures.same c.in_ok-is_head.ensures.read c.in_ok-note.ensures.sized c.in_ok-note.ensures.links c.in_ok-note.ensures.words c.in_ok-note.ensures.read c.in_ok-have_heads.ensures.same
    c.args.parts.now c.args.directories.now refl c.in_ok-note.ensures.named c.in_ok-note.ensures.quiet

pub returns-then-is_head-clause-heads : goal.returns-then-is_head-clause-heads
returns-then-is_head-clause-heads c =
    let capacity = c.args.capacity in
    let room = room_of capacity (slice_index c.args.self.now.words c.args.block) c.longest_in-longest.result (sym c.in_ok-is_head.ensures.exact ∙ c.if-is_head.true) in
    let heads = c.in_ok-have_heads.ensures.heads in
    let node : (most : ℕ → ℕ) (seen : List ℕ) (told : List Place) → KeepsHeads capacity most seen told c.args.self.now → IsNew capacity most c.args.parts.now c.args.block c.args.self.now
    → KeepsHeads capacity most (seen ++ c.args.block ∷ []) told c.note.new.self = λ most seen told keeps new.
    taken_node c.args.self.now c.note_longest.new.self c.note.new.self c.note_heads.new.self c.args.block c.longest_in-longest.result c.args.parts.now.edge c.next_in.result c.next_in.ensures (omega (arith, c.requires.within, c.requires.sized.words))
    c.in_ok-is_head.ensures.words c.in_ok-is_head.ensures.same c.in_ok-is_head.ensures.read c.in_ok-note.ensures.sized c.in_ok-note.ensures.links c.in_ok-note.ensures.words c.in_ok-note.ensures.read c.in_ok-have_heads.ensures.same
    capacity most seen told c.args.parts.now keeps new refl c.longest_in-longest.ensures room in
    record {
      kept = λ most seen told keeps new is. heads.kept most (seen ++ c.args.block ∷ []) told (node most seen told keeps new) is;
      bad = λ most seen told keeps new is. heads.bad most (seen ++ c.args.block ∷ []) told (node most seen told keeps new) is;
    }

pub returns-else-is_head-clause-heads : goal.returns-else-is_head-clause-heads
returns-else-is_head-clause-heads c =
    let word = slice_index c.args.self.now.words c.args.block in
    let none = room_not c.args.capacity word c.longest_in-longest.result (sym c.in_ok-is_head.ensures.exact ∙ c.if-is_head.false) in
    record {
      kept = λ most seen told keeps new is. absurd (true≢false (sym is ∙ c.if-is_head.false));
      bad = λ most seen told keeps new is fit.
          longest_bad c.args.capacity most seen told c.args.self.now keeps c.args.block c.longest_in-longest.result (new.allows ∙ sym c.longest_in-longest.ensures) new.fresh none.0 none.1
          (fit_before c.args.capacity most told (told_in c.args.capacity c.args.parts.now) fit);
    }
