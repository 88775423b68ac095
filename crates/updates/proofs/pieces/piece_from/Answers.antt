use Rattle.std.proofs.Common.{◌∙◌, ◌-◌, List, ℕ, length, take, drop, ap, arith}
use Rattle.std.proofs.lemmas.List.{take_all, length-drop}
use Rattle.updates.proofs.pieces.piece_from.Goals as goal

pub returns : goal.returns
returns c = c.first_piece.ensures ∙ ap (λ (xs : List ℕ). take 30000 xs) (take_all (length c.args.bytes.now - c.args.start) (drop c.args.start c.args.bytes.now) (omega (arith, length-drop c.args.start c.args.bytes.now)))
