use Rattle.std.proofs.Common.{◌≡◌, ◌∙◌, ◌++◌, ◌∷◌, [], ℕ, length, map, ap, refl, arith}
use Rattle.std.proofs.lemmas.Grind.{div_ceil_times}
use Rattle.std.specs.List.{range_with_len}
use Rattle.fs_types.specs.declared.call.Call.{Call}
use Rattle.history_machine.specs.Laws.{anew}
use Rattle.tree_differences.specs.Updates.{piece}
use Rattle.updates.proofs.PieceLemmas.{one_more, calls_between}
use Rattle.updates.proofs.pieces.add_pieces.Goals as goal

pub add_piece-requires : goal.add_piece-requires
add_piece-requires c =
    let bounds = div_ceil_times (length c.args.bytes.now) 30000 (omega arith) in
    let count = c.div_ceil-count.ensures in
    let low = c.loop-at-test.true in
    omega (arith, bounds, count, low)

pub loop-at-preserved : goal.loop-at-preserved
loop-at-preserved c =
    one_more (piece c.args.bytes.now) c.loop-at.at (c.args.calls.now.items ++ Call.Open c.args.path.now anew ∷ []) c.loop-at.calls.items c.add_piece.new.calls.items c.loop-at.invariant c.in_ok-add_piece.ensures

pub returns : goal.returns
returns c =
    let all : c.loop-at.at ≡ c.div_ceil-count.result = let past = c.loop-at-test.false in let most = c.loop-at.auto.at-end in omega (arith, past, most) in
    let calls = λ (n : ℕ). map (piece c.args.bytes.now) (range_with_len 0 n) in
    let whole = c.loop-at.invariant ∙ ap (λ (n : ℕ). (c.args.calls.now.items ++ Call.Open c.args.path.now anew ∷ []) ++ calls n) (all ∙ c.div_ceil-count.ensures) in
    calls_between (Call.Open c.args.path.now anew) (Call.Close 0) (calls _) c.args.calls.now.items (c.args.calls.now.items ++ Call.Open c.args.path.now anew ∷ []) c.loop-at.calls.items _ refl whole c.in_ok-push-2.ensures.items
