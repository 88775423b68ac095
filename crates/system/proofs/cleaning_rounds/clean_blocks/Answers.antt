use Rattle.std.proofs.Common.{ℕ, ◌<◌, ◌≤◌, Ok, Err, Some, None, sym, subst, arith}
use Rattle.std.proofs.lemmas.Result.{err_from_is_err_and}
use Rattle.flash_model.specs.Device.{Device}
use Rattle.node_store.specs.declared.storage.Storage.{Storage}
use Rattle.system.specs.CleaningRounds.{CleansBlocks}
use Rattle.system.proofs.LooksAtBlanks.{clean_on, count, looks_on, over, paused, refused}
use Rattle.system.proofs.cleaning_rounds.clean_blocks.Goals as goal

pub returns-in_err-pass_block : goal.returns-in_err-pass_block
returns-in_err-pass_block g c =
    let p = err_from_is_err_and c.from_residual.result c.from_residual.ensures.1 in
    let d = g.F.Flash.device c.args.flash.now in
    let e = g.F.Flash.device c.pass_block.new.flash in
    let value = c.blocks-blocks.ensures.value in
    let within : c.loop-block.block < c.args.storage.now.ring.blocks = subst (λ (n : ℕ). c.loop-block.block < n) value c.loop-block-test.true in
    let inside = λ (b : ℕ) (high : c.max-first.result ≤ b) (below : b < c.loop-block.block). subst (λ (n : ℕ). b < n) value (c.loop-block.invariant.within b high below) in
    rw (p.1, p.2)
    (subst (λ (first : ℕ). CleansBlocks d c.args.storage.now first c.args.budget (Err c.in_err-pass_block.field-0.0) e c.pass_block.new.storage) c.max-first.ensures
    (refused d c.args.storage.now c.max-first.result c.args.budget c.loop-block.block c.loop-block.left (g.F.Flash.device c.loop-block.flash) c.loop-block.storage e c.pass_block.new.storage c.in_err-pass_block.field-0.0
    c.loop-block.auto.block c.loop-block.invariant.looks c.in_err-pass_block.ensures.looks c.loop-block.invariant.left inside within c.in_err-pass_block.ensures.some_left c.in_err-pass_block.ensures.why))

pub returns-then-not-branch : goal.returns-then-not-branch
returns-then-not-branch g c =
    let d = g.F.Flash.device c.args.flash.now in
    let stays = c.in_ok-pass_block.ensures.stays c.if-not-branch.true in
    let result = Ok (Some c.loop-block.block) in
    let within : c.loop-block.block < c.args.storage.now.ring.blocks = subst (λ (n : ℕ). c.loop-block.block < n) c.blocks-blocks.ensures.value c.loop-block-test.true in
    subst (λ (first : ℕ). CleansBlocks d c.args.storage.now first c.args.budget result (g.F.Flash.device c.pass_block.new.flash) c.pass_block.new.storage) c.max-first.ensures
    (subst (λ (x : Device). CleansBlocks d c.args.storage.now c.max-first.result c.args.budget result x c.pass_block.new.storage) (sym stays.2)
    (subst (λ (y : Storage). CleansBlocks d c.args.storage.now c.max-first.result c.args.budget result (g.F.Flash.device c.loop-block.flash) y) (sym stays.3)
    (paused d c.args.storage.now c.max-first.result c.args.budget c.loop-block.block c.loop-block.left (g.F.Flash.device c.loop-block.flash) c.loop-block.storage
    c.loop-block.invariant.looks c.loop-block.invariant.left stays.0 within stays.1 c.loop-block.invariant.clean)))

pub loop-block-preserved : goal.loop-block-preserved
loop-block-preserved g c =
    let d = g.F.Flash.device c.args.flash.now in
    let s = c.args.storage.now in
    let first = c.max-first.result in
    let block = c.loop-block.block in
    let e = g.F.Flash.device c.loop-block.flash in
    let t = c.loop-block.storage in
    let f = g.F.Flash.device c.pass_block.new.flash in
    let u = c.pass_block.new.storage in
    let looks = c.loop-block.invariant.looks in
    let low = c.loop-block.auto.block in
    let then = c.in_ok-pass_block.ensures.looks in
    let passes = c.in_ok-pass_block.ensures.passes c.if-not-branch.false in
    record {
      looks = looks_on d s first block e t looks f u low then;
      clean = clean_on d s first block e t looks f u low then c.loop-block.invariant.clean passes.0;
      left = omega (arith, count d s first block e t looks f u low then, passes.1, c.loop-block.invariant.left);
      within = λ b high below. omega (arith, c.loop-block-test.true, below);
      room = c.in_ok-pass_block.ensures.room;
    }

pub returns : goal.returns
returns g c =
    let d = g.F.Flash.device c.args.flash.now in
    let past : c.args.storage.now.ring.blocks ≤ c.loop-block.block = subst (λ (n : ℕ). n ≤ c.loop-block.block) c.blocks-blocks.ensures.value c.loop-block-test.false in
    let inside = λ (b : ℕ) (high : c.max-first.result ≤ b) (below : b < c.loop-block.block). subst (λ (n : ℕ). b < n) c.blocks-blocks.ensures.value (c.loop-block.invariant.within b high below) in
    subst (λ (first : ℕ). CleansBlocks d c.args.storage.now first c.args.budget (Ok None) (g.F.Flash.device c.loop-block.flash) c.loop-block.storage) c.max-first.ensures
    (over d c.args.storage.now c.max-first.result c.args.budget c.loop-block.block c.loop-block.left (g.F.Flash.device c.loop-block.flash) c.loop-block.storage c.loop-block.invariant.looks c.loop-block.invariant.left inside past
    c.loop-block.invariant.clean)
