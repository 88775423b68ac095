use Rattle.std.proofs.Common.{◌≡◌, ◌∙◌, ◌+◌, ◌-◌, ◌≤◌, ◌<◌, ℕ, suc, inl, [], ◌∷◌, ◌++◌, List, length, get_or, take, refl, sym, ap, subst, arith}
use Rattle.std.proofs.lemmas.List.{length-append}
use Rattle.std.proofs.lemmas.List.Elements.{Contains-get_or}
use Rattle.std.proofs.lemmas.Result.{err_from_is_err_and}
use Rattle.std.specs.Prelude.{Contains}
use Rattle.nodes.specs.Bodies.{Blocks}
use Rattle.nodes.specs.Reached.{Reached}
use Rattle.reclaim.specs.Passes.{AreReached}
use Rattle.tree_counts.specs.Counted.{leads_of, IsLow, AreSizes, IsGoneTo, size_from}
use Rattle.tree_counts.proofs.Weights.{low_within, low_link, low_led, low_some}
use Rattle.tree_counts.proofs.Gone.{reads_block, begins_below, gone_on, done_on, Puts, puts_sizes, puts_stays, puts_done, size_begins, size_more, size_whole, led_reached}
use Rattle.tree_counts.proofs.node_sizes.+size_from.Goals as goal

pub size_at-requires : goal.size_at-requires
size_at-requires g t c =
    let within = low_within (g.N.Nodes.node c.args.nodes.now) c.args.steps c.args.block (g.N.Nodes.blocks c.args.nodes.now) (λ b high. g.met.N.Nodes.none_beyond c.args.nodes.now b high) c.requires.low in
    omega (arith, within, c.requires.sizes.all)

pub read_told-requires-clause-link : goal.read_told-requires-clause-link
read_told-requires-clause-link g t c = low_link (g.N.Nodes.node c.args.nodes.now) c.args.steps c.args.block c.requires.low

pub returns-in_err-own-clause-once : goal.returns-in_err-own-clause-once
returns-in_err-own-clause-once g t c = λ roots reached gone.
    reads_block (g.N.Nodes.node c.args.nodes.now) c.args.steps roots c.args.sizes.now c.push.new.self.items c.args.block c.requires.low (c.size_at.ensures.none c.in_default.is) c.in_ok-push.ensures.items reached gone

pub loop-lead-init : goal.loop-lead-init
loop-lead-init g t c =
    let f = g.N.Nodes.node c.args.nodes.now in
    let long = ap length c.in_ok-push.ensures.items ∙ length-append c.args.sizes.now.read.items (c.args.block ∷ []) in
    record {
      size = size_begins f c.args.block c.in_ok-own.field-0.size c.in_ok-own.ensures.size;
      sizes = record { all = c.requires.sizes.all; right = c.requires.sizes.right };
      stays = λ b size has. has;
      done = begins_below c.args.block c.args.sizes.now (record { found = c.args.sizes.now.found; read = c.push.new.self }) c.in_ok-push.ensures.items;
      looks = c.read_told.ensures.looks;
      reads = omega (arith, c.read_told.ensures.reads, long);
      reached = λ roots reached gone. reads_block f c.args.steps roots c.args.sizes.now c.push.new.self.items c.args.block c.requires.low (c.size_at.ensures.none c.in_default.is) c.in_ok-push.ensures.items reached gone;
    }

pub overflow_sub-steps : goal.overflow_sub-steps
overflow_sub-steps g t c = let some = low_some (g.N.Nodes.node c.args.nodes.now) c.args.steps c.args.block c.requires.low in omega (arith, some)

pub size_from-requires : goal.size_from-requires
size_from-requires g t c κs within =
    let f = g.N.Nodes.node c.args.nodes.now in
    let some = low_some f c.args.steps c.args.block c.requires.low in
    let more : c.args.steps ≡ suc (c.args.steps - 1) = omega (arith, some) in
    let items = c.deref-lead-items.result.now in
    let lead = get_or items c.loop-lead.lead-index 0 in
    let led = subst (λ (l : List ℕ). Contains l lead) (c.deref-lead-items.ensures.value ∙ c.in_ok-own.ensures.leads) (Contains-get_or items c.loop-lead.lead-index 0 c.loop-lead-test.true) in
    let same = c.loop-lead.invariant.looks in (
      omega (arith, some),
      (
        within,
        (
          same.sound,
          (
            subst (λ (h : Blocks). IsLow h (c.args.steps - 1) lead) (sym same.same_nodes) (low_led f (c.args.steps - 1) c.args.block lead (subst (λ (n : ℕ). IsLow f n c.args.block) more c.requires.low) led),
            (
              omega (arith, c.requires.few),
              subst (λ (h : Blocks). AreSizes h (g.N.Nodes.blocks c.loop-lead.nodes) c.loop-lead.sizes) (sym same.same_nodes) (subst (λ (n : ℕ). AreSizes f n c.loop-lead.sizes) (sym same.same_blocks) c.loop-lead.invariant.sizes),
            ),
          ),
        ),
      ),
    )

pub returns-in_err-more-clause-why : goal.returns-in_err-more-clause-why
returns-in_err-more-clause-why g t c =
    let p = err_from_is_err_and c.from_residual-in_err-more.result c.from_residual-in_err-more.ensures.1 in
    rw (p.1, p.2) (g.met.N.Nodes.causes_on c.args.nodes.now c.loop-lead.nodes c.size_from.new.nodes c.in_err-more.field-0.0 c.loop-lead.invariant.looks.came c.in_err-more.ensures.why)

pub returns-in_err-more-clause-looks : goal.returns-in_err-more-clause-looks
returns-in_err-more-clause-looks g t c = g.met.N.Nodes.looks_on c.args.nodes.now c.loop-lead.nodes c.size_from.new.nodes c.loop-lead.invariant.looks c.size_from.ensures.looks

pub returns-in_err-more-clause-reads : goal.returns-in_err-more-clause-reads
returns-in_err-more-clause-reads g t c = omega (arith, c.loop-lead.invariant.reads, c.size_from.ensures.reads)

pub returns-in_err-more-clause-once : goal.returns-in_err-more-clause-once
returns-in_err-more-clause-once g t c = λ roots reached gone.
    let f = g.N.Nodes.node c.args.nodes.now in
    let so_far = c.loop-lead.invariant in
    let items = c.deref-lead-items.result.now in
    let lead = get_or items c.loop-lead.lead-index 0 in
    let led = subst (λ (l : List ℕ). Contains l lead) (c.deref-lead-items.ensures.value ∙ c.in_ok-own.ensures.leads) (Contains-get_or items c.loop-lead.lead-index 0 c.loop-lead-test.true) in
    subst (λ (h : Blocks). AreReached h roots c.size_from.new.sizes.read.items) so_far.looks.same_nodes
    (c.size_from.ensures.once roots (subst (λ (h : Blocks). Reached h roots lead) (sym so_far.looks.same_nodes) (led_reached f roots c.args.block lead reached led))
    (subst (λ (h : Blocks). IsGoneTo h roots c.loop-lead.sizes lead) (sym so_far.looks.same_nodes) (gone_on f roots c.args.block lead c.args.sizes.now c.loop-lead.sizes led so_far.stays so_far.done gone (so_far.reached roots reached gone))))

pub loop-lead-preserved : goal.loop-lead-preserved
loop-lead-preserved g t c =
    let f = g.N.Nodes.node c.args.nodes.now in
    let so_far = c.loop-lead.invariant in
    let items = c.deref-lead-items.result.now in
    let lead = get_or items c.loop-lead.lead-index 0 in
    let led = subst (λ (l : List ℕ). Contains l lead) (c.deref-lead-items.ensures.value ∙ c.in_ok-own.ensures.leads) (Contains-get_or items c.loop-lead.lead-index 0 c.loop-lead-test.true) in
    record {
      size = size_more f c.args.block c.loop-lead.lead-index items c.loop-lead.size c.in_ok-more.more c.plus-size.result c.loop-lead-test.true so_far.size
          (c.in_ok-more.ensures.size ∙ ap (λ (h : Blocks). size_from h lead) so_far.looks.same_nodes) c.plus-size.ensures;
      sizes = subst (λ (h : Blocks). AreSizes h (g.N.Nodes.blocks c.args.nodes.now) c.size_from.new.sizes) so_far.looks.same_nodes
          (subst (λ (n : ℕ). AreSizes (g.N.Nodes.node c.loop-lead.nodes) n c.size_from.new.sizes) so_far.looks.same_blocks c.in_ok-more.ensures.sizes);
      stays = λ b size has. c.in_ok-more.ensures.stays b size (so_far.stays b size has);
      done = done_on c.args.block c.args.sizes.now c.loop-lead.sizes c.size_from.new.sizes so_far.done c.in_ok-more.ensures.stays c.in_ok-more.ensures.done;
      looks = g.met.N.Nodes.looks_on c.args.nodes.now c.loop-lead.nodes c.size_from.new.nodes so_far.looks c.size_from.ensures.looks;
      reads = omega (arith, so_far.reads, c.size_from.ensures.reads);
      reached = λ roots reached gone.
          subst (λ (h : Blocks). AreReached h roots c.size_from.new.sizes.read.items) so_far.looks.same_nodes
          (c.size_from.ensures.once roots (subst (λ (h : Blocks). Reached h roots lead) (sym so_far.looks.same_nodes) (led_reached f roots c.args.block lead reached led))
          (subst (λ (h : Blocks). IsGoneTo h roots c.loop-lead.sizes lead) (sym so_far.looks.same_nodes) (gone_on f roots c.args.block lead c.args.sizes.now c.loop-lead.sizes led so_far.stays so_far.done gone (so_far.reached roots reached gone))));
    }

pub put-requires : goal.put-requires
put-requires g t c =
    let within = low_within (g.N.Nodes.node c.args.nodes.now) c.args.steps c.args.block (g.N.Nodes.blocks c.args.nodes.now) (λ b high. g.met.N.Nodes.none_beyond c.args.nodes.now b high) c.requires.low in
    omega (arith, within, c.loop-lead.invariant.sizes.all)

pub returns-clause-size : goal.returns-clause-size
returns-clause-size g t c =
    size_whole (g.N.Nodes.node c.args.nodes.now) c.args.steps c.args.block c.loop-lead.lead-index c.deref-lead-items.result.now c.loop-lead.size c.requires.few c.requires.low
    (c.deref-lead-items.ensures.value ∙ c.in_ok-own.ensures.leads) (omega (arith, c.loop-lead-test.false)) c.loop-lead.invariant.size

pub returns-clause-sizes : goal.returns-clause-sizes
returns-clause-sizes g t c =
    puts_sizes (g.N.Nodes.node c.args.nodes.now) (g.N.Nodes.blocks c.args.nodes.now) c.loop-lead.sizes c.put.new.self c.args.block c.loop-lead.size
    (record { has = c.put.ensures.has; others = c.put.ensures.others; read = c.put.ensures.same.0; all = c.put.ensures.same.1 })
    (size_whole (g.N.Nodes.node c.args.nodes.now) c.args.steps c.args.block c.loop-lead.lead-index c.deref-lead-items.result.now c.loop-lead.size c.requires.few c.requires.low
    (c.deref-lead-items.ensures.value ∙ c.in_ok-own.ensures.leads) (omega (arith, c.loop-lead-test.false)) c.loop-lead.invariant.size)
    c.loop-lead.invariant.sizes

pub returns-clause-stays : goal.returns-clause-stays
returns-clause-stays g t c =
    puts_stays c.args.sizes.now c.loop-lead.sizes c.put.new.self c.args.block c.loop-lead.size (c.size_at.ensures.none c.in_default.is) c.loop-lead.invariant.stays
    (record { has = c.put.ensures.has; others = c.put.ensures.others; read = c.put.ensures.same.0; all = c.put.ensures.same.1 })

pub returns-clause-done : goal.returns-clause-done
returns-clause-done g t c =
    puts_done c.args.sizes.now c.loop-lead.sizes c.put.new.self c.args.block c.loop-lead.size c.loop-lead.invariant.done
    (record { has = c.put.ensures.has; others = c.put.ensures.others; read = c.put.ensures.same.0; all = c.put.ensures.same.1 })

pub returns-clause-looks : goal.returns-clause-looks
returns-clause-looks g t c = c.loop-lead.invariant.looks

pub returns-clause-reads : goal.returns-clause-reads
returns-clause-reads g t c = let long = ap length c.put.ensures.same.0 in omega (arith, c.loop-lead.invariant.reads, long)

pub returns-clause-once : goal.returns-clause-once
returns-clause-once g t c = λ roots reached gone.
    subst (AreReached (g.N.Nodes.node c.args.nodes.now) roots) (sym c.put.ensures.same.0) (c.loop-lead.invariant.reached roots reached gone)
