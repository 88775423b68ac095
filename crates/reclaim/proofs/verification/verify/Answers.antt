use Rattle.std.proofs.Common.{◌≡◌, ◌↔◌, ◌≤◌, ◌*◌, ◌-◌, ℕ, List, Err, refl, ap, sym, subst, ◌∙◌}
use Rattle.std.specs.FinSet as set
use Rattle.std.specs.Global.{Global}
use Rattle.std.specs.Ordering.{nat_cmp}
use Rattle.std.specs.Prelude.{IsTrue, All, Contains, Vec}
use Rattle.std.proofs.lemmas.Result.{err_from_is_err_and}
use Rattle.std.proofs.lemmas.List.Elements.{All-contains}
use Rattle.block_ring.specs.BlockSet.{BlockSet}
use Rattle.fs_types.specs.declared.fault.Fault.{Fault}
use Rattle.fs_types.specs.declared.fault.Fault.TheVariants.{Damaged}
use Rattle.node_format.specs.declared.place.Place.TheVariants.{Dir}
use Rattle.nodes.specs.PageCounts.{pages_for}
use Rattle.nodes.specs.Bodies.{Blocks}
use Rattle.nodes.specs.TreeLaws.{IsShallow}
use Rattle.nodes.specs.Reached.{Reached}
use Rattle.directory.specs.Depths.{AreQuiet}
use Rattle.directory.specs.Lookups.{LeadsToDirectories}
use Rattle.reclaim.specs.Passes.{IsPass}
use Rattle.reclaim.specs.Sound.{HoldsLink, IsSoundNode}
use Rattle.reclaim.specs.Tables.{IsSized}
use Rattle.reclaim.specs.Verified.{HasCost, depth_reads, once_reads, once_pages, all_reads, all_pages}
use Rattle.reclaim.proofs.Costs.{none_read, looked_cost}
use Rattle.reclaim.proofs.DepthCosts.{depths_cost, depths_asked}
use Rattle.reclaim.proofs.HeadLengths.{heads_none}
use Rattle.reclaim.proofs.Looking.{never, look_read, look_other}
use Rattle.reclaim.proofs.NodeCalls.{looks_itself, cost_after, cost_answered, cost_damaged, cost_memory, cost_refused}
use Rattle.reclaim.proofs.Paths.{leveled_none, leveled_shallow, sound_names}
use Rattle.reclaim.proofs.Soundness.{sound_directories, sound_has_trees, trees_are_sound}
use Rattle.reclaim.proofs.Telling.{told_none, told_quiet}
use Rattle.reclaim.proofs.ToldTops.{tops_none}
use Rattle.reclaim.proofs.Verifying.{all_of, none_reached, roots_are_data}
use Rattle.reclaim.proofs.verification.verify.Goals as goal

pub are_whole-requires-clause-verifying : goal.are_whole-requires-clause-verifying
are_whole-requires-clause-verifying g c = record {
  size = c.in_ok-pass.ensures.begun.0 ∙ c.requires.blocks;
  noted = record {
    pass = c.in_ok-pass.ensures.pass (g.N.Nodes.node c.args.nodes.now);
    told =
        told_none (g.N.Nodes.node c.args.nodes.now) c.in_ok-pass.pass c.in_ok-table.table c.in_ok-pass.ensures.begun.2 (subst (λ (n : ℕ). IsSized n c.in_ok-table.table) (sym c.in_ok-pass.ensures.begun.0) c.in_ok-table.ensures.sized)
        c.in_ok-table.ensures.none.0 c.in_ok-table.ensures.none.1 c.in_ok-table.ensures.none.2;
    leveled = leveled_none (g.N.Nodes.node c.args.nodes.now) c.in_ok-pass.pass c.new-levels.result c.in_ok-pass.ensures.begun.2;
  };
  told = record {
    size = record { words = c.in_ok-tops.ensures.sized.words ∙ sym c.in_ok-pass.ensures.begun.0; read = c.in_ok-tops.ensures.sized.read ∙ sym c.in_ok-pass.ensures.begun.0 };
    heads =
        heads_none (g.N.Nodes.limit c.args.nodes.now - 80) (g.N.Nodes.node c.args.nodes.now) c.in_ok-pass.pass c.in_ok-table.table c.in_ok-pass.ensures.begun.2
        (λ b high. g.met.N.Nodes.none_beyond c.args.nodes.now b (subst (λ (n : ℕ). n ≤ b) (c.in_ok-table.ensures.sized.links ∙ c.requires.blocks) high))
        c.in_ok-table.ensures.none.0 c.in_ok-table.ensures.none.3 c.in_ok-table.ensures.words;
    tops =
        tops_none (g.N.Nodes.node c.args.nodes.now) c.in_ok-pass.pass c.in_ok-tops.tops c.in_ok-pass.ensures.begun.2
        (λ b high. g.met.N.Nodes.none_beyond c.args.nodes.now b (subst (λ (n : ℕ). n ≤ b) (c.in_ok-tops.ensures.sized.words ∙ c.requires.blocks) high)) c.in_ok-tops.ensures.none c.in_ok-tops.ensures.words;
  };
}

pub returns-then-not-are_data_blocks-clause-damaged : goal.returns-then-not-are_data_blocks-clause-damaged
returns-then-not-are_data_blocks-clause-damaged g c _ both =
    let all = roots_are_data (g.N.Nodes.limit c.args.nodes.now) c.args.blocks (g.N.Nodes.node c.args.nodes.now) c.args.roots.now
    (λ b low. g.met.N.Nodes.none_below c.args.nodes.now b low)
    (λ b high. g.met.N.Nodes.none_beyond c.args.nodes.now b (subst (λ (n : ℕ). n ≤ b) c.requires.blocks high))
    both.0 in
    never (sym c.if-not-are_data_blocks.true ∙ c.are_data_blocks.ensures.1 all)

pub are_shallow-requires-clause-known : goal.are_shallow-requires-clause-known
are_shallow-requires-clause-known g c hold =
    let f = g.N.Nodes.node c.args.nodes.now in
    let q = c.are_whole.new.pass in
    let roots = c.args.roots.now in
    let found = c.in_ok-are_whole.ensures.whole in
    let read = found.read c.if-not-are_whole.false in
    let whole = found.whole c.if-not-are_whole.false in
    let same : q.roots ≡ roots = c.are_whole.ensures.on.roots ∙ c.in_ok-pass.ensures.begun.1 in
    let sound : (b : ℕ) → Reached f q.roots b → IsSoundNode (g.N.Nodes.limit c.args.nodes.now - 80) f b = λ b reached. whole.nodes b (subst (λ (l : List ℕ). Reached f l b) same reached) in
    subst (λ (h : Blocks). All (λ root. IsShallow h (Dir root) 16) roots) (sym c.are_whole.ensures.calls.looks.same_nodes)
    (leveled_shallow f q c.are_whole.new.levels found.noted.pass read.finished hold found.noted.leveled (sound_names (g.N.Nodes.limit c.args.nodes.now - 80) f q found.noted.pass sound) roots same whole.directories)

pub are_shallow-requires-clause-quiet : goal.are_shallow-requires-clause-quiet
are_shallow-requires-clause-quiet g c =
    let f = g.N.Nodes.node c.args.nodes.now in
    let found = c.in_ok-are_whole.ensures.whole in
    let table = c.are_whole.new.table in
    let gone = c.into_quiet-quiet in
    let quiet : gone.result.0.members ≡ table.quiet.members = ap (λ (q : BlockSet). q.members) gone.ensures.0 in
    let words : gone.result.1 ≡ table.words = gone.ensures.1 in
    subst (λ (h : Blocks). AreQuiet h gone.result.0.members gone.result.1) (sym c.are_whole.ensures.calls.looks.same_nodes)
    (subst (λ (m : set.FinSet nat_cmp). AreQuiet f m gone.result.1) (sym quiet)
    (subst (λ (xs : List ℕ). AreQuiet f table.quiet.members xs) (sym words) (told_quiet f c.are_whole.new.pass table found.noted.told)))

pub returns-in_err-are_whole-clause-damaged : goal.returns-in_err-are_whole-clause-damaged
returns-in_err-are_whole-clause-damaged g c damaged both =
    let p = err_from_is_err_and c.from_residual-in_err-are_whole.result c.from_residual-in_err-are_whole.ensures.1 in
    let is : p.0 ≡ Damaged = cc in
    none_reached (g.N.Nodes.limit c.args.nodes.now) (g.N.Nodes.node c.args.nodes.now) c.args.roots.now c.args.roots.now refl (c.in_err-are_whole.ensures.damaged (ap (λ (e : Fault). Err e) (sym p.2 ∙ is))) both.0

pub returns-then-not-are_whole-clause-damaged : goal.returns-then-not-are_whole-clause-damaged
returns-then-not-are_whole-clause-damaged g c _ both = c.in_ok-are_whole.ensures.whole.bad c.if-not-are_whole.true both

pub are_shallow-requires-clause-whole : goal.are_shallow-requires-clause-whole
are_shallow-requires-clause-whole g c =
    let f = g.N.Nodes.node c.args.nodes.now in
    let roots = c.args.roots.now in
    let found = c.in_ok-are_whole.ensures.whole in
    let whole = found.whole c.if-not-are_whole.false in
    subst (λ (h : Blocks). (root : ℕ) → Contains roots root → LeadsToDirectories h root) (sym c.are_whole.ensures.calls.looks.same_nodes)
    (λ root within. sound_directories (g.N.Nodes.limit c.args.nodes.now - 80) f roots whole.nodes root within (All-contains (HoldsLink f) roots root whole.directories within))

pub returns-in_err-are_shallow-clause-damaged : goal.returns-in_err-are_shallow-clause-damaged
returns-in_err-are_shallow-clause-damaged g c damaged both =
    let p = err_from_is_err_and c.from_residual-in_err-are_shallow.result c.from_residual-in_err-are_shallow.ensures.1 in
    let is : p.0 ≡ Damaged = cc in
    look_other c.in_err-are_shallow.field-0.0 c.in_err-are_shallow.ensures.calls.faults (sym p.2 ∙ is)

pub returns-then-not-are_shallow-clause-damaged : goal.returns-then-not-are_shallow-clause-damaged
returns-then-not-are_shallow-clause-damaged g c _ both =
    let f = g.N.Nodes.node c.args.nodes.now in
    let roots = c.args.roots.now in
    let exact : IsTrue c.in_ok-are_shallow.are_shallow ↔ All (λ root. IsShallow f (Dir root) 16) roots =
    subst (λ (h : Blocks). IsTrue c.in_ok-are_shallow.are_shallow ↔ All (λ root. IsShallow h (Dir root) 16) roots) c.are_whole.ensures.calls.looks.same_nodes c.in_ok-are_shallow.ensures.exact in
    never (sym c.if-not-are_shallow.true ∙ exact.1 (all_of (λ root. IsShallow f (Dir root) 16) roots (trees_are_sound (g.N.Nodes.limit c.args.nodes.now - 80) f roots both.0).shallow))

pub returns-clause-trees : goal.returns-clause-trees
returns-clause-trees g c =
    let f = g.N.Nodes.node c.args.nodes.now in
    let roots = c.args.roots.now in
    let found = c.in_ok-are_whole.ensures.whole in
    let whole = found.whole c.if-not-are_whole.false in
    let exact : IsTrue c.in_ok-are_shallow.are_shallow ↔ All (λ root. IsShallow f (Dir root) 16) roots =
    subst (λ (h : Blocks). IsTrue c.in_ok-are_shallow.are_shallow ↔ All (λ root. IsShallow h (Dir root) 16) roots) c.are_whole.ensures.calls.looks.same_nodes c.in_ok-are_shallow.ensures.exact in (
      sound_has_trees (g.N.Nodes.limit c.args.nodes.now - 80) f roots (record {
        nodes = whole.nodes;
        directories = λ root within. All-contains (HoldsLink f) roots root whole.directories within;
        shallow = λ root within. All-contains (λ root. IsShallow f (Dir root) 16) roots root (exact.0 c.if-not-are_shallow.false) within;
      }),
      whole.alone,
    )

pub returns-clause-pass : goal.returns-clause-pass
returns-clause-pass g c =
    let found = c.in_ok-are_whole.ensures.whole in
    let read = found.read c.if-not-are_whole.false in
    (subst (λ (h : Blocks). IsPass h c.are_whole.new.pass) (sym (c.are_shallow.ensures.calls.looks.same_nodes ∙ c.are_whole.ensures.calls.looks.same_nodes)) found.noted.pass, read.finished)

pub returns-clause-of : goal.returns-clause-of
returns-clause-of g c = (c.are_whole.ensures.on.blocks ∙ c.in_ok-pass.ensures.begun.0, c.are_whole.ensures.on.roots ∙ c.in_ok-pass.ensures.begun.1)

pub returns-then-not-are_data_blocks-clause-asks : goal.returns-then-not-are_data_blocks-clause-asks
returns-then-not-are_data_blocks-clause-asks g c =
    let s = c.args.nodes.now in
    none_read (all_pages (g.N.Nodes.page s) (g.N.Nodes.limit s)) (g.N.Nodes.node s) c.args.roots.now (g.N.Nodes.asked s)

pub returns-in_err-pass-clause-asks : goal.returns-in_err-pass-clause-asks
returns-in_err-pass-clause-asks g c =
    let s = c.args.nodes.now in
    none_read (all_pages (g.N.Nodes.page s) (g.N.Nodes.limit s)) (g.N.Nodes.node s) c.args.roots.now (g.N.Nodes.asked s)

pub returns-in_err-table-clause-asks : goal.returns-in_err-table-clause-asks
returns-in_err-table-clause-asks g c =
    let s = c.args.nodes.now in
    none_read (all_pages (g.N.Nodes.page s) (g.N.Nodes.limit s)) (g.N.Nodes.node s) c.args.roots.now (g.N.Nodes.asked s)

pub returns-in_err-tops-clause-asks : goal.returns-in_err-tops-clause-asks
returns-in_err-tops-clause-asks g c =
    let s = c.args.nodes.now in
    none_read (all_pages (g.N.Nodes.page s) (g.N.Nodes.limit s)) (g.N.Nodes.node s) c.args.roots.now (g.N.Nodes.asked s)

pub returns-in_err-are_whole-clause-asks : goal.returns-in_err-are_whole-clause-asks
returns-in_err-are_whole-clause-asks g c =
    let s = c.args.nodes.now in
    let unit = pages_for (g.N.Nodes.page s) (g.N.Nodes.limit s) in
    looked_cost (once_pages (g.N.Nodes.page s) (g.N.Nodes.limit s)) (λ node. depth_reads node * unit) (g.N.Nodes.node s) c.args.roots.now c.args.roots.now (g.N.Nodes.asked s) (g.N.Nodes.asked c.are_whole.new.nodes) refl c.are_whole.ensures.asks

pub returns-then-not-are_whole-clause-asks : goal.returns-then-not-are_whole-clause-asks
returns-then-not-are_whole-clause-asks g c =
    let s = c.args.nodes.now in
    let unit = pages_for (g.N.Nodes.page s) (g.N.Nodes.limit s) in
    looked_cost (once_pages (g.N.Nodes.page s) (g.N.Nodes.limit s)) (λ node. depth_reads node * unit) (g.N.Nodes.node s) c.args.roots.now c.args.roots.now (g.N.Nodes.asked s) (g.N.Nodes.asked c.are_whole.new.nodes) refl c.are_whole.ensures.asks

pub returns-then-not-are_data_blocks-clause-calls : goal.returns-then-not-are_data_blocks-clause-calls
returns-then-not-are_data_blocks-clause-calls g c = cost_damaged (looks_itself g.N.Nodes g.met.N.Nodes.follows_itself c.args.nodes.now c.requires.sound) (none_read all_reads (g.N.Nodes.node c.args.nodes.now) c.args.roots.now (g.N.Nodes.reads c.args.nodes.now))

pub returns-in_err-pass-clause-calls : goal.returns-in_err-pass-clause-calls
returns-in_err-pass-clause-calls g c =
    let p = err_from_is_err_and c.from_residual.result c.from_residual.ensures.1 in
    rw (p.1, p.2) (cost_memory g.met.N.Nodes.memory_may_want c.in_err-pass.ensures.memory (looks_itself g.N.Nodes g.met.N.Nodes.follows_itself c.args.nodes.now c.requires.sound) (none_read all_reads (g.N.Nodes.node c.args.nodes.now) c.args.roots.now (g.N.Nodes.reads c.args.nodes.now)))

pub returns-in_err-table-clause-calls : goal.returns-in_err-table-clause-calls
returns-in_err-table-clause-calls g c =
    let p = err_from_is_err_and c.from_residual-in_err-table.result c.from_residual-in_err-table.ensures.1 in
    rw (p.1, p.2) (cost_memory g.met.N.Nodes.memory_may_want c.in_err-table.ensures.memory (looks_itself g.N.Nodes g.met.N.Nodes.follows_itself c.args.nodes.now c.requires.sound) (none_read all_reads (g.N.Nodes.node c.args.nodes.now) c.args.roots.now (g.N.Nodes.reads c.args.nodes.now)))

pub returns-in_err-tops-clause-calls : goal.returns-in_err-tops-clause-calls
returns-in_err-tops-clause-calls g c =
    let p = err_from_is_err_and c.from_residual-in_err-tops.result c.from_residual-in_err-tops.ensures.1 in
    rw (p.1, p.2) (cost_memory g.met.N.Nodes.memory_may_want c.in_err-tops.ensures.memory (looks_itself g.N.Nodes g.met.N.Nodes.follows_itself c.args.nodes.now c.requires.sound) (none_read all_reads (g.N.Nodes.node c.args.nodes.now) c.args.roots.now (g.N.Nodes.reads c.args.nodes.now)))

pub returns-in_err-are_whole-clause-calls : goal.returns-in_err-are_whole-clause-calls
returns-in_err-are_whole-clause-calls g c =
    let p = err_from_is_err_and c.from_residual-in_err-are_whole.result c.from_residual-in_err-are_whole.ensures.1 in
    rw (p.1, p.2) (cost_refused c.in_err-are_whole.ensures.calls (looked_cost once_reads depth_reads (g.N.Nodes.node c.args.nodes.now) c.args.roots.now c.args.roots.now (g.N.Nodes.reads c.args.nodes.now) (g.N.Nodes.reads c.are_whole.new.nodes) refl c.are_whole.ensures.calls.reads))

pub returns-then-not-are_whole-clause-calls : goal.returns-then-not-are_whole-clause-calls
returns-then-not-are_whole-clause-calls g c = cost_damaged c.are_whole.ensures.calls.looks (looked_cost once_reads depth_reads (g.N.Nodes.node c.args.nodes.now) c.args.roots.now c.args.roots.now (g.N.Nodes.reads c.args.nodes.now) (g.N.Nodes.reads c.are_whole.new.nodes) refl c.are_whole.ensures.calls.reads)

pub returns-in_err-are_shallow-clause-calls : goal.returns-in_err-are_shallow-clause-calls
returns-in_err-are_shallow-clause-calls g c =
    let found = c.in_ok-are_whole.ensures.whole in
    let cost = depths_cost c.args.nodes.now c.are_whole.new.nodes c.are_shallow.new.nodes c.args.roots.now c.args.plain c.are_whole.new.pass c.are_whole.new.table c.are_whole.new.levels c.into_quiet-quiet.result.0.members c.are_whole.ensures.calls.looks
    (c.are_whole.ensures.on.roots ∙ c.in_ok-pass.ensures.begun.1) found.noted (found.read c.if-not-are_whole.false) (found.whole c.if-not-are_whole.false) (ap (λ (q : BlockSet). q.members) c.into_quiet-quiet.ensures.0) c.are_shallow.ensures.calls.reads in
    let p = err_from_is_err_and c.from_residual-in_err-are_shallow.result c.from_residual-in_err-are_shallow.ensures.1 in
    rw (p.1, p.2) (cost_refused (cost_after {HasReads = HasCost all_reads (g.N.Nodes.node c.args.nodes.now) c.args.roots.now} g.met.N.Nodes.looks_on g.met.N.Nodes.causes_on c.args.nodes.now c.are_whole.new.nodes c.are_shallow.new.nodes look_read c.are_whole.ensures.calls.looks c.in_err-are_shallow.ensures.calls cost) cost)

pub returns-in_err-are_shallow-clause-asks : goal.returns-in_err-are_shallow-clause-asks
returns-in_err-are_shallow-clause-asks g c =
    let mid = c.are_whole.new.nodes in
    let found = c.in_ok-are_whole.ensures.whole in
    depths_asked c.args.nodes.now c.are_whole.new.nodes c.are_shallow.new.nodes c.args.roots.now c.args.plain c.are_whole.new.pass c.are_whole.new.table c.are_whole.new.levels c.into_quiet-quiet.result.0.members c.are_whole.ensures.calls.looks
    (c.are_whole.ensures.on.roots ∙ c.in_ok-pass.ensures.begun.1) found.noted (found.read c.if-not-are_whole.false) (found.whole c.if-not-are_whole.false) (ap (λ (q : BlockSet). q.members) c.into_quiet-quiet.ensures.0) c.are_shallow.ensures.calls.reads
    (g.met.N.Nodes.same_page c.args.nodes.now mid c.are_whole.ensures.calls.looks.came) (g.met.N.Examines.asks_each mid c.are_shallow.new.nodes c.are_whole.ensures.calls.looks.sound c.are_shallow.ensures.calls.looks.came c.are_shallow.ensures.calls.looks.same_writes)

pub returns-then-not-are_shallow-clause-calls : goal.returns-then-not-are_shallow-clause-calls
returns-then-not-are_shallow-clause-calls g c =
    let found = c.in_ok-are_whole.ensures.whole in
    let cost = depths_cost c.args.nodes.now c.are_whole.new.nodes c.are_shallow.new.nodes c.args.roots.now c.args.plain c.are_whole.new.pass c.are_whole.new.table c.are_whole.new.levels c.into_quiet-quiet.result.0.members c.are_whole.ensures.calls.looks
    (c.are_whole.ensures.on.roots ∙ c.in_ok-pass.ensures.begun.1) found.noted (found.read c.if-not-are_whole.false) (found.whole c.if-not-are_whole.false) (ap (λ (q : BlockSet). q.members) c.into_quiet-quiet.ensures.0) c.are_shallow.ensures.calls.reads in
    cost_damaged (g.met.N.Nodes.looks_on c.args.nodes.now c.are_whole.new.nodes c.are_shallow.new.nodes c.are_whole.ensures.calls.looks c.are_shallow.ensures.calls.looks) cost

pub returns-then-not-are_shallow-clause-asks : goal.returns-then-not-are_shallow-clause-asks
returns-then-not-are_shallow-clause-asks g c =
    let mid = c.are_whole.new.nodes in
    let found = c.in_ok-are_whole.ensures.whole in
    depths_asked c.args.nodes.now c.are_whole.new.nodes c.are_shallow.new.nodes c.args.roots.now c.args.plain c.are_whole.new.pass c.are_whole.new.table c.are_whole.new.levels c.into_quiet-quiet.result.0.members c.are_whole.ensures.calls.looks
    (c.are_whole.ensures.on.roots ∙ c.in_ok-pass.ensures.begun.1) found.noted (found.read c.if-not-are_whole.false) (found.whole c.if-not-are_whole.false) (ap (λ (q : BlockSet). q.members) c.into_quiet-quiet.ensures.0) c.are_shallow.ensures.calls.reads
    (g.met.N.Nodes.same_page c.args.nodes.now mid c.are_whole.ensures.calls.looks.came) (g.met.N.Examines.asks_each mid c.are_shallow.new.nodes c.are_whole.ensures.calls.looks.sound c.are_shallow.ensures.calls.looks.came c.are_shallow.ensures.calls.looks.same_writes)

pub returns-clause-calls : goal.returns-clause-calls
returns-clause-calls g c =
    let found = c.in_ok-are_whole.ensures.whole in
    let cost = depths_cost c.args.nodes.now c.are_whole.new.nodes c.are_shallow.new.nodes c.args.roots.now c.args.plain c.are_whole.new.pass c.are_whole.new.table c.are_whole.new.levels c.into_quiet-quiet.result.0.members c.are_whole.ensures.calls.looks
    (c.are_whole.ensures.on.roots ∙ c.in_ok-pass.ensures.begun.1) found.noted (found.read c.if-not-are_whole.false) (found.whole c.if-not-are_whole.false) (ap (λ (q : BlockSet). q.members) c.into_quiet-quiet.ensures.0) c.are_shallow.ensures.calls.reads in
    cost_answered (g.met.N.Nodes.looks_on c.args.nodes.now c.are_whole.new.nodes c.are_shallow.new.nodes c.are_whole.ensures.calls.looks c.are_shallow.ensures.calls.looks) cost

pub returns-clause-asks : goal.returns-clause-asks
returns-clause-asks g c =
    let mid = c.are_whole.new.nodes in
    let found = c.in_ok-are_whole.ensures.whole in
    depths_asked c.args.nodes.now c.are_whole.new.nodes c.are_shallow.new.nodes c.args.roots.now c.args.plain c.are_whole.new.pass c.are_whole.new.table c.are_whole.new.levels c.into_quiet-quiet.result.0.members c.are_whole.ensures.calls.looks
    (c.are_whole.ensures.on.roots ∙ c.in_ok-pass.ensures.begun.1) found.noted (found.read c.if-not-are_whole.false) (found.whole c.if-not-are_whole.false) (ap (λ (q : BlockSet). q.members) c.into_quiet-quiet.ensures.0) c.are_shallow.ensures.calls.reads
    (g.met.N.Nodes.same_page c.args.nodes.now mid c.are_whole.ensures.calls.looks.came) (g.met.N.Examines.asks_each mid c.are_shallow.new.nodes c.are_whole.ensures.calls.looks.sound c.are_shallow.ensures.calls.looks.came c.are_shallow.ensures.calls.looks.same_writes)
