use Rattle.std.proofs.Common.{◌≡◌, ℕ, ◌≤◌, ◌+◌, ◌-◌, ◌*◌, ◌/◌, length, take, drop, sym, ap, subst, ◌∙◌, arith}
use Rattle.std.proofs.lemmas.Result.{err_from_is_err_and}
use Rattle.std.specs.Prelude.{min}
use Rattle.std.specs.Option.{ForSome}
use Rattle.std.proofs.lemmas.List.{take_at}
use Rattle.node_format.specs.Headers.{body_header}
use Rattle.nodes.specs.PageCounts.{pages_for}
use Rattle.nodes.specs.Bodies.{Blocks, data_to, IsBody, IsChain}
use Rattle.tree_edits.specs.Reading.{HasDigits, IsNodeOf, nodes_between, nodes_of_range}
use Rattle.nodes.specs.WordLaws.{looks_answered, looks_refused}
use Rattle.tree_edits.proofs.KnownNodes.{found_node}
use Rattle.tree_edits.proofs.NodeCalls.{along_after, along_refused, along_wider, along_within}
use Rattle.tree_edits.proofs.Parts.{div_mono, range_found, body_read, some_nodes}
use Rattle.tree_edits.proofs.range_reads.read_range.Goals as goal
use Rattle.tree_edits.proofs.range_reads.read_range.Goals.{After-find_from, After-fill}
use Rattle.tree_edits.proofs.range_reads.read_range.Given.{Over}

module _ (g : Over) (c : After-find_from g) where
  -- the reads of the way to the node of the last byte
  way : (digits : ℕ) → HasDigits ((c.args.body.length - 1) / (g.N.Nodes.limit c.args.nodes.now - body_header)) digits → g.N.Nodes.reads c.find_from.new.nodes ≤ g.N.Nodes.reads c.args.nodes.now + 2 * digits
  way digits has = c.find_from.ensures.calls.reads digits (subst (λ (r : ℕ). HasDigits ((c.args.body.length - 1) / r) digits) (sym c.capacity_in-capacity.ensures.capacity) has)

  -- there is a byte to read
  some : nodes_of_range (g.N.Nodes.limit c.args.nodes.now - body_header) c.args.body.length c.args.offset c.args.count ≡ 0 → ⊥
  some none = (
      let capacity = c.capacity_in-capacity.ensures in
      let least = some_nodes (g.N.Nodes.limit c.args.nodes.now - body_header) c.args.body.length c.args.offset c.args.count (omega (arith, capacity.capacity, capacity.some)) (omega (arith, c.min-end.ensures, c.saturating_add.ensures, c.from.ensures)) in
      omega (arith, least, none)
      )

module _ (g : Over) (c : After-fill g) where
  nodes : nodes_between c.capacity_in-capacity.result c.args.offset c.min-end.result ≡ nodes_of_range (g.N.Nodes.limit c.args.nodes.now - body_header) c.args.body.length c.args.offset c.args.count
  nodes =
      let end_is : c.min-end.result ≡ min c.args.body.length (c.args.offset + c.args.count) = omega (arith, c.min-end.ensures, c.saturating_add.ensures, c.from.ensures) in
      ap (λ (r : ℕ). nodes_between r c.args.offset c.min-end.result) c.capacity_in-capacity.ensures.capacity ∙ ap (nodes_between (g.N.Nodes.limit c.args.nodes.now - body_header) c.args.offset) end_is

  -- the pages of the way, and those of the nodes
  pages_both : (hops : ℕ) → g.N.Nodes.reads c.find_from.new.nodes ≤ g.N.Nodes.reads c.args.nodes.now + hops
      → g.N.Nodes.asked c.fill.new.nodes ≤ g.N.Nodes.asked c.args.nodes.now + (nodes_of_range (g.N.Nodes.limit c.args.nodes.now - body_header) c.args.body.length c.args.offset c.args.count * pages_for (g.N.Nodes.page c.args.nodes.now) (g.N.Nodes.limit c.args.nodes.now) + hops)
  pages_both hops few =
      let old = c.args.nodes.now in
      let mid = c.find_from.new.nodes in
      let by_way : g.N.Nodes.asked mid ≤ g.N.Nodes.asked old + hops = omega (arith, c.find_from.ensures.asks, few) in
      let same_pages = ap (λ (n : ℕ). pages_for n (g.N.Nodes.limit mid)) (g.met.N.Nodes.same_page old mid c.find_from.ensures.calls.looks.came) ∙ ap (pages_for (g.N.Nodes.page old)) c.find_from.ensures.calls.looks.same_limit in
      let by_nodes = subst (λ (n : ℕ). g.N.Nodes.asked c.fill.new.nodes ≤ g.N.Nodes.asked mid + n * pages_for (g.N.Nodes.page old) (g.N.Nodes.limit old)) nodes
      (subst (λ (n : ℕ). g.N.Nodes.asked c.fill.new.nodes ≤ g.N.Nodes.asked mid + nodes_between c.capacity_in-capacity.result c.args.offset c.min-end.result * n) same_pages c.fill.ensures.asks) in
      omega (arith, by_way, by_nodes)

pub returns-in_err-block-clause-unread : goal.returns-in_err-block-clause-unread
returns-in_err-block-clause-unread g c = λ none. absurd (some g (goal.at.returns-in_err-block-clause-unread g c).After-find_from none)

pub returns-in_err-fill-clause-unread : goal.returns-in_err-fill-clause-unread
returns-in_err-fill-clause-unread g c = λ none. absurd (some g (goal.at.returns-in_err-fill-clause-unread g c).After-find_from none)

pub returns-clause-unread : goal.returns-clause-unread
returns-clause-unread g c = λ none. absurd (some g (goal.at.returns-clause-unread g c).After-find_from none)

pub fill-requires-clause-range : goal.fill-requires-clause-range
fill-requires-clause-range g c =
    let f = g.N.Nodes.node c.args.nodes.now in
    let capacity = c.capacity_in-capacity.ensures in
    let range = range_found (g.N.Nodes.limit c.args.nodes.now - body_header) c.capacity_in-capacity.result f c.args.body.head c.args.body.length c.args.offset c.min-end.result c.in_ok-block.block capacity.capacity capacity.some
    (omega arith) (omega (arith, c.min-end.ensures, c.from.ensures)) c.requires.body c.in_ok-block.ensures.found in
    let same_nodes = c.find_from.ensures.calls.looks.same_nodes in
    let same = ap (λ (blocks : Blocks). length (data_to blocks ((c.min-end.result - 1) / c.capacity_in-capacity.result) c.in_ok-block.block)) same_nodes in
    record {
      order = omega arith;
      chain = subst (λ (blocks : Blocks). IsChain c.capacity_in-capacity.result blocks ((c.min-end.result - 1) / c.capacity_in-capacity.result) c.in_ok-block.block) (sym same_nodes) range.chain;
      within = omega (arith, range.within, same);
    }

pub returns-in_err-block-clause-asks : goal.returns-in_err-block-clause-asks
returns-in_err-block-clause-asks g c digits has = omega (arith, c.find_from.ensures.asks, way g (goal.at.returns-in_err-block-clause-asks g c).After-find_from digits has)

pub returns-in_err-fill-clause-asks : goal.returns-in_err-fill-clause-asks
returns-in_err-fill-clause-asks g c digits has =
    let t = goal.at.returns-in_err-fill-clause-asks g c in
    pages_both g t.After-fill (2 * digits) (way g t.After-find_from digits has)

pub returns-clause-asks : goal.returns-clause-asks
returns-clause-asks g c digits has =
    let t = goal.at.returns-clause-asks g c in
    pages_both g t.After-fill (2 * digits) (way g t.After-find_from digits has)

pub returns-clause-read : goal.returns-clause-read
returns-clause-read g c =
    let f = g.N.Nodes.node c.args.nodes.now in
    let limit = g.N.Nodes.limit c.args.nodes.now - body_header in
    let capacity = c.capacity_in-capacity.ensures in
    let block = c.in_ok-block.block in
    let index = (c.min-end.result - 1) / c.capacity_in-capacity.result in
    let end_is : c.min-end.result ≡ min c.args.body.length (c.args.offset + c.args.count) = omega (arith, c.min-end.ensures, c.saturating_add.ensures, c.from.ensures) in
    let range = range_found limit c.capacity_in-capacity.result f c.args.body.head c.args.body.length c.args.offset c.min-end.result block capacity.capacity capacity.some (omega arith) (omega arith) c.requires.body c.in_ok-block.ensures.found in
    let out = c.fill.new.out in
    let long : length out ≡ c.in_ok-bytes.bytes.len = omega (arith, c.fill.auto.out, c.deref_mut.ensures.len) in
    c.from_vec.ensures
    ∙ take_at out (drop (length out) c.in_ok-bytes.bytes.items) c.in_ok-bytes.bytes.len long
    ∙ c.in_ok-fill.ensures.filled
    ∙ ap (λ (blocks : Blocks). take (c.min-end.result - c.args.offset) (drop c.args.offset (data_to blocks index block))) c.in_ok-block.ensures.calls.looks.same_nodes
    ∙ body_read limit c.capacity_in-capacity.result f c.args.body.head c.args.body.length c.args.offset c.args.count c.min-end.result block capacity.capacity end_is (omega arith) c.requires.body range

pub returns-in_err-block-clause-calls : goal.returns-in_err-block-clause-calls
returns-in_err-block-clause-calls g c =
    let t = goal.at.returns-in_err-block-clause-calls g c in
    let p = err_from_is_err_and c.from_residual-in_err-block.result c.from_residual-in_err-block.ensures.1 in
    rw (p.1, p.2) (along_wider (along_refused c.in_err-block.ensures.calls) (λ digits has. omega (arith, way g t.After-find_from digits has)))

pub returns-in_err-fill-clause-calls : goal.returns-in_err-fill-clause-calls
returns-in_err-fill-clause-calls g c =
    let t = goal.at.returns-in_err-fill-clause-calls g c in
    let p = err_from_is_err_and c.from_residual-in_err-fill.result c.from_residual-in_err-fill.ensures.1 in
    rw (p.1, p.2) (along_after g.met.N.Nodes.looks_on g.met.N.Nodes.causes_on c.args.nodes.now c.find_from.new.nodes c.fill.new.nodes c.find_from.ensures.calls.looks (along_within 0 (looks_refused c.in_err-fill.ensures.calls))
    (λ digits has. omega (arith, way g t.After-find_from digits has, nodes g t.After-fill, c.fill.ensures.calls.reads)))

pub returns-clause-calls : goal.returns-clause-calls
returns-clause-calls g c =
    let t = goal.at.returns-clause-calls g c in
    along_after g.met.N.Nodes.looks_on g.met.N.Nodes.causes_on c.args.nodes.now c.find_from.new.nodes c.fill.new.nodes c.find_from.ensures.calls.looks (along_within 0 (looks_answered c.in_ok-fill.ensures.calls))
    (λ digits has. omega (arith, way g t.After-find_from digits has, nodes g t.After-fill, c.fill.ensures.calls.reads))

pub find_from-requires-clause-holds : goal.find_from-requires-clause-holds
find_from-requires-clause-holds g c =
    let capacity = c.capacity_in-capacity.ensures in
    record { capacity_is = capacity.capacity; least = capacity.some; whole = subst (λ (r : ℕ). IsBody r (g.N.Nodes.node c.args.nodes.now) c.args.body.head c.args.body.length) (sym capacity.capacity) c.requires.body }

pub find_from-requires-clause-known : goal.find_from-requires-clause-known
find_from-requires-clause-known g c =
    subst (λ (r : ℕ). ForSome c.args.known (IsNodeOf r (g.N.Nodes.node c.args.nodes.now) c.args.body)) (sym c.capacity_in-capacity.ensures.capacity) c.requires.known

pub returns-clause-known : goal.returns-clause-known
returns-clause-known g c =
    found_node (g.N.Nodes.limit c.args.nodes.now - body_header) c.capacity_in-capacity.result (g.N.Nodes.node c.args.nodes.now) c.args.body _ c.in_ok-block.block c.capacity_in-capacity.ensures.capacity (div_mono c.capacity_in-capacity.result (c.min-end.result - 1) (c.args.body.length - 1) c.capacity_in-capacity.ensures.some (omega (arith, c.min-end.ensures, c.from.ensures))) c.in_ok-block.ensures.found
