-- What the depths cost after all was found whole but for these.
use Rattle.std.proofs.Common.{◌≡◌, ◌↔◌, ℕ, ◌+◌, ◌*◌, ◌-◌, ◌≤◌, Bool, true, false, Some, List, length, sym, ap, subst, ◌∙◌}
use Rattle.std.specs.FinSet as set
use Rattle.std.specs.List.{filter}
use Rattle.std.specs.Ordering.{nat_cmp}
use Rattle.std.specs.Prelude.{Contains}
use Rattle.std.proofs.lemmas.List.Elements.{All-contains}
use Rattle.node_format.specs.Links.{Link}
use Rattle.nodes.specs.Bodies.{Blocks}
use Rattle.nodes.specs.Chains.{link_of}
use Rattle.nodes.specs.Reached.{Reached}
use Rattle.directory.specs.Depths.{HasDirectories, loud_of}
use Rattle.nodes.specs.PageCounts.{pages_for}
use Rattle.nodes.specs.Words.{Looks}
use Rattle.nodes.specs.declared.nodes.Nodes.{Ghosts}
use Rattle.reclaim.specs.Calls.{HasReadAll}
use Rattle.reclaim.specs.Passes.{Pass}
use Rattle.reclaim.specs.Sound.{HoldsLink}
use Rattle.reclaim.specs.Verified.{AreWhole, HasCost, name_any_directory, all_reads, all_pages}
use Rattle.reclaim.specs.Verifying.{HasNoted, ReadsDepths}
use Rattle.reclaim.specs.declared.levels.Levels.{Levels}
use Rattle.reclaim.specs.declared.table.Table.{Table}
use Rattle.reclaim.proofs.Costs.{holds_link, depth_cost, depth_pages, reached_directories}
use Rattle.reclaim.proofs.Looked.{all_seen}
use Rattle.reclaim.proofs.Marking.{pass_marks}
use Rattle.reclaim.proofs.Telling.{told_silent}

module _ {S : Type 0} {N : Ghosts S} (s t u : S) (roots : List ℕ) (plain : Bool) (p : Pass) (table : Table) (v : Levels) (quiet : set.FinSet nat_cmp) (looks : Looks N s t) (of : p.roots ≡ roots)
    (noted : HasNoted (N.node s) p table v) (read : HasReadAll N s t p) (whole : AreWhole (N.limit s) (N.node s) roots plain) (known : quiet ≡ table.quiet.members)
    (depths : ReadsDepths (N.node t) (N.blocks t) roots quiet (N.reads t) (N.reads u)) where
  marks : (b : ℕ) → Contains p.order b ↔ Reached (N.node s) roots b
  marks = subst (λ (l : List ℕ). (b : ℕ) → Contains p.order b ↔ Reached (N.node s) l b) of (pass_marks (N.node s) p noted.pass read.finished)

  levels : N.reads u ≤ N.reads t + (16 * length (loud_of quiet (filter (holds_link (N.node s)) p.order)) + length (filter (holds_link (N.node s)) p.order))
  levels =
      depths (filter (holds_link (N.node s)) p.order)
      (subst (λ (f : Blocks). HasDirectories f (N.blocks t) roots (filter (holds_link (N.node s)) p.order)) (sym looks.same_nodes)
      (reached_directories (N.limit s - 80) (N.blocks t) (N.node s) roots p.order (λ b. (marks b).1) (λ b. (marks b).0) whole.nodes (λ root within. All-contains (HoldsLink (N.node s)) roots root whole.directories within)))

  silent : (b : ℕ) (l : Link) → Contains p.order b → link_of (N.node s b) ≡ Some l → name_any_directory l.items ≡ false → set.contains quiet b ≡ true
  silent b l has is none = subst (λ (m : set.FinSet nat_cmp). set.contains m b ≡ true) (sym known) (told_silent (N.node s) p table b l noted.told (all_seen (N.node s) p noted.pass read.finished b has) is none)

  pub depths_cost : HasCost all_reads (N.node s) roots (N.reads s) (N.reads u)
  depths_cost = depth_cost (N.node s) roots p quiet noted.pass of silent (N.reads s) (N.reads t) (N.reads u) read.reads levels

  -- in pages, where a read asks no more than a block has
  pub depths_asked : N.page t ≡ N.page s → N.asked u + N.reads t * pages_for (N.page t) (N.limit t) ≤ N.asked t + N.reads u * pages_for (N.page t) (N.limit t)
      → HasCost (all_pages (N.page s) (N.limit s)) (N.node s) roots (N.asked s) (N.asked u)
  depths_asked same_page each =
      let unit : pages_for (N.page t) (N.limit t) ≡ pages_for (N.page s) (N.limit s) = ap (λ (n : ℕ). pages_for n (N.limit t)) same_page ∙ ap (pages_for (N.page s)) looks.same_limit in
      depth_pages (N.node s) roots p quiet noted.pass of silent (N.page s) (N.limit s) (N.asked s) (N.asked t) (N.asked u) (N.reads t) (N.reads u) read.asked
      (subst (λ (n : ℕ). N.asked u + N.reads t * n ≤ N.asked t + N.reads u * n) unit each) levels
