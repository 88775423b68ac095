use Rattle.std.proofs.Common.{◌<◌, ◌||◌, ◌&&◌, List, nat_lt, ap, sym, ◌∙◌, arith}
use Rattle.std.specs.FinSet as set
use Rattle.block_ring.specs.BlockSet.{BlockSet}
use Rattle.node_format.specs.Items.{Item}
use Rattle.node_format.specs.declared.place.Place.{Place}
use Rattle.directory.specs.Depths.{names_directory, is_directory_at}
use Rattle.directory.proofs.Levels.{added_one}
use Rattle.directory.proofs.depths.add_directories.Goals as goal

pub loop-entry-preserved-then-block-blocks : goal.loop-entry-preserved-then-block-blocks
loop-entry-preserved-then-block-blocks c =
    let before = c.loop-entry.found in
    let below : c.in-Dir.block < before.blocks = omega (arith, c.if-block-blocks.true, c.blocks-in-Dir.ensures) in
    record {
      added = λ b.
          ap (λ (s : BlockSet). set.contains s.members b || (nat_lt b s.blocks && names_directory c.next.new.self b)) c.insert.ensures
          ∙ added_one before.members before.blocks c.in-Dir.block b (names_directory c.next.new.self b) below
          ∙ ap (λ (place : Place). set.contains before.members b || (nat_lt b before.blocks && (is_directory_at place b || names_directory c.next.new.self b))) c.in-Dir.ensures
          ∙ ap (λ (items : List Item). set.contains before.members b || (nat_lt b before.blocks && names_directory items b)) (sym c.in-Some.ensures.steps)
          ∙ c.loop-entry.invariant.added b;
      size = ap (λ (s : BlockSet). s.blocks) c.insert.ensures ∙ c.loop-entry.invariant.size;
    }
