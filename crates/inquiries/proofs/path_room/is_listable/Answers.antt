use Rattle.std.proofs.Common.{Bool, [], refl, sym, subst}
use Rattle.std.specs.Bool.{Decides}
use Rattle.history_machine.specs.Machine.{view_tree}
use Rattle.fs_types.specs.Names.{Path}
use Rattle.fs_types.specs.declared.limits.TheConstants.{MAX_NAMES}
use Rattle.std.specs.Prelude.{sum_by}
use Rattle.inquiries.specs.Items.{IsDirectoryOf, items_below}
use Rattle.inquiries.specs.Listable.{IsListable, IsRoomLeft}
use Rattle.inquiries.specs.Owners.{item_owners}
use Rattle.inquiries.specs.PathBytes.{item_bytes}
use Rattle.inquiries.specs.Readings.{shown}
use Rattle.inquiries.proofs.Entries.{root_there, view-file_tree}
use Rattle.inquiries.proofs.PathRoom.{listable_left, sure_listable, whole_room}
use Rattle.inquiries.proofs.Readings.{unchanged-refl}
use Rattle.inquiries.proofs.path_room.is_listable.Goals as goal

pub returns-then-is_sure-clause-same : goal.returns-then-is_sure-clause-same
returns-then-is_sure-clause-same g c = unchanged-refl c.args.fs.now

pub returns-then-is_sure-clause-ok : goal.returns-then-is_sure-clause-ok
returns-then-is_sure-clause-ok g c =
    let m = shown c.args.fs.now in
    let t = view_tree m c.args.view.now in
    (λ any. sure_listable t (view-file_tree m c.args.view.now c.args.fs.now.mounted.mounted.machine) (c.is_sure.ensures t c.requires.size c.if-is_sure.true), λ listable. refl)

pub room_below-requires : goal.room_below-requires
room_below-requires g c = λ some.
    let m = shown c.args.fs.now in
    subst (λ (path : Path). IsDirectoryOf m c.args.view.now path) (sym c.root-root.ensures) (root_there m c.args.view.now c.args.fs.now.mounted.mounted.machine c.requires.view)

pub returns-clause-ok : goal.returns-clause-ok
returns-clause-ok g c =
    let t = view_tree (shown c.args.fs.now) c.args.view.now in
    let left = subst (λ (path : Path). IsRoomLeft whole_room (sum_by item_bytes (items_below t MAX_NAMES path)) (sum_by item_owners (items_below t MAX_NAMES path)) c.in_ok-left.left) c.root-root.ensures c.in_ok-left.ensures.ok in
    subst (λ (b : Bool). Decides b (IsListable t)) (sym c.is_some.ensures) (listable_left t c.in_ok-left.left left)
