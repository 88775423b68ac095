use Rattle.std.proofs.Common.{◌≡◌, ◌≢◌, ℕ, true, Option, Some, List, sym, subst, ◌∙◌}
use Rattle.std.specs.Prelude.{Contains}
use Rattle.std.proofs.lemmas.Result.{on_ok_weaker}
use Rattle.fields.proofs.Found.{some_is}
use Rattle.reclaim.specs.Levels.{GoesWith, level}
use Rattle.reclaim.specs.declared.levels.Levels.{Levels}
use Rattle.reclaim.proofs.Standing.{IsPut, stands_first, directories_stand, after_stands, later_stand}
use Rattle.reclaim.proofs.levels.Levels.take_in.Goals as goal
use Rattle.reclaim.proofs.levels.Levels.take_in.Goals.{then-next-ne0+in_ok-put-2, else-next-ne0}

pub returns-clause-still : goal.returns-clause-still
returns-clause-still c = on_ok_weaker c.put_all.result (λ still n is hold goes.
    let v : Levels = c.args.self.now in
    let u : Levels = c.put.new.self in
    let next = c.in-Some.next in
    let own = c.get-own.result in
    let here : GoesWith v c.args.block next c.args.is_empty c.args.directories.now =
    subst (λ (m : ℕ). GoesWith v c.args.block m c.args.is_empty c.args.directories.now) (some_is n next (sym is ∙ c.in-Some.is)) goes in
    let first : IsPut v u c.args.block 1 = record { goes = c.in_ok-put.ensures.goes; others = c.in_ok-put.ensures.others; own = c.in_ok-put.ensures.own; size = c.in_ok-put.ensures.size } in
    let at : own ≡ level u c.args.block = c.get-own.ensures in
    let held : u.hold ≡ true = c.in_ok-put.ensures.still hold (stands_first v c.args.block here.there) in
    elim c.if-next-ne0.branch [
      | then-next-ne0+in_ok-put-2 q ↦
          let w : Levels = q.put-then-next-ne0.new.self in
          let second : IsPut u w next own = record { goes = q.in_ok-put-2.ensures.goes; others = q.in_ok-put-2.ensures.others; own = q.in_ok-put-2.ensures.own; size = q.in_ok-put-2.ensures.size } in
          still
          (rw q.self-is (q.in_ok-put-2.ensures.still held (after_stands v u c.args.block next own c.args.is_empty c.args.directories.now first at here q.if-next-ne0.true)))
          (λ b has. rw q.self-is (later_stand v u c.args.block next own c.args.is_empty c.args.directories.now first at here w second b has))
      | else-next-ne0 q ↦
          still
          (rw q.self-is held)
          (λ b has. rw q.self-is (directories_stand v u c.args.block next own c.args.is_empty c.args.directories.now first at here b has))
    ]) c.put_all.ensures.still
