use Rattle.std.proofs.Common.{◌≡◌, ℕ, [], ◌∷◌, ◌++◌, ◌/◌, length, subst}
use Rattle.part_file.specs.Layout.{data_place, state_place, barrier_at}
use Rattle.host_interface.specs.Steps.{writes, Does, Becomes, KeepsOutside}
use Rattle.part_file.proofs.Failing.{data_fails, data_written, state_fails, state_written, fails_none, fails_then, on_err_always}
use Rattle.part_file.proofs.StepLemmas.{Does-then, Becomes-then, Becomes-barrier, on_ok, on_ok_always}
use Rattle.part_file.proofs.part_file.PartFile.program.Goals as goal

pub returns-clause-done : goal.returns-clause-done
returns-clause-done g c =
    let block = c.args.page / c.args.self.now.sizes.pages in
    let first_write = writes (data_place c.args.self.now.sizes c.args.page) c.args.bytes.now ∷ [] in
    let state = writes (state_place c.args.page) (1 ∷ []) ∷ [] in
    let start = g.B.Backing.steps c.args.self.now.backing in
    let written = g.B.Backing.steps c.write_at.new.self in
    let settled = g.B.Backing.steps c.settle.new.self.backing in
    let marked = g.B.Backing.steps c.write_at-2.new.self in
    let end = g.B.Backing.steps c.settle-2.new.self.backing in
    let first : Does start first_write written = subst (λ p. Does start (writes p c.args.bytes.now ∷ []) written) c.data_place-place.ensures c.in_ok-write_at.ensures.steps in
    let third : Does settled state marked = subst (λ p. Does settled (writes p (1 ∷ []) ∷ []) marked) c.state_place.ensures c.in_ok-write_at-2.ensures.steps in
    on_ok c.settle-2.result _ _
    (λ last. Does-then start written end first_write (barrier_at block ++ (state ++ barrier_at block)) first
    (Does-then written settled end (barrier_at block) (state ++ barrier_at block) c.in_ok-settle.ensures.done
    (Does-then settled marked end state (barrier_at block) third last)))
    c.settle-2.ensures.done

pub returns-clause-bytes : goal.returns-clause-bytes
returns-clause-bytes g c =
    let block = c.args.page / c.args.self.now.sizes.pages in
    let first_write = writes (data_place c.args.self.now.sizes c.args.page) c.args.bytes.now ∷ [] in
    let state = writes (state_place c.args.page) (1 ∷ []) ∷ [] in
    let start = g.B.Backing.held c.args.self.now.backing in
    let written = g.B.Backing.held c.write_at.new.self in
    let settled = g.B.Backing.held c.settle.new.self.backing in
    let marked = g.B.Backing.held c.write_at-2.new.self in
    let end = g.B.Backing.held c.settle-2.new.self.backing in
    let first : Becomes start first_write written = subst (λ p. Becomes start (writes p c.args.bytes.now ∷ []) written) c.data_place-place.ensures c.in_ok-write_at.ensures.bytes in
    let third : Becomes settled state marked = subst (λ p. Becomes settled (writes p (1 ∷ []) ∷ []) marked) c.state_place.ensures c.in_ok-write_at-2.ensures.bytes in
    on_ok_always c.settle-2.result _
    (Becomes-then start written end first_write (barrier_at block ++ (state ++ barrier_at block)) first
    (Becomes-then written settled end (barrier_at block) (state ++ barrier_at block) (Becomes-barrier written settled block c.settle.ensures.same)
    (Becomes-then settled marked end state (barrier_at block) third (Becomes-barrier marked end block c.settle-2.ensures.same))))

pub returns-in_err-write_at-clause-failed : goal.returns-in_err-write_at-clause-failed
returns-in_err-write_at-clause-failed g c =
    let sizes = c.args.self.now.sizes in
    let start = g.B.Backing.held c.args.self.now.backing in
    let written = g.B.Backing.held c.write_at.new.self in
    let outside = subst (λ (p : ℕ). KeepsOutside p (length c.args.bytes.now) start written) c.data_place-place.ensures c.in_err-write_at.ensures.failed in
    on_err_always _ _ (data_fails sizes c.args.page c.requires.in_range (length c.args.bytes.now) start written c.requires.whole outside)

pub returns-in_err-settle-clause-failed : goal.returns-in_err-settle-clause-failed
returns-in_err-settle-clause-failed g c =
    let sizes = c.args.self.now.sizes in
    let start = g.B.Backing.held c.args.self.now.backing in
    let written = g.B.Backing.held c.write_at.new.self in
    let settled = g.B.Backing.held c.settle.new.self.backing in
    let first : Becomes start (writes (data_place sizes c.args.page) c.args.bytes.now ∷ []) written = subst (λ (p : ℕ). Becomes start (writes p c.args.bytes.now ∷ []) written) c.data_place-place.ensures c.in_ok-write_at.ensures.bytes in
    on_err_always _ _ (fails_then sizes (λ q. q ≡ c.args.page) start written settled (data_written sizes c.args.page c.requires.in_range c.args.bytes.now start written c.requires.whole first)
    (fails_none sizes (λ q. q ≡ c.args.page) written settled c.settle.ensures.same))

pub returns-in_err-write_at-2-clause-failed : goal.returns-in_err-write_at-2-clause-failed
returns-in_err-write_at-2-clause-failed g c =
    let sizes = c.args.self.now.sizes in
    let own = λ (q : ℕ). q ≡ c.args.page in
    let start = g.B.Backing.held c.args.self.now.backing in
    let written = g.B.Backing.held c.write_at.new.self in
    let settled = g.B.Backing.held c.settle.new.self.backing in
    let marked = g.B.Backing.held c.write_at-2.new.self in
    let first : Becomes start (writes (data_place sizes c.args.page) c.args.bytes.now ∷ []) written = subst (λ (p : ℕ). Becomes start (writes p c.args.bytes.now ∷ []) written) c.data_place-place.ensures c.in_ok-write_at.ensures.bytes in
    let third = subst (λ (p : ℕ). KeepsOutside p 1 settled marked) c.state_place.ensures c.in_err-write_at-2.ensures.failed in
    on_err_always _ _ (fails_then sizes own start written marked (data_written sizes c.args.page c.requires.in_range c.args.bytes.now start written c.requires.whole first)
    (fails_then sizes own written settled marked (fails_none sizes own written settled c.settle.ensures.same) (state_fails sizes c.args.page c.requires.in_range settled marked third)))

pub returns-clause-failed : goal.returns-clause-failed
returns-clause-failed g c =
    let sizes = c.args.self.now.sizes in
    let own = λ (q : ℕ). q ≡ c.args.page in
    let start = g.B.Backing.held c.args.self.now.backing in
    let written = g.B.Backing.held c.write_at.new.self in
    let settled = g.B.Backing.held c.settle.new.self.backing in
    let marked = g.B.Backing.held c.write_at-2.new.self in
    let end = g.B.Backing.held c.settle-2.new.self.backing in
    let first : Becomes start (writes (data_place sizes c.args.page) c.args.bytes.now ∷ []) written = subst (λ (p : ℕ). Becomes start (writes p c.args.bytes.now ∷ []) written) c.data_place-place.ensures c.in_ok-write_at.ensures.bytes in
    let third : Becomes settled (writes (state_place c.args.page) (1 ∷ []) ∷ []) marked = subst (λ (p : ℕ). Becomes settled (writes p (1 ∷ []) ∷ []) marked) c.state_place.ensures c.in_ok-write_at-2.ensures.bytes in
    on_err_always c.settle-2.result _ (fails_then sizes own start written end (data_written sizes c.args.page c.requires.in_range c.args.bytes.now start written c.requires.whole first)
    (fails_then sizes own written settled end (fails_none sizes own written settled c.settle.ensures.same)
    (fails_then sizes own settled marked end (state_written sizes c.args.page c.requires.in_range settled marked third) (fails_none sizes own marked end c.settle-2.ensures.same))))
