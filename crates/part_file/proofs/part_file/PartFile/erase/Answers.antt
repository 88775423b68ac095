use Rattle.std.proofs.Common.{◌≡◌, ℕ, List, ◌*◌, ◌/◌, [], ◌∷◌, ◌++◌, length, take, replicate, refl, subst, arith}
use Rattle.std.proofs.lemmas.List.{take-replicate, length-replicate}
use Rattle.part_file.specs.Layout.{state_place, barrier_at}
use Rattle.host_interface.specs.Steps.{writes, Does, Becomes, KeepsOutside}
use Rattle.part_file.proofs.Failing.{states_fail, states_written, fails_none, fails_then, on_err_always}
use Rattle.part_file.proofs.Sizes.{pages-most}
use Rattle.part_file.proofs.StepLemmas.{Does-then, Becomes-then, Becomes-barrier, on_ok, on_ok_always}
use Rattle.part_file.proofs.part_file.PartFile.erase.Goals as goal

pub returns-clause-done : goal.returns-clause-done
returns-clause-done g c =
    let block = c.args.block in
    let pages = c.args.self.now.sizes.pages in
    let cleared = writes (state_place (block * pages)) (replicate pages 0) ∷ [] in
    let start = g.B.Backing.steps c.args.self.now.backing in
    let settled = g.B.Backing.steps c.settle.new.self.backing in
    let marked = g.B.Backing.steps c.write_at.new.self in
    let end = g.B.Backing.steps c.settle-2.new.self.backing in
    let place : c.state_place-place.result ≡ state_place (block * pages) = omega (arith, c.state_place-place.ensures, c.page_number.ensures.value) in
    let states : take pages (replicate 1024 0) ≡ replicate pages 0 = take-replicate pages 1024 0 (pages-most c.args.self.now.sizes c.args.self.now.lawful) in
    let second : Does settled cleared marked =
    subst (λ p. Does settled (writes p (replicate pages 0) ∷ []) marked) place
    (subst (λ bytes. Does settled (writes c.state_place-place.result bytes ∷ []) marked) states c.in_ok-write_at.ensures.steps) in
    on_ok c.settle-2.result _ _
    (λ last. Does-then start settled end (barrier_at block) (cleared ++ barrier_at block) c.in_ok-settle.ensures.done
    (Does-then settled marked end cleared (barrier_at block) second last))
    c.settle-2.ensures.done

pub returns-clause-bytes : goal.returns-clause-bytes
returns-clause-bytes g c =
    let block = c.args.block in
    let pages = c.args.self.now.sizes.pages in
    let cleared = writes (state_place (block * pages)) (replicate pages 0) ∷ [] in
    let start = g.B.Backing.held c.args.self.now.backing in
    let settled = g.B.Backing.held c.settle.new.self.backing in
    let marked = g.B.Backing.held c.write_at.new.self in
    let end = g.B.Backing.held c.settle-2.new.self.backing in
    let place : c.state_place-place.result ≡ state_place (block * pages) = omega (arith, c.state_place-place.ensures, c.page_number.ensures.value) in
    let states : take pages (replicate 1024 0) ≡ replicate pages 0 = take-replicate pages 1024 0 (pages-most c.args.self.now.sizes c.args.self.now.lawful) in
    let second : Becomes settled cleared marked =
    subst (λ p. Becomes settled (writes p (replicate pages 0) ∷ []) marked) place
    (subst (λ bytes. Becomes settled (writes c.state_place-place.result bytes ∷ []) marked) states c.in_ok-write_at.ensures.bytes) in
    on_ok_always c.settle-2.result _
    (Becomes-then start settled end (barrier_at block) (cleared ++ barrier_at block) (Becomes-barrier start settled block c.settle.ensures.same)
    (Becomes-then settled marked end cleared (barrier_at block) second (Becomes-barrier marked end block c.settle-2.ensures.same)))

pub returns-in_err-settle-clause-failed : goal.returns-in_err-settle-clause-failed
returns-in_err-settle-clause-failed g c =
    let sizes = c.args.self.now.sizes in
    on_err_always _ _ (fails_none sizes (λ q. q / sizes.pages ≡ c.args.block) (g.B.Backing.held c.args.self.now.backing) (g.B.Backing.held c.settle.new.self.backing) c.settle.ensures.same)

pub returns-in_err-write_at-clause-failed : goal.returns-in_err-write_at-clause-failed
returns-in_err-write_at-clause-failed g c =
    let sizes = c.args.self.now.sizes in
    let own = λ (q : ℕ). q / sizes.pages ≡ c.args.block in
    let start = g.B.Backing.held c.args.self.now.backing in
    let settled = g.B.Backing.held c.settle.new.self.backing in
    let marked = g.B.Backing.held c.write_at.new.self in
    let place : c.state_place-place.result ≡ state_place (c.args.block * sizes.pages) = omega (arith, c.state_place-place.ensures, c.page_number.ensures.value) in
    let states : take sizes.pages (replicate 1024 0) ≡ replicate sizes.pages 0 = take-replicate sizes.pages 1024 0 (pages-most sizes c.args.self.now.lawful) in
    let outside =
    subst (λ (p : ℕ). KeepsOutside p (length (replicate {A = ℕ} sizes.pages 0)) settled marked) place
    (subst (λ (bytes : List ℕ). KeepsOutside c.state_place-place.result (length bytes) settled marked) states c.in_err-write_at.ensures.failed) in
    on_err_always _ _ (fails_then sizes own start settled marked (fails_none sizes own start settled c.settle.ensures.same)
    (states_fail sizes c.args.block (length (replicate {A = ℕ} sizes.pages 0)) c.requires c.args.self.now.lawful.some_pages (length-replicate sizes.pages 0) settled marked outside))

pub returns-clause-failed : goal.returns-clause-failed
returns-clause-failed g c =
    let sizes = c.args.self.now.sizes in
    let own = λ (q : ℕ). q / sizes.pages ≡ c.args.block in
    let zeros : List ℕ = replicate {A = ℕ} sizes.pages 0 in
    let start = g.B.Backing.held c.args.self.now.backing in
    let settled = g.B.Backing.held c.settle.new.self.backing in
    let marked = g.B.Backing.held c.write_at.new.self in
    let end = g.B.Backing.held c.settle-2.new.self.backing in
    let place : c.state_place-place.result ≡ state_place (c.args.block * sizes.pages) = omega (arith, c.state_place-place.ensures, c.page_number.ensures.value) in
    let states : take sizes.pages (replicate 1024 0) ≡ zeros = take-replicate sizes.pages 1024 0 (pages-most sizes c.args.self.now.lawful) in
    let second : Becomes settled (writes (state_place (c.args.block * sizes.pages)) zeros ∷ []) marked =
    subst (λ (p : ℕ). Becomes settled (writes p zeros ∷ []) marked) place
    (subst (λ (bytes : List ℕ). Becomes settled (writes c.state_place-place.result bytes ∷ []) marked) states c.in_ok-write_at.ensures.bytes) in
    on_err_always c.settle-2.result _ (fails_then sizes own start settled end (fails_none sizes own start settled c.settle.ensures.same)
    (fails_then sizes own settled marked end
    (states_written sizes c.args.block (length zeros) c.requires c.args.self.now.lawful.some_pages (length-replicate sizes.pages 0) zeros settled marked refl second)
    (fails_none sizes own marked end c.settle-2.ensures.same)))
