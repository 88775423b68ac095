use Rattle.std.proofs.Common.{◌≡◌, ℕ, List, drop, ◌+◌, ◌<◌, ◌≤◌, Ok, Err, [], ◌∷◌, length, length-append, take, get_or, ap, sym, ◌∙◌, arith}
use Rattle.std.proofs.lemmas.List.{get_or_default}
use Rattle.fs_types.specs.declared.fault.Fault.{Fault}
use Rattle.fs_types.specs.declared.fault.Fault.TheVariants.{Damaged}
use Rattle.nodes.specs.Bodies.{Blocks}
use Rattle.nodes.specs.Chains.{chain}
use Rattle.nodes.specs.WordLaws.{looks_after, looks_wider, looks_answered, looks_refused, looks_idle}
use Rattle.directory.proofs.NodeCalls.{looks_refuse}
use Rattle.directory.proofs.Directories.{child_below}
use Rattle.directory.specs.Lookups.{look_up, way_nodes}
use Rattle.directory.proofs.Ways.{begins_way, ends, goes_on, looks_on, whole}
use Rattle.directory.proofs.LookupSteps.{read_looked, at_refused, path_looked, place_here, found_here, below_is, read_refuses, way_refuses, last_found, whole_found, way_on, way_here}
use Rattle.std.proofs.lemmas.Result.{err_from_is_err_and}
use Rattle.directory.proofs.trail.find_from.Goals as goal

pub loop-i-preserved : goal.loop-i-preserved
loop-i-preserved g c =
    let f = g.N.Nodes.node c.args.nodes.now in
    let path = c.names-names.result.now in
    let i = c.loop-i.i in
    let within : i < length path = omega arith in
    let differs = c.if-i-names.false in
    let more : i + 1 < length path = omega arith in
    let name : c.index-names-i.result ≡ get_or path i [] = c.index-names-i.is ∙ get_or_default path i c.index-names-i.result [] within in
    let place = place_here f (g.N.Nodes.node c.loop-i.nodes) c.loop-i.block c.index-names-i.result (get_or path i []) (Ok c.in_ok-place.place) c.loop-i.invariant.calls.1.looks.same_nodes name c.in_ok-place.ensures.found in
    let below = below_is f c.loop-i.block (get_or path i []) c.in_ok-place.place (Ok c.in_ok-block.block) place c.in_ok-block.ensures in
    let read_here : length (chain (g.N.Nodes.node c.loop-i.nodes) c.loop-i.block) ≡ length (chain f c.loop-i.block) = ap (λ (h : Blocks). length (chain h c.loop-i.block)) c.loop-i.invariant.calls.1.looks.same_nodes in
    record {
      looked = sym (looks_on f c.loop-i.block c.in_ok-block.block i path more below) ∙ c.loop-i.invariant.looked;
      counted = let counted = c.loop-i.invariant.counted in omega (arith, ap length c.push.ensures, length-append c.loop-i.trail (c.loop-i.block ∷ []));
      goes = λ root leads_to way.
          let goes = c.loop-i.invariant.goes root leads_to way in
          let begins = leads_to (take i path) c.loop-i.block goes.here in
          goes_on f root path i c.loop-i.trail c.push.new.self c.loop-i.block c.in_ok-block.block goes c.push.ensures within (child_below f c.loop-i.block (get_or path i []) c.in_ok-block.block begins.0 begins.1 below);
      calls = (
        c.loop-i.invariant.calls.0 + length (chain (g.N.Nodes.node c.loop-i.nodes) c.loop-i.block),
        looks_answered (looks_after g.met.N.Nodes.looks_on g.met.N.Nodes.causes_on c.args.nodes.now c.loop-i.nodes c.place_in.new.nodes read_looked c.loop-i.invariant.calls.1 c.in_ok-place.ensures.calls (omega arith)),
        omega (arith, read_here, c.loop-i.invariant.calls.2, way_on f c.loop-i.block c.in_ok-block.block i path within below),
      );
    }

pub loop-i-init : goal.loop-i-init
loop-i-init g c =
    let f = g.N.Nodes.node c.args.nodes.now in
    let names = c.names-names.result.now in
    let known = c.blocks-known.ensures in
    let left = ap (λ (t : List ℕ). way_nodes f c.args.block (drop (length t) names)) known in
    record {
      looked = ap (λ (t : List ℕ). look_up f c.args.block (drop (length t) names)) known;
      counted = ap length (sym known);
      goes = λ root leads_to way. begins_way f root names (length c.blocks-known.result.now) c.args.trail c.args.block (ap length (sym known)) way;
      calls = (0, looks_idle g.met.N.Nodes.follows_itself c.args.nodes.now c.requires.sound, omega (arith, left));
    }

pub found_in-requires : goal.found_in-requires
found_in-requires g c = c.loop-i.invariant.calls.1.looks.sound

pub place_in-requires : goal.place_in-requires
place_in-requires g c = c.loop-i.invariant.calls.1.looks.sound

pub returns-in_err-found-clause-refused : goal.returns-in_err-found-clause-refused
returns-in_err-found-clause-refused g c =
    let f = g.N.Nodes.node c.args.nodes.now in
    let p = err_from_is_err_and c.from_residual.result c.from_residual.ensures.1 in
    let fault = c.in_err-found.field-0.0 in
    let last = c.if-i-names.true in
    rw (p.1, p.2, ← c.names-names.ensures.names) (read_refuses f _ c.loop-i.block c.loop-i.i c.names-names.result.now fault (omega arith) c.loop-i.invariant.looked c.in_err-found.ensures.calls.faults
    (λ (is : fault ≡ Damaged). place_here f (g.N.Nodes.node c.loop-i.nodes) c.loop-i.block c.index-names-i.result (get_or c.names-names.result.now c.loop-i.i []) (Err Damaged) c.loop-i.invariant.calls.1.looks.same_nodes
    (c.index-names-i.is ∙ get_or_default c.names-names.result.now c.loop-i.i c.index-names-i.result [] (omega arith)) (c.in_err-found.ensures.damaged (ap (λ (e : Fault). Err e) is))))

pub returns-in_err-place-clause-refused : goal.returns-in_err-place-clause-refused
returns-in_err-place-clause-refused g c =
    let f = g.N.Nodes.node c.args.nodes.now in
    let p = err_from_is_err_and c.from_residual-in_err-place.result c.from_residual-in_err-place.ensures.1 in
    let fault = c.in_err-place.field-0.0 in
    rw (p.1, p.2, ← c.names-names.ensures.names) (read_refuses f _ c.loop-i.block c.loop-i.i c.names-names.result.now fault (omega arith) c.loop-i.invariant.looked c.in_err-place.ensures.calls.faults
    (λ (is : fault ≡ Damaged). place_here f (g.N.Nodes.node c.loop-i.nodes) c.loop-i.block c.index-names-i.result (get_or c.names-names.result.now c.loop-i.i []) (Err Damaged) c.loop-i.invariant.calls.1.looks.same_nodes
    (c.index-names-i.is ∙ get_or_default c.names-names.result.now c.loop-i.i c.index-names-i.result [] (omega arith)) (c.in_err-place.ensures.damaged (ap (λ (e : Fault). Err e) is))))

pub returns-in_err-block-clause-refused : goal.returns-in_err-block-clause-refused
returns-in_err-block-clause-refused g c =
    let f = g.N.Nodes.node c.args.nodes.now in
    let path = c.names-names.result.now in
    let i = c.loop-i.i in
    let fault = c.in_err-block.field-0.0 in
    let differs = c.if-i-names.false in
    let within : i < length path = omega arith in
    let more : i + 1 < length path = omega arith in
    let name : c.index-names-i.result ≡ get_or path i [] = c.index-names-i.is ∙ get_or_default path i c.index-names-i.result [] within in
    let place = place_here f (g.N.Nodes.node c.loop-i.nodes) c.loop-i.block c.index-names-i.result (get_or path i []) (Ok c.in_ok-place.place) c.loop-i.invariant.calls.1.looks.same_nodes name c.in_ok-place.ensures.found in
    let below = below_is f c.loop-i.block (get_or path i []) c.in_ok-place.place (Err fault) place c.in_err-block.ensures in
    let p = err_from_is_err_and c.from_residual-in_err-block.result c.from_residual-in_err-block.ensures.1 in
    rw (p.1, p.2, ← c.names-names.ensures.names) (λ is. way_refuses f _ c.loop-i.block i path fault more c.loop-i.invariant.looked below)

pub returns-then-i-names-clause-trail : goal.returns-then-i-names-clause-trail
returns-then-i-names-clause-trail g c =
    let last = c.if-i-names.true in
    rw (← c.names-names.ensures.names) (λ root leads_to way. ends (g.N.Nodes.node c.args.nodes.now) root c.names-names.result.now c.loop-i.i c.loop-i.trail c.push.new.self c.loop-i.block leads_to (c.loop-i.invariant.goes root leads_to way) c.push.ensures (omega arith))

pub returns-then-i-names-clause-found : goal.returns-then-i-names-clause-found
returns-then-i-names-clause-found g c =
    let f = g.N.Nodes.node c.args.nodes.now in
    let path = c.names-names.result.now in
    let i = c.loop-i.i in
    let last : i + 1 ≡ length path = omega (arith, c.if-i-names.true) in
    let within : i < length path = omega arith in
    let name : c.index-names-i.result ≡ get_or path i [] = c.index-names-i.is ∙ get_or_default path i c.index-names-i.result [] within in
    let found = found_here f (g.N.Nodes.node c.loop-i.nodes) c.loop-i.block c.index-names-i.result (get_or path i []) c.in_ok-found.found c.loop-i.invariant.calls.1.looks.same_nodes name c.in_ok-found.ensures.found in
    rw (← c.names-names.ensures.names) (last_found f _ c.loop-i.block i path c.in_ok-found.found last c.loop-i.invariant.looked found)

pub returns-clause-trail : goal.returns-clause-trail
returns-clause-trail g c =
    let within : length c.blocks-known.result.now ≤ length c.names-names.result.now = omega (arith, ap length c.blocks-known.ensures, ap length c.names-names.ensures.names, c.requires.within) in
    let most = c.loop-i.auto.i-end within in
    let all = c.loop-i-test.false in
    rw (← c.names-names.ensures.names) (λ root leads_to way. whole (g.N.Nodes.node c.args.nodes.now) root c.names-names.result.now c.loop-i.i c.loop-i.trail c.loop-i.block leads_to (c.loop-i.invariant.goes root leads_to way) (omega arith))

pub returns-clause-found : goal.returns-clause-found
returns-clause-found g c =
    let within : length c.blocks-known.result.now ≤ length c.names-names.result.now = omega (arith, ap length c.blocks-known.ensures, ap length c.names-names.ensures.names, c.requires.within) in
    let most = c.loop-i.auto.i-end within in
    let all = c.loop-i-test.false in
    rw (← c.names-names.ensures.names) (whole_found (g.N.Nodes.node c.args.nodes.now) _ c.loop-i.block c.loop-i.i c.names-names.result.now (omega arith) c.loop-i.invariant.looked)

pub returns-in_err-found-clause-calls : goal.returns-in_err-found-clause-calls
returns-in_err-found-clause-calls g c =
    let f = g.N.Nodes.node c.args.nodes.now in
    let last = c.if-i-names.true in
    let read_here : length (chain (g.N.Nodes.node c.loop-i.nodes) c.loop-i.block) ≡ length (chain f c.loop-i.block) = ap (λ (h : Blocks). length (chain h c.loop-i.block)) c.loop-i.invariant.calls.1.looks.same_nodes in
    let p = err_from_is_err_and c.from_residual.result c.from_residual.ensures.1 in
    rw (p.1, p.2, ← c.names-names.ensures.names) (looks_refused (looks_after g.met.N.Nodes.looks_on g.met.N.Nodes.causes_on c.args.nodes.now c.loop-i.nodes c.found_in.new.nodes read_looked c.loop-i.invariant.calls.1 c.in_err-found.ensures.calls
    (omega (arith, read_here, c.loop-i.invariant.calls.2, way_here f c.loop-i.block c.loop-i.i c.names-names.result.now (omega arith)))))

pub returns-then-i-names-clause-calls : goal.returns-then-i-names-clause-calls
returns-then-i-names-clause-calls g c =
    let f = g.N.Nodes.node c.args.nodes.now in
    let last = c.if-i-names.true in
    let read_here : length (chain (g.N.Nodes.node c.loop-i.nodes) c.loop-i.block) ≡ length (chain f c.loop-i.block) = ap (λ (h : Blocks). length (chain h c.loop-i.block)) c.loop-i.invariant.calls.1.looks.same_nodes in
    rw (← c.names-names.ensures.names) (looks_answered (looks_after g.met.N.Nodes.looks_on g.met.N.Nodes.causes_on c.args.nodes.now c.loop-i.nodes c.found_in.new.nodes read_looked c.loop-i.invariant.calls.1 c.in_ok-found.ensures.calls
    (omega (arith, read_here, c.loop-i.invariant.calls.2, way_here f c.loop-i.block c.loop-i.i c.names-names.result.now (omega arith)))))

pub returns-in_err-place-clause-calls : goal.returns-in_err-place-clause-calls
returns-in_err-place-clause-calls g c =
    let f = g.N.Nodes.node c.args.nodes.now in
    let read_here : length (chain (g.N.Nodes.node c.loop-i.nodes) c.loop-i.block) ≡ length (chain f c.loop-i.block) = ap (λ (h : Blocks). length (chain h c.loop-i.block)) c.loop-i.invariant.calls.1.looks.same_nodes in
    let p = err_from_is_err_and c.from_residual-in_err-place.result c.from_residual-in_err-place.ensures.1 in
    rw (p.1, p.2, ← c.names-names.ensures.names) (looks_refused (looks_after g.met.N.Nodes.looks_on g.met.N.Nodes.causes_on c.args.nodes.now c.loop-i.nodes c.place_in.new.nodes read_looked c.loop-i.invariant.calls.1 c.in_err-place.ensures.calls
    (omega (arith, read_here, c.loop-i.invariant.calls.2, way_here f c.loop-i.block c.loop-i.i c.names-names.result.now (omega arith)))))

pub returns-in_err-block-clause-calls : goal.returns-in_err-block-clause-calls
returns-in_err-block-clause-calls g c =
    let f = g.N.Nodes.node c.args.nodes.now in
    let fault = c.in_err-block.field-0.0 in
    let path = at_refused c.in_ok-place.place fault c.in_err-block.ensures in
    let read_here : length (chain (g.N.Nodes.node c.loop-i.nodes) c.loop-i.block) ≡ length (chain f c.loop-i.block) = ap (λ (h : Blocks). length (chain h c.loop-i.block)) c.loop-i.invariant.calls.1.looks.same_nodes in
    let p = err_from_is_err_and c.from_residual-in_err-block.result c.from_residual-in_err-block.ensures.1 in
    rw (p.1, p.2, ← c.names-names.ensures.names) (looks_refuse path (path_looked fault path) (looks_after g.met.N.Nodes.looks_on g.met.N.Nodes.causes_on c.args.nodes.now c.loop-i.nodes c.place_in.new.nodes read_looked c.loop-i.invariant.calls.1 c.in_ok-place.ensures.calls
    (omega (arith, read_here, c.loop-i.invariant.calls.2, way_here f c.loop-i.block c.loop-i.i c.names-names.result.now (omega arith)))))

pub returns-clause-calls : goal.returns-clause-calls
returns-clause-calls g c = rw (← c.names-names.ensures.names) (looks_answered (looks_wider c.loop-i.invariant.calls.1 (omega (arith, c.loop-i.invariant.calls.2))))
