use Rattle.std.proofs.Common.{◌≡◌, rules, arith, ap, length, not}
use Rattle.std.specs.List.{filter}
use Rattle.std.proofs.lemmas.Fn.{filter_same}
use Rattle.flash_model.specs.Plan.{is_for}
use Rattle.flash_simulation.proofs.Filtered.{length-filter_not}
use Rattle.flash_simulation.proofs.plan.drop_those_for.Goals as goal

pub returns-clause-items : goal.returns-clause-items
returns-clause-items c = filter_same _ _ _ (λ x b f t. search rules) _ _ c.retain.ensures.filtered

pub returns-clause-fewer : goal.returns-clause-fewer
returns-clause-fewer c =
    λ some. let left : c.retain.new.self.items ≡ filter (λ entry. not (is_for c.args.class c.args.number entry)) c.args.entries.now.items
    = filter_same _ _ _ (λ x b f t. search rules) _ _ c.retain.ensures.filtered in
    let fewer = length-filter_not (is_for c.args.class c.args.number) c.args.entries.now.items some in
    omega (arith, fewer, ap length left, c.retain.new.self.ok.0, c.args.entries.now.ok.0)
