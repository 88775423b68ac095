use Rattle.std.proofs.Common.{◌≡◌, true, sym, ap, ◌∙◌, subst}
use Rattle.std.proofs.lemmas.Bool.{eqb-true}
use Rattle.std.proofs.lemmas.Cmp.{nat_cmp_total}
use Rattle.std.specs.FinSet as set
use Rattle.std.specs.List.Sorted.{IsStrictlyIncreasing}
use Rattle.bad_blocks.proofs.Ascending.{set_of, contains_found, contains_missed, insert_present, from_list-insert, len_of_ascending, full_list, ascending-insert}
use Rattle.bad_blocks.proofs.set.BadBlocks.add.Goals as goal

there : (c : goal.In-Ok) → set.contains c.args.self.now c.args.block ≡ true
there c =
    rw (← c.self.view_is)
    (contains_found _ _ c.in-Ok.field-0 c.self.invariant (rw c.deref.ensures.0 at c.in-Ok.ensures.position))

pub returns-in-Ok-clause-ok : goal.returns-in-Ok-clause-ok
returns-in-Ok-clause-ok c = sym (insert_present _ _ (there c))

pub returns-in-Ok-clause-grows : goal.returns-in-Ok-clause-grows
returns-in-Ok-clause-grows c absent = cc (there c)

pub returns-in-Ok-clause-refused : goal.returns-in-Ok-clause-refused
returns-in-Ok-clause-refused c full absent = cc (there c)

pub returns-in-Err-clause-full : goal.returns-in-Err-clause-full
returns-in-Err-clause-full c =
    rw (← c.self.view_is) (len_of_ascending _ c.self.invariant)
    ∙ eqb-true _ 256 (sym c.is_full.ensures.value ∙ c.if-is_full.true)

pub returns-in-Err-clause-new_block : goal.returns-in-Err-clause-new_block
returns-in-Err-clause-new_block c =
    rw (← c.self.view_is)
    (contains_missed _ _ c.in-Err.field-0 c.self.invariant (rw c.deref.ensures.0 at c.in-Err.ensures.position))

pub invariant_of-self : goal.invariant_of-self
invariant_of-self c =
    subst IsStrictlyIncreasing (sym c.insert.ensures.items)
    (ascending-insert _ _ c.in-Err.field-0 c.self.invariant (rw c.deref.ensures.0 at c.in-Err.ensures.position))

pub returns-in-Err-2-clause-ok : goal.returns-in-Err-2-clause-ok
returns-in-Err-2-clause-ok c =
    ap set_of c.insert.ensures.items ∙ from_list-insert _ _ _ ∙ ap (λ s. set.insert s c.args.block) c.self.view_is

pub returns-in-Err-2-clause-grows : goal.returns-in-Err-2-clause-grows
returns-in-Err-2-clause-grows c absent =
    ap set.len (returns-in-Err-2-clause-ok c) ∙ rw (set.len-insert nat_cmp_total c.args.self.now c.args.block, absent)

pub returns-in-Err-2-clause-refused : goal.returns-in-Err-2-clause-refused
returns-in-Err-2-clause-refused c full absent =
    sym (sym (full_list _ _ c.self.invariant c.self.view_is full) ∙ sym c.is_full.ensures.value ∙ c.if-is_full.false)
