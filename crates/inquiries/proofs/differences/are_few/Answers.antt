use Rattle.std.proofs.Common.{◌≡◌, ◌-◌, ◌≤◌, ◌^◌, length, sym, arith}
use Rattle.std.proofs.lemmas.Bool.{true≢false, leb-true, le-leb}
use Rattle.inquiries.specs.Items.{items_of}
use Rattle.inquiries.proofs.Sizes.{few_some, few_none}
use Rattle.inquiries.proofs.differences.are_few.Goals as goal

pub returns-then-first-le-MAX_LINES : goal.returns-then-first-le-MAX_LINES
returns-then-first-le-MAX_LINES c = λ t u is other.
    let first : c.in-Some-Some.first ≡ length (items_of t) = few_some t c.args.first c.in-Some-Some.first is c.in-Some-Some.is-0 in
    let second : c.in-Some-Some.second ≡ length (items_of u) = few_some u c.args.second c.in-Some-Some.second other c.in-Some-Some.is-1 in
    let within : c.in-Some-Some.first ≤ 1048576 = c.if-first-le-MAX_LINES.true in (
      λ fits. (let below = leb-true c.in-Some-Some.second (1048576 - c.in-Some-Some.first) fits in omega (arith, below, within, first, second)),
      λ few. le-leb c.in-Some-Some.second (1048576 - c.in-Some-Some.first) (omega (arith, few, first, second)),
    )

pub returns-else-first-le-MAX_LINES : goal.returns-else-first-le-MAX_LINES
returns-else-first-le-MAX_LINES c = λ t u is other.
    let first : c.in-Some-Some.first ≡ length (items_of t) = few_some t c.args.first c.in-Some-Some.first is c.in-Some-Some.is-0 in
    let past = c.if-first-le-MAX_LINES.false in (
      λ fits. absurd (let below = leb-true c.in-Some-Some.first 1048576 fits in omega (arith, below, past)),
      λ few. absurd (omega (arith, few, first, past)),
    )

pub returns-in_default : goal.returns-in_default
returns-in_default c = λ t u is other.
    let past : 2 ^ 64 ≤ length (items_of u) = few_none u c.args.second other c.in_default.is-1 in
    (λ wrong. absurd (true≢false (sym wrong)), λ few. absurd (omega (arith, few, past)))

pub returns-in_default-2 : goal.returns-in_default-2
returns-in_default-2 c = λ t u is other.
    let past : 2 ^ 64 ≤ length (items_of t) = few_none t c.args.first is c.in_default.is-0 in
    (λ wrong. absurd (true≢false (sym wrong)), λ few. absurd (omega (arith, few, past)))
