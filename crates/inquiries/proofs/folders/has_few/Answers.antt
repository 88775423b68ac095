use Rattle.std.proofs.Common.{◌≡◌, ◌≤◌, ◌^◌, sym, arith}
use Rattle.std.proofs.lemmas.Bool.{true≢false, leb-true, le-leb}
use Rattle.tree_counts.specs.Sizes.{entries_of, lengths_of}
use Rattle.inquiries.proofs.FolderLemmas.{entries_some, bytes_some, entries_none, bytes_none}
use Rattle.inquiries.proofs.folders.has_few.Goals as goal

pub returns-then-entries-le-MAX_LINES : goal.returns-then-entries-le-MAX_LINES
returns-then-entries-le-MAX_LINES c = λ t is.
    let entries : c.in-Some-Some.entries ≡ entries_of t = entries_some t c.args.size is c.in-Some-Some.entries c.in-Some-Some.is-0 in
    let bytes : c.in-Some-Some.bytes ≡ lengths_of t = bytes_some t c.args.size is c.in-Some-Some.bytes c.in-Some-Some.is-1 in
    let within : c.in-Some-Some.entries ≤ 1048576 = c.if-entries-le-MAX_LINES.true in (
      λ fits. (omega (arith, entries, within), let below = leb-true c.in-Some-Some.bytes 67108864 fits in omega (arith, bytes, below)),
      λ small. le-leb c.in-Some-Some.bytes 67108864 (let most = small.1 in omega (arith, bytes, most)),
    )

pub returns-else-entries-le-MAX_LINES : goal.returns-else-entries-le-MAX_LINES
returns-else-entries-le-MAX_LINES c = λ t is.
    let entries : c.in-Some-Some.entries ≡ entries_of t = entries_some t c.args.size is c.in-Some-Some.entries c.in-Some-Some.is-0 in
    let past = c.if-entries-le-MAX_LINES.false in (
      λ fits. absurd (let below = leb-true c.in-Some-Some.entries 1048576 fits in omega (arith, below, past)),
      λ small. absurd (let most = small.0 in omega (arith, entries, past, most)),
    )

pub returns-in_default : goal.returns-in_default
returns-in_default c = λ t is.
    let past : 2 ^ 64 ≤ lengths_of t = bytes_none t c.args.size is c.in_default.is-1 in
    (λ wrong. absurd (true≢false (sym wrong)), λ small. absurd (let most = small.1 in omega (arith, past, most)))

pub returns-in_default-2 : goal.returns-in_default-2
returns-in_default-2 c = λ t is.
    let past : 2 ^ 64 ≤ entries_of t = entries_none t c.args.size is c.in_default.is-0 in
    (λ wrong. absurd (true≢false (sym wrong)), λ small. absurd (let most = small.0 in omega (arith, past, most)))
