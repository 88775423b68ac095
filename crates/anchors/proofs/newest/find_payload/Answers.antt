use Rattle.std.proofs.Common.{◌≡◌, ℕ, List, ◌+◌, ◌-◌, ◌*◌, ◌++◌, sym, ap, ◌∙◌, inl, inr, arith}
use Rattle.record_format.specs.Payloads.{payload_at}
use Rattle.std.proofs.lemmas.Result.{err_from_is_err_and}
use Rattle.fs_types.specs.declared.limits.TheConstants.{ANCHORS}
use Rattle.flash_model.specs.Reading.{OnlyReads_on, same_pages}
use Rattle.anchors.specs.Parts.{parts_on, bytes_from}
use Rattle.anchors.specs.Payloads.{IsLongFront}
use Rattle.anchors.proofs.Places.{below_end, long_enough}
use Rattle.anchors.proofs.ReadParts.{ReadCause_on, part_held, read_on, bytes_go_on, bytes_end, long_refused, still_read}
use Rattle.anchors.proofs.newest.find_payload.Goals as goal

pub loop-n-preserved : goal.loop-n-preserved
loop-n-preserved g c =
    let old = g.F.Flash.device c.args.flash.now in
    let mid = g.F.Flash.device c.loop-n.flash in
    let parts = parts_on c.args.geometry old.pages in
    let p = c.args.found.page + c.loop-n.n in
    let read = read_on c.args.geometry old.pages mid.pages p c.read_page.new.buffer c.in_ok-head.head (same_pages c.loop-n.invariant.only_reads) c.in_ok-head.ensures.part in
    let added : c.push_bytes.new.payload.items ≡ c.loop-n.payload.items ++ c.bytes_of.result.now = rw c.if-not-push_bytes.false at c.push_bytes.ensures.all in
    record {
      only_reads = OnlyReads_on old mid (g.F.Flash.device c.read_page.new.flash) c.loop-n.invariant.only_reads c.in_ok-head.ensures.reads.only_reads;
      operations = let a = c.loop-n.invariant.operations in let b = c.in_ok-head.ensures.reads.operations in omega arith;
      bytes = ap (λ (x : List ℕ). x ++ bytes_from c.args.geometry parts c.args.found.page (c.loop-n.n + 1) (c.args.found.head.count - (c.loop-n.n + 1))) added
          ∙ bytes_go_on c.args.geometry parts c.args.found.page c.loop-n.n c.args.found.head.count c.loop-n.payload.items c.bytes_of.result.now _ c.loop-n-test.true
          (c.bytes_of.ensures ∙ part_held parts p c.read_page.new.buffer c.in_ok-head.head read) c.loop-n.invariant.bytes;
    }

pub returns-clause-payload : goal.returns-clause-payload
returns-clause-payload g c =
    bytes_end c.args.geometry (parts_on c.args.geometry (g.F.Flash.device c.args.flash.now).pages) c.args.found.page c.loop-n.n c.args.found.head.count c.loop-n.payload.items _ c.loop-n-test.false c.loop-n.invariant.bytes

pub read_page-requires-clause-in_range : goal.read_page-requires-clause-in_range
read_page-requires-clause-in_range g c = below_end c.args.found.page c.loop-n.n c.args.found.head.count (ANCHORS * c.args.geometry.pages) c.requires.in_range c.loop-n-test.true

pub returns-in_err-head-clause-payload : goal.returns-in_err-head-clause-payload
returns-in_err-head-clause-payload g c = rw (err_from_is_err_and c.from_residual.result c.from_residual.ensures.1).1 tt

pub returns-in_err-head-clause-only_reads : goal.returns-in_err-head-clause-only_reads
returns-in_err-head-clause-only_reads g c = OnlyReads_on (g.F.Flash.device c.args.flash.now) (g.F.Flash.device c.loop-n.flash) (g.F.Flash.device c.read_page.new.flash) c.loop-n.invariant.only_reads c.in_err-head.ensures.reads.only_reads

pub returns-in_err-head-clause-why : goal.returns-in_err-head-clause-why
returns-in_err-head-clause-why g c =
    let p = err_from_is_err_and c.from_residual.result c.from_residual.ensures.1 in
    rw (p.1, p.2) (inl (ReadCause_on (g.F.Flash.device c.args.flash.now) (g.F.Flash.device c.loop-n.flash) (g.F.Flash.device c.read_page.new.flash) c.in_err-head.field-0.0 c.loop-n.invariant.only_reads c.in_err-head.ensures.reads.why))

pub returns-then-not-push_bytes-clause-why : goal.returns-then-not-push_bytes-clause-why
returns-then-not-push_bytes-clause-why g c =
    let old = g.F.Flash.device c.args.flash.now in
    let parts = parts_on c.args.geometry old.pages in
    let p = c.args.found.page + c.loop-n.n in
    let read = read_on c.args.geometry old.pages (g.F.Flash.device c.loop-n.flash).pages p c.read_page.new.buffer c.in_ok-head.head (same_pages c.loop-n.invariant.only_reads) c.in_ok-head.ensures.part in
    let front : IsLongFront (c.loop-n.payload.items ++ c.bytes_of.result.now) c.push_bytes.new.payload.items = rw c.if-not-push_bytes.true at c.push_bytes.ensures.front in
    inr (long_refused c.args.geometry c.args.found.head.sequence c.push_bytes.new.payload.items (c.loop-n.payload.items ++ c.bytes_of.result.now)
    (bytes_from c.args.geometry parts c.args.found.page (c.loop-n.n + 1) (c.args.found.head.count - (c.loop-n.n + 1))) _ c.refuse_long.result front
    (bytes_go_on c.args.geometry parts c.args.found.page c.loop-n.n c.args.found.head.count c.loop-n.payload.items c.bytes_of.result.now _ c.loop-n-test.true
    (c.bytes_of.ensures ∙ part_held parts p c.read_page.new.buffer c.in_ok-head.head read) c.loop-n.invariant.bytes)
    (λ others some. ap (λ (x : List ℕ). payload_at c.args.geometry c.args.found.head.sequence (x ++ others)) (sym c.as_slice.ensures.value) ∙ c.refuse_long.ensures c.args.found.head.sequence others some))

pub returns-clause-only_reads : goal.returns-clause-only_reads
returns-clause-only_reads g c = c.loop-n.invariant.only_reads

pub bytes_of-requires : goal.bytes_of-requires
bytes_of-requires g c = long_enough c.args.geometry c.read_page.new.buffer c.requires.may.lawful (c.read_page.auto.buffer ∙ c.loop-n.auto.buffer ∙ c.requires.may.whole)

pub returns-then-not-push_bytes-clause-only_reads : goal.returns-then-not-push_bytes-clause-only_reads
returns-then-not-push_bytes-clause-only_reads g c = OnlyReads_on (g.F.Flash.device c.args.flash.now) (g.F.Flash.device c.loop-n.flash) (g.F.Flash.device c.read_page.new.flash) c.loop-n.invariant.only_reads c.in_ok-head.ensures.reads.only_reads

pub returns-in_err-head-clause-operations : goal.returns-in_err-head-clause-operations
returns-in_err-head-clause-operations g c = let a = c.loop-n.invariant.operations in let b = c.in_err-head.ensures.reads.operations in let lt = c.loop-n-test.true in omega arith

pub returns-then-not-push_bytes-clause-operations : goal.returns-then-not-push_bytes-clause-operations
returns-then-not-push_bytes-clause-operations g c = let a = c.loop-n.invariant.operations in let b = c.in_ok-head.ensures.reads.operations in let lt = c.loop-n-test.true in omega arith

pub returns-clause-operations : goal.returns-clause-operations
returns-clause-operations g c = let a = c.loop-n.invariant.operations in let end = c.loop-n.auto.n-end in omega arith

pub read_page-requires-clause-may : goal.read_page-requires-clause-may
read_page-requires-clause-may g c = still_read (g.F.Flash.device c.args.flash.now) (g.F.Flash.device c.loop-n.flash) c.args.geometry c.args.buffer.now c.loop-n.buffer c.loop-n.invariant.only_reads c.loop-n.auto.buffer c.requires.may
