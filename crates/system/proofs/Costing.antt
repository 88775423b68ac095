-- What a marking and a mount ask of the device.
use Rattle.std.proofs.Common.{◌≡◌, inl, inr, Option, Some, None, Ok, ℕ, ◌+◌, ◌*◌, ◌≤◌, List, [], ◌++◌, length, refl, sym, ap, subst, ◌∙◌, arith}
use Rattle.std.proofs.lemmas.List.{append-nil}
use Rattle.std.specs.Prelude.{IfSome, unwrap_or}
use Rattle.std.specs.FinSet as set
use Rattle.std.specs.List.{sum_by}
use Rattle.std.specs.Ordering.{nat_cmp}
use Rattle.std.proofs.Math.Nat.{add-mul, mul-le-mul_right}
use Rattle.flash_model.specs.Device.{Device}
use Rattle.flash_model.specs.Geometry.{IsGeometry, block_bytes}
use Rattle.flash_model.specs.Reading.{OnlyReads}
use Rattle.flash_model.specs.declared.geometry.Geometry.{Geometry}
use Rattle.node_store.specs.NodePages.{node_of}
use Rattle.node_store.specs.ReadingLaws.{OnlyReads_nodes}
use Rattle.node_store.specs.Stores.{Follows}
use Rattle.node_store.specs.declared.store.Store.{Store}
use Rattle.nodes.specs.Bodies.{Blocks}
use Rattle.reclaim.specs.Passes.{Pass, IsPass, AreReached, HasRead}
use Rattle.reclaim.specs.Verified.{all_pages}
use Rattle.record_format.specs.declared.record.Record.{Record}
use Rattle.anchors.specs.Newest.{committed_on}
use Rattle.mounting.specs.Costs.{AsksToVerify, verify_pages}
use Rattle.system.specs.Reclaiming.{AsksForRest, AsksToStep, GoesOnFrom, marking_of}
use Rattle.system.specs.Mounts.{AsksToMount, scan_pages}
use Rattle.mounting.specs.Records.{history_of, roots_of, working_roots}
use Rattle.system.specs.declared.systems.System.{System}
use Rattle.mounting.proofs.Asking.{none_reached, paged}

-- so many reads beyond those before
paged_rest : (before after reads more next count pages : ℕ) → after + reads * pages ≤ before + more * pages → more + next ≤ reads + count → after + next * pages ≤ before + count * pages
paged_rest before after reads more next count pages asks most =
    let all : (more + next) * pages ≤ (reads + count) * pages = mul-le-mul_right pages most in
    let left : (more + next) * pages ≡ more * pages + next * pages = add-mul more next pages in
    let right : (reads + count) * pages ≡ reads * pages + count * pages = add-mul reads count pages in
    omega (arith, asks, all, left, right)

-- a step of a marking
module _ {F : Type 0} (device : F → Device) (s t : Store F) (came : Follows device s t) (same : t.writes.n ≡ s.writes.n) where
  pub asks_few : (budget : ℕ) → t.reads.n ≤ s.reads.n + budget → (device t.flash.now).operations ≤ (device s.flash.now).operations + budget * (device s.flash.now).geometry.pages
  asks_few budget most = paged (device s.flash.now).operations (device t.flash.now).operations s.reads.n t.reads.n budget (device s.flash.now).geometry.pages (came.asks same) most

  pub asks_rest : (p : Pass) → HasRead (node_of (device s.flash.now)) p s.reads.n t.reads.n → AsksForRest (device s.flash.now) p (device t.flash.now)
  asks_rest p read = record {
    seen = read.seen;
    begins = read.begins;
    are = read.are;
    most = paged_rest (device s.flash.now).operations (device t.flash.now).operations s.reads.n t.reads.n p.next (length read.seen) (device s.flash.now).geometry.pages (came.asks same) read.most;
  }

-- nothing was asked for: of a marking, which has listed blocks that its roots reach, and of one that is new
listed_rest : (d : Device) (p : Pass) → IsPass (node_of d) p → AsksForRest d p d
listed_rest d p pass = record {
  seen = p.order;
  begins = ([], append-nil p.order);
  are = record { distinct = pass.distinct; reached = pass.reached };
  most = let most = mul-le-mul_right d.geometry.pages pass.within in omega (arith, most);
}

pub asks_still : (d : Device) (m : System) (budget : ℕ) → IfSome m.pass (λ p. (IsPass (node_of d) p → ⊥) → ⊥) → AsksToStep d (marking_of m) budget d
asks_still d m budget marking = record { few = omega arith; rest = by m.pass marking }
  where
    new_one : Pass
    new_one = marking_of (record m { pass = None })

    by : (o : Option Pass) → IfSome o (λ p. (IsPass (node_of d) p → ⊥) → ⊥) → (AsksForRest d (unwrap_or o new_one) d → ⊥) → ⊥
    by None is none = none (record { seen = []; begins = ([], refl); are = none_reached (node_of d) (working_roots m.state ++ m.record_roots.items); most = omega arith })
    by (Some p) is none = is (λ pass. none (listed_rest d p pass))

-- as of the marking that goes on
pub asks_on : (d e : Device) (m : System) (p : Pass) (note : set.FinSet nat_cmp) (budget : ℕ) → GoesOnFrom m p note → ((IsPass (node_of d) p → ⊥) → ⊥) → e.operations ≤ d.operations + budget * d.geometry.pages
    → (IsPass (node_of d) p → AsksForRest d p e) → AsksToStep d (marking_of m) budget e
asks_on d e m p note budget from marking few rest = record { few = few; rest = λ none. marking (λ pass. none (by from (rest pass))) }
  where
    new_one : Pass
    new_one = marking_of (record m { pass = None })

    by : GoesOnFrom m p note → AsksForRest d p e → AsksForRest d (marking_of m) e
    by (inl was) r = subst (λ (o : Option Pass). AsksForRest d (unwrap_or o new_one) e) (sym was.0) r
    by (inr was) r = subst (λ (o : Option Pass). AsksForRest d (unwrap_or o new_one) e) (sym was.0) (record {
      seen = r.seen;
      begins = (r.seen, refl);
      are = subst (λ (roots : List ℕ). AreReached (node_of d) roots r.seen) was.1 r.are;
      most = let most = r.most in omega (arith, most);
    })

-- the anchors were read, and then what the newest record holds was verified
pub asks_to_mount : (d e new : Device) (r : Record) → IsGeometry d.geometry → committed_on d ≡ Some (Ok r) → OnlyReads d e → e.operations ≤ d.operations + scan_pages d → AsksToVerify e (roots_of (history_of r)) new → AsksToMount d new
asks_to_mount d e new r lawful holds reads scan verify = record {
  newest = r;
  holds = holds;
  blocks = verify.blocks;
  are = subst (λ (f : Blocks). AreReached f (roots_of (history_of r)) verify.blocks) nodes verify.are;
  most = let later = subst (λ (n : ℕ). new.operations ≤ e.operations + n) counts verify.most in omega (arith, later, scan);
}
  where
    nodes : node_of e ≡ node_of d
    nodes = OnlyReads_nodes d e lawful reads

    counts : verify_pages e verify.blocks ≡ verify_pages d verify.blocks
    counts =
        ap (λ (f : Blocks). sum_by (λ b. all_pages e.geometry.page (block_bytes e.geometry) (f b)) verify.blocks) nodes
        ∙ ap (λ (g : Geometry). sum_by (λ b. all_pages g.page (block_bytes g) (node_of d b)) verify.blocks) reads.geometry
